-- That the texts of a tree are UTF-8, by its outermost level.
use Rattle.std.specs.Prelude.{⊤, Result, Ok, Err, OnOk, IfOk, IsUtf8}
use Rattle.std.specs.List.{AllByRecursion}
use Rattle.std.proofs.Common.{◌≡◌, ℕ, zero, suc, ◌+◌, ◌<◌, ◌≤◌, List, [], ◌∷◌, ap, sym, ◌∙◌, subst, length, drop, get_or}
use Rattle.std.proofs.lemmas.List.{drop_more, drop_all}
use Rattle.rt_json.specs.Fits.{FitsFlat, FitsOver, FitsWithin, NestsFlat, NestsOver, NestsWithin, HasUtf8Texts, HasUtf8Member, IsWellNested}
use Rattle.rt_json.specs.Grammar.{IsJson, max_levels}
use Rattle.rt_json.specs.Written.{written}
use Rattle.rt_json.specs.declared.tree.Json.{Json, out-Json}
use Rattle.rt_json.specs.declared.tree.Json.TheOpen.{Json-F}
use Rattle.rt_json.specs.declared.tree.named.Member.{Member}
use Rattle.rt_json.proofs.Back.{json_written}

all_by : {X : Type 0} (R N F : X → Type 0) → ((x : X) → R x → N x → F x) → (xs : List X)
    → AllByRecursion R xs → AllByRecursion N xs → AllByRecursion F xs
all_by R N F each [] r n = tt
all_by R N F each (x ∷ xs) r n = (each x r.0 n.0, all_by R N F each xs r.1 n.1)

-- what is known of the outermost level
abbrev pub Layer : Json-F Json Member → Type 0
Layer (Json-F.Text text) = IsUtf8 text
Layer (Json-F.List items) = AllByRecursion HasUtf8Texts items
Layer (Json-F.Object members) = AllByRecursion HasUtf8Member members
Layer _ = ⊤

flat_fits : (layer : Json-F Json Member) → Layer layer → NestsFlat layer → FitsFlat layer
flat_fits Json-F.Null r n = tt
flat_fits (Json-F.Bool b) r n = tt
flat_fits (Json-F.Num text) r n = n
flat_fits (Json-F.Text text) r n = r
flat_fits (Json-F.List items) r n = n
flat_fits (Json-F.Object members) r n = n

over_fits : (levels : ℕ) (layer : Json-F Json Member) → Layer layer → NestsOver (NestsWithin levels) layer → FitsOver (FitsWithin levels) layer
over_fits levels Json-F.Null r n = tt
over_fits levels (Json-F.Bool b) r n = tt
over_fits levels (Json-F.Num text) r n = n
over_fits levels (Json-F.Text text) r n = r
over_fits levels (Json-F.List items) r n =
    all_by HasUtf8Texts (NestsWithin levels) (FitsWithin levels) (λ tree u. u levels) items r n
over_fits levels (Json-F.Object members) r n =
    all_by HasUtf8Member (λ m. NestsWithin levels m.value) (λ m. IsUtf8 m.name × FitsWithin levels m.value)
    (λ m u nests. (u.0, u.1 levels nests)) members r n

pub texts_of : (tree : Json) (layer : Json-F Json Member) → out-Json tree ≡ layer → Layer layer → HasUtf8Texts tree
texts_of tree layer e r zero n = subst FitsFlat (sym e) (flat_fits layer r (subst NestsFlat e n))
texts_of tree layer e r (suc levels) n =
    subst (FitsOver (FitsWithin levels)) (sym e) (over_fits levels layer r (subst (NestsOver (NestsWithin levels)) e n))

pub whatever : {X E : Type 0} (r : Result X E) (P : Type 0) → P → OnOk r P
whatever (Ok x) P p = p
whatever (Err e) P p = tt

pub texts_on : {X E : Type 0} (r : Result X E) (tree : Json) (layer : Json-F Json Member) → out-Json tree ≡ layer → OnOk r (Layer layer)
    → OnOk r (HasUtf8Texts tree)
texts_on (Ok x) tree layer e h = texts_of tree layer e h
texts_on (Err error) tree layer e h = tt

-- one element more is known
pub one_known : {X : Type 0} (R : X → Type 0) (xs : List X) (i : ℕ) (x : X) → i < length xs → x ≡ get_or xs i x → R x
    → (AllByRecursion R (drop i xs) → AllByRecursion R xs) → AllByRecursion R (drop (i + 1) xs) → AllByRecursion R xs
one_known R xs i x lt is known before rest =
    before (subst (AllByRecursion R) (sym (drop_more xs i x lt ∙ ap (λ y. y ∷ drop (i + 1) xs) (sym is))) (known, rest))

-- all are known
pub all_known : {X : Type 0} (R : X → Type 0) (xs : List X) (i : ℕ) → length xs ≤ i → (AllByRecursion R (drop i xs) → AllByRecursion R xs)
    → AllByRecursion R xs
all_known R xs i ge before = before (subst (AllByRecursion R) (sym (drop_all i xs ge)) tt)

-- what is written of a tree that nests is read again
pub again : (tree : Json) → HasUtf8Texts tree → IsWellNested tree → IsJson (written tree) tree
unfolding IsWellNested
again tree texts nests = json_written max_levels tree (texts max_levels nests)
