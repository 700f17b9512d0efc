-- What is written is in the grammar.
use Rattle.std.proofs.Common.{◌≡◌, ℕ, zero, suc, true, false, List, [], ◌∷◌, ◌++◌, refl, ap, subst, sym, ◌∙◌, append_assoc, append-nil}
use Rattle.std.specs.Prelude.{IsUtf8}
use Rattle.std.specs.List.{AllByRecursion}
use Rattle.rt_json.specs.Grammar as g
use Rattle.rt_json.specs.Grammar.{IsValue, MoreItems, IsMember, MoreMembers, IsWithin, member}
use Rattle.rt_json.specs.Fits.{FitsFlat, FitsOver, FitsWithin}
use Rattle.rt_json.specs.Written.{written, written_member, listed, more_listed, quoted}
use Rattle.rt_json.specs.declared.tree.Json.{Json, out-Json, roll-Json, roll-out-Json}
use Rattle.rt_json.specs.declared.tree.Json.TheVariants as j
use Rattle.rt_json.specs.declared.tree.Json.TheVariants.{rolls-Null, rolls-Bool, rolls-Num, rolls-Text, rolls-List, rolls-Object}
use Rattle.rt_json.specs.declared.tree.Json.TheOpen.{Json-F}
use Rattle.rt_json.specs.declared.tree.named.Member.{Member}
use Rattle.rt_json.proofs.Escapes.{text_again}
use Rattle.rt_json.proofs.Spelled.{list_written, object_written}

-- a value is spelled, whatever follows
abbrev Spells : ℕ → Json → Type 0
Spells n tree = (ys : List ℕ) → IsValue n tree (written tree ++ ys) ys

more_items : (n : ℕ) (F : Json → Type 0) → ((x : Json) → F x → Spells n x) → (before xs : List Json) (ys : List ℕ) → AllByRecursion F xs → MoreItems n before (before ++ xs) (more_listed written xs ++ 93 ∷ ys) ys
more_items n F each before [] ys h = subst (λ (all : List Json). MoreItems n before all (93 ∷ ys) ys) (sym (append-nil before)) (g.close_list g.no_blank)
more_items n F each before (x ∷ xs) ys h =
    let rest : List ℕ = more_listed written xs ++ 93 ∷ ys in
    let more = subst (λ (all : List Json). MoreItems n (before ++ x ∷ []) all rest ys) (append_assoc before (x ∷ []) xs) (more_items n F each (before ++ x ∷ []) xs ys h.1) in
    subst (λ (zs : List ℕ). MoreItems n before (before ++ x ∷ xs) (44 ∷ zs) ys) (sym (append_assoc (written x) (more_listed written xs) (93 ∷ ys)))
    (g.next_item g.no_blank g.no_blank (each x h.0 rest) more)

list_spelled : (n : ℕ) (F : Json → Type 0) → ((x : Json) → F x → Spells n x) → (xs : List Json) (ys : List ℕ) → AllByRecursion F xs → IsValue (suc n) (j.List xs) ((91 ∷ listed written xs ++ 93 ∷ []) ++ ys) ys
list_spelled n F each [] ys h = g.no_items g.no_blank
list_spelled n F each (x ∷ xs) ys h =
    let rest : List ℕ = more_listed written xs ++ 93 ∷ ys in
    let regrouped : ((written x ++ more_listed written xs) ++ 93 ∷ []) ++ ys ≡ written x ++ (more_listed written xs ++ 93 ∷ ys) = simp append_assoc in
    subst (λ (zs : List ℕ). IsValue (suc n) (j.List (x ∷ xs)) (91 ∷ zs) ys) (sym regrouped)
    (g.items g.no_blank (each x h.0 rest) (more_items n F each (x ∷ []) xs ys h.1))

abbrev Fits : (Json → Type 0) → Member → Type 0
Fits F one = IsUtf8 one.name × F one.value

member_spelled : (n : ℕ) (F : Json → Type 0) → ((x : Json) → F x → Spells n x) → (one : Member) (ys : List ℕ) → Fits F one → IsMember n one (written_member one ++ ys) ys
member_spelled n F each one ys h =
    let rest : List ℕ = 58 ∷ written one.value ++ ys in
    let regrouped : (quoted one.name ++ 58 ∷ written one.value) ++ ys ≡ quoted one.name ++ 58 ∷ (written one.value ++ ys) = append_assoc (quoted one.name) (58 ∷ written one.value) ys in
    subst (λ (zs : List ℕ). IsMember n one zs ys) (sym regrouped)
    (g.named g.no_blank (text_again one.name (58 ∷ (written one.value ++ ys)) h.0) g.no_blank g.no_blank (each one.value h.1 ys))

more_members : (n : ℕ) (F : Json → Type 0) → ((x : Json) → F x → Spells n x) → (before xs : List Member) (ys : List ℕ) → AllByRecursion (Fits F) xs
    → MoreMembers n before (before ++ xs) (more_listed written_member xs ++ 125 ∷ ys) ys
more_members n F each before [] ys h = subst (λ (all : List Member). MoreMembers n before all (125 ∷ ys) ys) (sym (append-nil before)) (g.close_object g.no_blank)
more_members n F each before (x ∷ xs) ys h =
    let rest : List ℕ = more_listed written_member xs ++ 125 ∷ ys in
    let more = subst (λ (all : List Member). MoreMembers n (before ++ x ∷ []) all rest ys) (append_assoc before (x ∷ []) xs) (more_members n F each (before ++ x ∷ []) xs ys h.1) in
    subst (λ (zs : List ℕ). MoreMembers n before (before ++ x ∷ xs) (44 ∷ zs) ys) (sym (append_assoc (written_member x) (more_listed written_member xs) (125 ∷ ys)))
    (g.next_member g.no_blank (member_spelled n F each x rest h.0) more)

object_spelled : (n : ℕ) (F : Json → Type 0) → ((x : Json) → F x → Spells n x) → (xs : List Member) (ys : List ℕ) → AllByRecursion (Fits F) xs
    → IsValue (suc n) (j.Object xs) ((123 ∷ listed written_member xs ++ 125 ∷ []) ++ ys) ys
object_spelled n F each [] ys h = g.no_members g.no_blank
object_spelled n F each (x ∷ xs) ys h =
    let rest : List ℕ = more_listed written_member xs ++ 125 ∷ ys in
    let regrouped : ((written_member x ++ more_listed written_member xs) ++ 125 ∷ []) ++ ys ≡ written_member x ++ (more_listed written_member xs ++ 125 ∷ ys) = simp append_assoc in
    subst (λ (zs : List ℕ). IsValue (suc n) (j.Object (x ∷ xs)) (123 ∷ zs) ys) (sym regrouped)
    (g.members (member_spelled n F each x rest h.0) (more_members n F each (x ∷ []) xs ys h.1))

-- a tree by its outermost level
rolled : (tree other : Json) (layer : Json-F Json Member) → out-Json tree ≡ layer → roll-Json layer ≡ other → other ≡ tree
rolled tree other layer e r = sym r ∙ ap roll-Json (sym e) ∙ roll-out-Json tree

flat_spelled : (n : ℕ) (tree : Json) (layer : Json-F Json Member) → out-Json tree ≡ layer → FitsFlat layer → Spells n tree
flat_spelled n tree Json-F.Null e h = subst (Spells n) (rolled tree j.Null Json-F.Null e rolls-Null) (λ ys. g.null)
flat_spelled n tree (Json-F.Bool true) e h = subst (Spells n) (rolled tree (j.Bool true) (Json-F.Bool true) e (rolls-Bool true)) (λ ys. g.truth)
flat_spelled n tree (Json-F.Bool false) e h = subst (Spells n) (rolled tree (j.Bool false) (Json-F.Bool false) e (rolls-Bool false)) (λ ys. g.falsity)
flat_spelled n tree (Json-F.Num text) e h = subst (Spells n) (rolled tree (j.Num text) (Json-F.Num text) e (rolls-Num text)) (λ ys. g.number h)
flat_spelled n tree (Json-F.Text text) e h = subst (Spells n) (rolled tree (j.Text text) (Json-F.Text text) e (rolls-Text text)) (λ ys. g.text (text_again text ys h))
flat_spelled n tree (Json-F.List items) e h = absurd h
flat_spelled n tree (Json-F.Object members) e h = absurd h

over_spelled : (n : ℕ) (F : Json → Type 0) → ((x : Json) → F x → Spells n x) → (tree : Json) (layer : Json-F Json Member) → out-Json tree ≡ layer → FitsOver F layer → Spells (suc n) tree
over_spelled n F each tree (Json-F.List items) e h =
    subst (Spells (suc n)) (rolled tree (j.List items) (Json-F.List items) e (rolls-List items))
    (λ ys. subst (λ (xs : List ℕ). IsValue (suc n) (j.List items) (xs ++ ys) ys) (sym (list_written items)) (list_spelled n F each items ys h))
over_spelled n F each tree (Json-F.Object members) e h =
    subst (Spells (suc n)) (rolled tree (j.Object members) (Json-F.Object members) e (rolls-Object members))
    (λ ys. subst (λ (xs : List ℕ). IsValue (suc n) (j.Object members) (xs ++ ys) ys) (sym (object_written members)) (object_spelled n F each members ys h))
over_spelled n F each tree Json-F.Null e h = flat_spelled (suc n) tree Json-F.Null e h
over_spelled n F each tree (Json-F.Bool b) e h = flat_spelled (suc n) tree (Json-F.Bool b) e h
over_spelled n F each tree (Json-F.Num text) e h = flat_spelled (suc n) tree (Json-F.Num text) e h
over_spelled n F each tree (Json-F.Text text) e h = flat_spelled (suc n) tree (Json-F.Text text) e h

spelled : (n : ℕ) (tree : Json) → FitsWithin n tree → Spells n tree
spelled zero tree h = flat_spelled zero tree (out-Json tree) refl h
spelled (suc n) tree h = over_spelled n (FitsWithin n) (spelled n) tree (out-Json tree) refl h

pub json_written : (levels : ℕ) (tree : Json) → FitsWithin levels tree → IsWithin levels tree (written tree)
json_written levels tree h = record {
  first = written tree;
  last = [];
  before = g.no_blank;
  value = subst (λ (xs : List ℕ). IsValue levels tree xs []) (append-nil (written tree)) (spelled levels tree h []);
  after = g.no_blank;
}
