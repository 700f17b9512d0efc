-- What is read of a text fits: its texts are UTF-8, its numbers of the grammar, and it nests as deep as its levels.
use Rattle.std.proofs.Common.{◌≡◌, ℕ, zero, suc, ◌+◌, ◌<◌, Bool, true, false, List, [], ◌∷◌, cond, inr, Option, Some}
use Rattle.std.proofs.Common.{None, sym, subst, arith}
use Rattle.std.specs.Prelude.{⊤, IsUtf8, encode_utf8, ◌==◌, ◌||◌}
use Rattle.std.specs.List.{AllByRecursion}
use Rattle.std.proofs.lemmas.Bool.{cond_both}
use Rattle.std.proofs.lemmas.Bool.Decides.{nat_tests}
use Rattle.std.proofs.lemmas.Str.{IsUtf8-append, IsUtf8-encode, IsUtf8-nil}
use Rattle.rt_json.specs.Text as t
use Rattle.rt_json.specs.Text.{IsRest, IsText, IsNumber, short_escape, is_high, is_low, pair_code}
use Rattle.rt_json.specs.Grammar as g
use Rattle.rt_json.specs.Grammar.{IsValue, MoreItems, IsMember, MoreMembers, IsWithin}
use Rattle.rt_json.specs.Fits.{FitsFlat, FitsOver, FitsWithin}
use Rattle.rt_json.specs.declared.tree.Json.{Json, Null, Bool as Truth, Num, Text, out-Json, roll-Json, roll-out-Json}
use Rattle.rt_json.specs.declared.tree.Json.TheOpen.{Json-F}
use Rattle.rt_json.specs.declared.tree.Json.TheVariants.{outs-Null, outs-Bool, outs-Text, outs-Num, outs-List}
use Rattle.rt_json.specs.declared.tree.Json.TheVariants.{outs-Object, rolls-Null, rolls-Bool, rolls-Num, rolls-Text}
use Rattle.rt_json.specs.declared.tree.Json.TheVariants.{rolls-List, rolls-Object}
use Rattle.rt_json.specs.declared.tree.Json.TheVariants as j
use Rattle.rt_json.specs.declared.tree.named.Member.{Member}
use Rattle.rt_json.specs.Lookup.{last_named, members_of, member_of}
use Rattle.std.specs.Str.{bytes_eq}
use Rattle.std.specs.Option.{option_or}
use Rattle.rt_value.proofs.Plain.{Maybe, all_append, all_weaker}
use Rattle.rt_json.proofs.Lookups.{object_members}
use Rattle.rt_json.proofs.Hex.{low_range, high_range}
use Rattle.rt_json.proofs.Utf8.{is_a_scalar}
use Rattle.rt_json.proofs.WrittenUtf8.{one_byte}

-- texts

abbrev IsSmall : Option ℕ → Type 0
IsSmall None = ⊤
IsSmall (Some c) = c < 128

itself : (x : ℕ) → ((x == 34) || (x == 92) || (x == 47)) ≡ true → x < 128
itself x h = grind (arith, nat_tests)

small : (x c : ℕ) → short_escape x ≡ Some c → c < 128
small x c e =
    let goes : IsSmall (short_escape x) =
    cond_both ((x == 34) || (x == 92) || (x == 47)) _ _ IsSmall (itself x) (λ _.
    cond_both (x == 98) _ _ IsSmall (λ _. omega arith) (λ _. cond_both (x == 102) _ _ IsSmall (λ _. omega arith) (λ _.
    cond_both (x == 110) _ _ IsSmall (λ _. omega arith) (λ _. cond_both (x == 114) _ _ IsSmall (λ _. omega arith) (λ _.
    cond_both (x == 116) _ _ IsSmall (λ _. omega arith) (λ _. tt)))))) in
    subst IsSmall e goes

pair_utf8 : (high low : ℕ) → is_high high ≡ true → is_low low ≡ true → IsUtf8 (encode_utf8 (pair_code high low))
pair_utf8 high low hi lo =
    let h = high_range high hi in
    let l = low_range low lo in
    let a = h.0 in
    let b = h.1 in
    let d = l.0 in
    let e = l.1 in
    IsUtf8-encode (pair_code high low) (is_a_scalar (pair_code high low) (omega arith) (inr (omega arith)))

rest_utf8 : {before all xs ys : List ℕ} → IsRest before all xs ys → IsUtf8 before → IsUtf8 all
rest_utf8 t.quote h = h
rest_utf8 (t.plain {c = c} {before = before} is more) h =
    rest_utf8 more (IsUtf8-append before (encode_utf8 c) h (IsUtf8-encode c is.0))
rest_utf8 (t.short {x = x} {c = c} {before = before} is more) h =
    rest_utf8 more (IsUtf8-append before (c ∷ []) h (one_byte c (small x c is)))
rest_utf8 (t.unit {u = u} {before = before} is ok more) h =
    rest_utf8 more (IsUtf8-append before (encode_utf8 u) h (IsUtf8-encode u ok))
rest_utf8 (t.pair {high = high} {low = low} {before = before} one hi two lo more) h =
    rest_utf8 more (IsUtf8-append before (encode_utf8 (pair_code high low)) h (pair_utf8 high low hi lo))

text_utf8 : {text xs ys : List ℕ} → IsText text xs ys → IsUtf8 text
text_utf8 (t.quoted rest) = rest_utf8 rest IsUtf8-nil

-- flat trees

pub null_fits : (levels : ℕ) → FitsWithin levels Null
null_fits zero = subst FitsFlat (sym outs-Null) tt
null_fits (suc n) = subst (FitsOver (FitsWithin n)) (sym outs-Null) tt

pub truth_fits : (levels : ℕ) (b : Bool) → FitsWithin levels (j.Bool b)
truth_fits zero b = subst FitsFlat (sym (outs-Bool b)) tt
truth_fits (suc n) b = subst (FitsOver (FitsWithin n)) (sym (outs-Bool b)) tt

pub text_fits : (levels : ℕ) (text : List ℕ) → IsUtf8 text → FitsWithin levels (Text text)
text_fits zero text h = subst FitsFlat (sym (outs-Text text)) h
text_fits (suc n) text h = subst (FitsOver (FitsWithin n)) (sym (outs-Text text)) h

pub number_fits : (levels : ℕ) (digits : List ℕ) → IsNumber digits → FitsWithin levels (Num digits)
number_fits zero digits h = subst FitsFlat (sym (outs-Num digits)) h
number_fits (suc n) digits h = subst (FitsOver (FitsWithin n)) (sym (outs-Num digits)) h

-- lists and objects

abbrev pub MemberFits : ℕ → Member → Type 0
MemberFits levels m = IsUtf8 m.name × FitsWithin levels m.value

pub list_fits : (levels : ℕ) (items : List Json) → AllByRecursion (FitsWithin levels) items
    → FitsWithin (suc levels) (j.List items)
list_fits levels items h = subst (FitsOver (FitsWithin levels)) (sym (outs-List items)) h

pub object_fits : (levels : ℕ) (members : List Member) → AllByRecursion (MemberFits levels) members
    → FitsWithin (suc levels) (j.Object members)
object_fits levels members h = subst (FitsOver (FitsWithin levels)) (sym (outs-Object members)) h

mutual
  value_fits : {n : ℕ} {v : Json} {xs ys : List ℕ} → IsValue n v xs ys → FitsWithin n v
  value_fits (g.null {n = n}) = null_fits n
  value_fits (g.truth {n = n}) = truth_fits n true
  value_fits (g.falsity {n = n}) = truth_fits n false
  value_fits (g.number {n = n} {text = text} is) = number_fits n text is
  value_fits (g.text {n = n} {text = text} is) = text_fits n text (text_utf8 is)
  value_fits (g.no_items {n = n} bl) = list_fits n [] tt
  value_fits (g.items {n = n} {v = v} {all = all} bl is more) = list_fits n all (items_fit more (value_fits is, tt))
  value_fits (g.no_members {n = n} bl) = object_fits n [] tt
  value_fits (g.members {n = n} {m = m} {all = all} is more) = object_fits n all (members_fit more (member_fits is, tt))

  items_fit : {n : ℕ} {before all : List Json} {xs ys : List ℕ} → MoreItems n before all xs ys
      → AllByRecursion (FitsWithin n) before
      → AllByRecursion (FitsWithin n) all
  items_fit (g.close_list bl) h = h
  items_fit (g.next_item {n = n} {v = v} {before = before} a b is more) h = items_fit more
      (all_append (FitsWithin n) before (v ∷ []) h (value_fits is, tt))

  member_fits : {n : ℕ} {m : Member} {xs ys : List ℕ} → IsMember n m xs ys → MemberFits n m
  member_fits (g.named ba name bl bm is) = (text_utf8 name, value_fits is)

  members_fit : {n : ℕ} {before all : List Member} {xs ys : List ℕ} → MoreMembers n before all xs ys
      → AllByRecursion (MemberFits n) before
      → AllByRecursion (MemberFits n) all
  members_fit (g.close_object bl) h = h
  members_fit (g.next_member {n = n} {m = m} {before = before} a is more) h = members_fit more
      (all_append (MemberFits n) before (m ∷ []) h (member_fits is, tt))

-- what a text is read as fits in its levels
pub read_fits : (levels : ℕ) (tree : Json) (bytes : List ℕ) → IsWithin levels tree bytes → FitsWithin levels tree
read_fits levels tree bytes w = value_fits w.value

-- with more levels it fits as well

flat_more : (F : Json → Type 0) (layer : Json-F Json Member) → FitsFlat layer → FitsOver F layer
flat_more F Json-F.Null h = h
flat_more F (Json-F.Bool b) h = h
flat_more F (Json-F.Num text) h = h
flat_more F (Json-F.Text text) h = h
flat_more F (Json-F.List items) h = absurd h
flat_more F (Json-F.Object members) h = absurd h

over_more : (F G : Json → Type 0) → ((x : Json) → F x → G x) → (layer : Json-F Json Member) → FitsOver F layer
    → FitsOver G layer
over_more F G f Json-F.Null h = h
over_more F G f (Json-F.Bool b) h = h
over_more F G f (Json-F.Num text) h = h
over_more F G f (Json-F.Text text) h = h
over_more F G f (Json-F.List items) h = all_weaker F G items f h
over_more F G f (Json-F.Object members) h =
    all_weaker (λ (m : Member). IsUtf8 m.name × F m.value) (λ (m : Member). IsUtf8 m.name × G m.value) members
    (λ m k. (k.0, f m.value k.1)) h

fits_next : (levels : ℕ) (tree : Json) → FitsWithin levels tree → FitsWithin (suc levels) tree
fits_next zero tree h = flat_more (FitsWithin zero) (out-Json tree) h
fits_next (suc n) tree h = over_more (FitsWithin n) (FitsWithin (suc n)) (fits_next n) (out-Json tree) h

pub fits_up : (more levels : ℕ) (tree : Json) → FitsWithin levels tree → FitsWithin (more + levels) tree
fits_up zero levels tree h = let e : levels ≡ zero + levels = omega arith in subst (λ (n : ℕ). FitsWithin n tree) e h
fits_up (suc more) levels tree h =
    let e : suc (more + levels) ≡ suc more + levels = omega arith in
    subst (λ (n : ℕ). FitsWithin n tree) e (fits_next (more + levels) tree (fits_up more levels tree h))

-- what stands in a tree that fits

-- by the outermost level of a tree
pub by_level : (F : Json-F Json Member → Type 0) (P : Json → Type 0) (tree : Json)
    → ((level : Json-F Json Member) → F level → P (roll-Json level))
    → F (out-Json tree) → P tree
by_level F P tree f h = subst P (roll-out-Json tree) (f (out-Json tree) h)

abbrev MembersFit : ℕ → Json → Type 0
MembersFit levels tree = AllByRecursion (MemberFits levels) (members_of tree)

pub members_fits : (levels : ℕ) (tree : Json) → FitsWithin (suc levels) tree
    → AllByRecursion (MemberFits levels) (members_of tree)
members_fits levels tree h = by_level (FitsOver (FitsWithin levels)) (MembersFit levels) tree by h
  where
    by : (level : Json-F Json Member) → FitsOver (FitsWithin levels) level → MembersFit levels (roll-Json level)
    by (Json-F.Object members) k = subst (MembersFit levels) (sym (rolls-Object members))
        (subst (AllByRecursion (MemberFits levels)) (sym (object_members members)) k)
    by Json-F.Null k = subst (MembersFit levels) (sym rolls-Null) tt
    by (Json-F.Bool b) k = subst (MembersFit levels) (sym (rolls-Bool b)) tt
    by (Json-F.Num text) k = subst (MembersFit levels) (sym (rolls-Num text)) tt
    by (Json-F.Text text) k = subst (MembersFit levels) (sym (rolls-Text text)) tt
    by (Json-F.List items) k = subst (MembersFit levels) (sym (rolls-List items)) tt

pub last_fits : (levels : ℕ) (name : List ℕ) (members : List Member) → AllByRecursion (MemberFits levels) members
    → Maybe (FitsWithin levels) (last_named name members)
last_fits levels name [] h = tt
last_fits levels name (m ∷ ms) h = by (last_named name ms) (bytes_eq m.name name) (last_fits levels name ms h.1)
  where
    by : (o : Option Json) (b : Bool) → Maybe (FitsWithin levels) o
        → Maybe (FitsWithin levels) (option_or o (cond b (Some m.value) None))
    by (Some x) b k = k
    by None true k = h.0.1
    by None false k = tt

pub member_fits_in : (levels : ℕ) (tree : Json) (name : List ℕ) → FitsWithin (suc levels) tree
    → Maybe (FitsWithin levels) (member_of tree name)
member_fits_in levels tree name h = last_fits levels name (members_of tree) (members_fits levels tree h)

-- a text that stands there is UTF-8
pub text_in_utf8 : (levels : ℕ) (tree : Json) (text : List ℕ) → FitsWithin (suc levels) tree
    → out-Json tree ≡ Json-F.Text text → IsUtf8 text
text_in_utf8 levels tree text h e = subst (FitsOver (FitsWithin levels)) e h
