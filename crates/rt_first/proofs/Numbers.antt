-- Each number in the tree of a text is a number of the grammar.
use Rattle.std.proofs.Common.{ℕ, zero, suc, List, [], ◌∷◌, ◌++◌, subst, sym}
use Rattle.std.specs.List.{AllByRecursion}
use Rattle.rt_json.specs.Text.{IsNumber}
use Rattle.rt_json.specs.Grammar as g
use Rattle.rt_json.specs.Grammar.{IsValue, MoreItems, IsMember, MoreMembers}
use Rattle.rt_json.specs.declared.tree.Json.{Json, out-Json}
use Rattle.rt_json.specs.declared.tree.Json.TheOpen.{Json-F}
use Rattle.rt_json.specs.declared.tree.Json.TheVariants as j
use Rattle.rt_json.specs.declared.tree.Json.TheVariants.{outs-Null, outs-Bool, outs-Num, outs-Text, outs-List, outs-Object}
use Rattle.rt_json.specs.declared.tree.named.Member.{Member}

abbrev pub NumbersFlat : Json-F Json Member → Type 0
NumbersFlat (Json-F.Num text) = IsNumber text
NumbersFlat _ = Unit {0}

abbrev pub NumbersOver : (Json → Type 0) → Json-F Json Member → Type 0
NumbersOver P (Json-F.List items) = AllByRecursion P items
NumbersOver P (Json-F.Object members) = AllByRecursion (λ m. P m.value) members
NumbersOver P flat = NumbersFlat flat

-- the numbers of so many levels
abbrev pub Numbers : ℕ → Json → Type 0
Numbers zero tree = NumbersFlat (out-Json tree)
Numbers (suc n) tree = NumbersOver (Numbers n) (out-Json tree)

module _ {X : Type 0} (P : X → Type 0) where
  one_more : (xs : List X) (x : X) → AllByRecursion P xs → P x → AllByRecursion P (xs ++ x ∷ [])
  one_more [] x a p = (p, tt)
  one_more (y ∷ ys) x a p = (a.0, one_more ys x a.1 p)

null_numbers : (n : ℕ) → Numbers n j.Null
null_numbers zero = subst NumbersFlat (sym outs-Null) tt
null_numbers (suc n) = subst (NumbersOver (Numbers n)) (sym outs-Null) tt

truth_numbers : (n : ℕ) (b : _) → Numbers n (j.Bool b)
truth_numbers zero b = subst NumbersFlat (sym (outs-Bool b)) tt
truth_numbers (suc n) b = subst (NumbersOver (Numbers n)) (sym (outs-Bool b)) tt

text_numbers : (n : ℕ) (text : List ℕ) → Numbers n (j.Text text)
text_numbers zero text = subst NumbersFlat (sym (outs-Text text)) tt
text_numbers (suc n) text = subst (NumbersOver (Numbers n)) (sym (outs-Text text)) tt

num_numbers : (n : ℕ) (text : List ℕ) → IsNumber text → Numbers n (j.Num text)
num_numbers zero text h = subst NumbersFlat (sym (outs-Num text)) h
num_numbers (suc n) text h = subst (NumbersOver (Numbers n)) (sym (outs-Num text)) h

mutual
  pub value_numbers : {n : ℕ} {v : Json} {xs ys : List ℕ} → IsValue n v xs ys → Numbers n v
  value_numbers (g.null {n = n}) = null_numbers n
  value_numbers (g.truth {n = n}) = truth_numbers n _
  value_numbers (g.falsity {n = n}) = truth_numbers n _
  value_numbers (g.number {n = n} {text = text} is) = num_numbers n text is
  value_numbers (g.text {n = n} {text = text} is) = text_numbers n text
  value_numbers (g.no_items {n = n} bl) = subst (NumbersOver (Numbers n)) (sym (outs-List [])) tt
  value_numbers (g.items {n = n} {all = all} bl v more) =
      subst (NumbersOver (Numbers n)) (sym (outs-List all)) (items_numbers more (value_numbers v, tt))
  value_numbers (g.no_members {n = n} bl) = subst (NumbersOver (Numbers n)) (sym (outs-Object [])) tt
  value_numbers (g.members {n = n} {all = all} m more) =
      subst (NumbersOver (Numbers n)) (sym (outs-Object all)) (members_numbers more (member_numbers m, tt))

  items_numbers : {n : ℕ} {before all : List Json} {xs ys : List ℕ} → MoreItems n before all xs ys
      → AllByRecursion (Numbers n) before → AllByRecursion (Numbers n) all
  items_numbers (g.close_list bl) a = a
  items_numbers (g.next_item {n = n} {v = v} {before = before} bl bm one more) a =
      items_numbers more (one_more (Numbers n) before v a (value_numbers one))

  member_numbers : {n : ℕ} {m : Member} {xs ys : List ℕ} → IsMember n m xs ys → Numbers n m.value
  member_numbers (g.named bl text bm bn v) = value_numbers v

  members_numbers : {n : ℕ} {before all : List Member} {xs ys : List ℕ} → MoreMembers n before all xs ys
      → AllByRecursion (λ (m : Member). Numbers n m.value) before
      → AllByRecursion (λ (m : Member). Numbers n m.value) all
  members_numbers (g.close_object bl) a = a
  members_numbers (g.next_member {n = n} {m = m} {before = before} bl one more) a =
      members_numbers more (one_more (λ (x : Member). Numbers n x.value) before m a (member_numbers one))
