-- The last member of a name, the members of an object, the items of a list.
use Rattle.std.specs.Str.{bytes_eq}
use Rattle.std.proofs.Common.{◌≡◌, ℕ, ◌+◌, ◌<◌, Bool, true, List, [], ◌∷◌, ◌++◌, Option, Some, None, refl, ap, sym, ◌∙◌, length, take, drop, get_or, cond}
use Rattle.std.proofs.lemmas.List.{drop_more, take-append-drop}
use Rattle.std.specs.Option.{option_or}
use Rattle.rt_json.specs.Grammar.{member}
use Rattle.rt_json.specs.Lookup.{last_named, members_of, member_of, row_members}
use Rattle.rt_json.specs.Trees.{list_of, row_items}
use Rattle.rt_json.specs.declared.tree.Json.{Json, Row_of-Json, end_of-Json, more_of-Json, items-the_row-Json, items_hidden-the_row-Json-0, Row_of-Member, end_of-Member, more_of-Member, items-the_row-Member, items_hidden-the_row-Member-1}
use Rattle.rt_json.specs.declared.tree.Json.TheBlock.{hidden-the_row-Json-0, hidden-the_row-Member-1}
use Rattle.rt_json.specs.declared.tree.Json.TheVariants as j
use Rattle.rt_json.specs.declared.tree.named.Member.{Member}

-- what is found from a place on is found
last_behind : (name : List ℕ) (xs ms : List Member) (v : Json) → last_named name ms ≡ Some v → last_named name (xs ++ ms) ≡ Some v
last_behind name [] ms v h = h
last_behind name (x ∷ xs) ms v h = ap (λ (o : Option Json). option_or o (cond (bytes_eq x.name name) (Some x.value) None)) (last_behind name xs ms v h)

pub last_at : (name : List ℕ) (members : List Member) (at i : ℕ) (m d : Member) → i + 1 ≡ at → i < length members → m ≡ get_or members i m → d ≡ get_or members i d
    → last_named name (drop at members) ≡ None → bytes_eq m.name name ≡ true → last_named name members ≡ Some d.value
last_at name members at i m d next lt is same none e =
    let rest : List Member = drop (i + 1) members in
    let here : drop i members ≡ m ∷ rest = drop_more members i m lt ∙ ap (λ x. x ∷ rest) (sym is) in
    let there : drop i members ≡ d ∷ rest = drop_more members i d lt ∙ ap (λ x. x ∷ rest) (sym same) in
    let one : m ≡ d = let both : m ∷ rest ≡ d ∷ rest = sym here ∙ there in cc in
    let after : last_named name rest ≡ None = ap (λ (n : ℕ). last_named name (drop n members)) next ∙ none in
    let found : last_named name (m ∷ rest) ≡ Some m.value =
    ap (λ (o : Option Json). option_or o (cond (bytes_eq m.name name) (Some m.value) None)) after ∙ ap (λ (b : Bool). cond b (Some m.value) None) e in
    ap (last_named name) (sym (take-append-drop i members))
    ∙ last_behind name (take i members) (drop i members) m.value (ap (last_named name) here ∙ found) ∙ ap (λ (x : Member). Some x.value) one

-- the members of an object
row_is : {n : _} → (row : Row_of-Member n) → row_members row ≡ items-the_row-Member n row
row_is end_of-Member = refl
row_is (more_of-Member name value rest) = ap (λ (xs : List Member). member name value ∷ xs) (row_is rest)

pub object_members : (ms : List Member) → members_of (j.Object ms) ≡ ms
object_members ms = row_is (hidden-the_row-Member-1 ms) ∙ items_hidden-the_row-Member-1 ms

pub object_at : (ms : List Member) (name : List ℕ) → member_of (j.Object ms) name ≡ last_named name ms
object_at ms name = ap (last_named name) (object_members ms)

pub member_is : (tree : Json) (name : List ℕ) (ms ns : List Member) → tree ≡ j.Object ms → ns ≡ ms → member_of tree name ≡ last_named name ns
member_is tree name ms ns e f = ap (λ (t : Json). member_of t name) e ∙ ap (last_named name) (object_members ms ∙ sym f)

-- the items of a list
items_are : {n : _} → (row : Row_of-Json n) → row_items row ≡ items-the_row-Json n row
items_are end_of-Json = refl
items_are (more_of-Json tree rest) = ap (λ (xs : List Json). tree ∷ xs) (items_are rest)

pub list_items : (xs : List Json) → list_of (j.List xs) ≡ Some xs
list_items xs = ap (λ (ys : List Json). Some ys) (items_are (hidden-the_row-Json-0 xs) ∙ items_hidden-the_row-Json-0 xs)
