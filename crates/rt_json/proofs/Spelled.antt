-- The spelling of lists and objects, by their elements.
use Rattle.std.specs.Prelude.{Result, OnOk}
use Rattle.std.proofs.Common.{◌≡◌, ℕ, zero, suc, ◌+◌, ◌<◌, ◌≤◌, List, [], ◌∷◌, ◌++◌, refl, ap, sym, ◌∙◌, subst, length, drop, get_or, append_assoc, append-nil, add-one}
use Rattle.std.proofs.lemmas.List.{drop_more, drop_all}
use Rattle.rt_json.specs.Written.{written, written_member, items_written, more_items_written, members_written, more_members_written, listed, more_listed, comma_before}
use Rattle.rt_json.specs.declared.tree.Json.{Json, Row_of-Json, end_of-Json, more_of-Json, items-the_row-Json, items_hidden-the_row-Json-0, Row_of-Member, end_of-Member, more_of-Member, items-the_row-Member, items_hidden-the_row-Member-1}
use Rattle.rt_json.specs.declared.tree.Json.TheBlock.{hidden-the_row-Json-0, hidden-the_row-Member-1}
use Rattle.rt_json.specs.declared.tree.Json.TheVariants as j
use Rattle.rt_json.specs.declared.tree.named.Member.{Member}

more_items : {n : _} → (row : Row_of-Json n) → more_items_written row ≡ more_listed written (items-the_row-Json n row)
more_items end_of-Json = refl
more_items (more_of-Json tree rest) = ap (λ (xs : List ℕ). 44 ∷ written tree ++ xs) (more_items rest)

items : {n : _} → (row : Row_of-Json n) → items_written row ≡ listed written (items-the_row-Json n row)
items end_of-Json = refl
items (more_of-Json tree rest) = ap (λ (xs : List ℕ). written tree ++ xs) (more_items rest)

more_members : {n : _} → (row : Row_of-Member n) → more_members_written row ≡ more_listed written_member (items-the_row-Member n row)
more_members end_of-Member = refl
more_members (more_of-Member name value rest) = ap (λ (xs : List ℕ). 44 ∷ written_member (record { name = name; value = value }) ++ xs) (more_members rest)

members : {n : _} → (row : Row_of-Member n) → members_written row ≡ listed written_member (items-the_row-Member n row)
members end_of-Member = refl
members (more_of-Member name value rest) = ap (λ (xs : List ℕ). written_member (record { name = name; value = value }) ++ xs) (more_members rest)

pub list_written : (xs : List Json) → written (j.List xs) ≡ 91 ∷ listed written xs ++ 93 ∷ []
list_written xs = ap (λ (ys : List ℕ). 91 ∷ ys ++ 93 ∷ []) (items (hidden-the_row-Json-0 xs) ∙ ap (listed written) (items_hidden-the_row-Json-0 xs))

pub object_written : (xs : List Member) → written (j.Object xs) ≡ 123 ∷ listed written_member xs ++ 125 ∷ []
object_written xs = ap (λ (ys : List ℕ). 123 ∷ ys ++ 125 ∷ []) (members (hidden-the_row-Member-1 xs) ∙ ap (listed written_member) (items_hidden-the_row-Member-1 xs))

-- what is left to write from an element on
abbrev pub left_listed : {X : Type 0} → (X → List ℕ) → ℕ → List X → List ℕ
left_listed f zero xs = listed f xs
left_listed f (suc n) xs = more_listed f xs

left_cons : {X : Type 0} (f : X → List ℕ) (i : ℕ) (x : X) (xs : List X) → left_listed f i (x ∷ xs) ≡ comma_before i ++ (f x ++ more_listed f xs)
left_cons f zero x xs = refl
left_cons f (suc n) x xs = refl

left_nil : {X : Type 0} (f : X → List ℕ) (i : ℕ) → left_listed f i [] ≡ []
left_nil f zero = refl
left_nil f (suc n) = refl

left_next : {X : Type 0} (f : X → List ℕ) (i : ℕ) (xs : List X) → left_listed f (i + 1) xs ≡ more_listed f xs
left_next f i xs = ap (λ (n : ℕ). left_listed f n xs) (add-one i)

-- one element more is written
pub listed_step : {X : Type 0} (f : X → List ℕ) (xs : List X) (i : ℕ) (x : X) (o1 o2 o3 whole : List ℕ) → i < length xs → x ≡ get_or xs i x → o1 ++ left_listed f i (drop i xs) ≡ whole
    → o2 ≡ o1 ++ comma_before i → o3 ≡ o2 ++ f x → o3 ++ left_listed f (i + 1) (drop (i + 1) xs) ≡ whole
listed_step f xs i x o1 o2 o3 whole lt is h e2 e3 =
    let rest = drop (i + 1) xs in
    let here : drop i xs ≡ x ∷ rest = drop_more xs i x lt ∙ ap (λ y. y ∷ rest) (sym is) in
    let split : left_listed f i (drop i xs) ≡ comma_before i ++ (f x ++ more_listed f rest) = ap (left_listed f i) here ∙ left_cons f i x rest in
    let three : o3 ≡ (o1 ++ comma_before i) ++ f x = e3 ∙ ap (λ (ys : List ℕ). ys ++ f x) e2 in
    ap (λ (ys : List ℕ). o3 ++ ys) (left_next f i rest) ∙ ap (λ (ys : List ℕ). ys ++ more_listed f rest) three
    ∙ append_assoc (o1 ++ comma_before i) (f x) (more_listed f rest) ∙ append_assoc o1 (comma_before i) (f x ++ more_listed f rest)
    ∙ ap (λ (ys : List ℕ). o1 ++ ys) (sym split) ∙ h

-- all are written
pub listed_end : {X : Type 0} (f : X → List ℕ) (xs : List X) (i : ℕ) (o whole : List ℕ) → length xs ≤ i → o ++ left_listed f i (drop i xs) ≡ whole → o ≡ whole
listed_end f xs i o whole ge h = sym (append-nil o) ∙ ap (λ (ys : List ℕ). o ++ ys) (sym (ap (left_listed f i) (drop_all i xs ge) ∙ left_nil f i)) ∙ h

-- what is written of a list or an object is what is written of the tree
pub list_out : {X E : Type 0} (r : Result X E) (new old : List ℕ) (tree : Json) (xs ys : List Json) → tree ≡ j.List xs → ys ≡ xs
    → OnOk r (new ≡ (old ++ 91 ∷ listed written ys) ++ 93 ∷ []) → OnOk r (new ≡ old ++ written tree)
list_out r new old tree xs ys e f h =
    subst (λ (zs : List ℕ). OnOk r (new ≡ zs))
    (append_assoc old (91 ∷ listed written ys) (93 ∷ []) ∙ ap (λ (zs : List Json). old ++ (91 ∷ listed written zs ++ 93 ∷ [])) f ∙ ap (λ (zs : List ℕ). old ++ zs) (sym (list_written xs))
    ∙ ap (λ (t : Json). old ++ written t) (sym e)) h

pub object_out : {X E : Type 0} (r : Result X E) (new old : List ℕ) (tree : Json) (xs ys : List Member) → tree ≡ j.Object xs → ys ≡ xs
    → OnOk r (new ≡ (old ++ 123 ∷ listed written_member ys) ++ 125 ∷ []) → OnOk r (new ≡ old ++ written tree)
object_out r new old tree xs ys e f h =
    subst (λ (zs : List ℕ). OnOk r (new ≡ zs))
    (append_assoc old (123 ∷ listed written_member ys) (125 ∷ []) ∙ ap (λ (zs : List Member). old ++ (123 ∷ listed written_member zs ++ 125 ∷ [])) f
    ∙ ap (λ (zs : List ℕ). old ++ zs) (sym (object_written xs)) ∙ ap (λ (t : Json). old ++ written t) (sym e)) h
