-- Trees of one variant are equal where what they hold is, and so are members of one name.
use Rattle.std.proofs.Common.{◌≡◌, ℕ, List, [], ◌∷◌, length, get_or, refl, ap, sym, ◌∙◌, Bool, true, false, ◌==◌, arith}
use Rattle.rt_json.specs.declared.tree.Json.{Json, out-Json}
use Rattle.rt_json.specs.declared.tree.Json.TheOpen.{Json-F}
use Rattle.rt_json.specs.declared.tree.Json.TheVariants as j
use Rattle.rt_json.specs.declared.tree.Json.TheVariants.{outs-Object, outs-List}
use Rattle.rt_json.specs.declared.tree.named.Member.{Member}
use Rattle.std.proofs.Common.{codes, Err}
use Rattle.std.proofs.Common.{Some, subst}
use Rattle.std.proofs.lemmas.Bool.{eqb-true}
use Rattle.rt_json.specs.Answers.{IsTree}
use Rattle.rt_json.specs.declared.fault.JsonFault.{JsonFault}
use Rattle.rt_json.specs.declared.fault.JsonFault.TheVariants as json
use Rattle.rt_json.specs.Trees.{field}
use Rattle.rt_form.specs.Faults.{of_json}
use Rattle.rt_form.specs.Script.{frame_tree, insert_tree, IsField, IsInsertTree, IsRow, IsRowLine, AreSaid}
use Rattle.rt_form.specs.declared.fault.FormFault.TheVariants as form
use Rattle.rt_form.specs.declared.catalogue.Catalogue.{Catalogue}
use Rattle.rt_form.specs.declared.catalogue.Column.{Column}
use Rattle.rt_form.specs.declared.script.Join.{Join}
use Rattle.rt_form.specs.declared.script.Script.{Script}

pub same_members : (a b : List Member) → j.Object a ≡ j.Object b → a ≡ b
same_members a b e = let layer : Json-F.Object a ≡ Json-F.Object b = sym (outs-Object a) ∙ ap out-Json e
    ∙ outs-Object b in cc

pub same_items : (a b : List Json) → j.List a ≡ j.List b → a ≡ b
same_items a b e = let layer : Json-F.List a ≡ Json-F.List b = sym (outs-List a) ∙ ap out-Json e ∙ outs-List b in cc

-- the members of a tree, found twice
pub members_twice : (tree : Json) (a b : List Member) → tree ≡ j.Object a → tree ≡ j.Object b → a ≡ b
members_twice tree a b e f = same_members a b (sym e ∙ f)

pub items_twice : (tree : Json) (a b : List Json) → tree ≡ j.List a → tree ≡ j.List b → a ≡ b
items_twice tree a b e f = same_items a b (sym e ∙ f)

-- the first member taken off, twice
pub first_twice : (name : List ℕ) (members r s : List Member) (a b : Json) → members ≡ field name a ∷ r
    → members ≡ field name b ∷ s → (a ≡ b) × (r ≡ s)
first_twice name members r s a b e f =
    let both : field name a ∷ r ≡ field name b ∷ s = sym e ∙ f in
    let head : field name a ≡ field name b = cc in
    (ap (λ (m : Member). m.value) head, cc)

pub one_item : {A : Type 0} (xs : List A) (d : A) → length xs ≡ 1 → xs ≡ get_or xs 0 d ∷ []
one_item [] d e = absurd (omega arith)
one_item (x ∷ []) d e = refl
one_item (x ∷ y ∷ xs) d e = absurd (omega arith)

pub two_items : {A : Type 0} (xs : List A) (d e : A) → length xs ≡ 2 → xs ≡ get_or xs 0 d ∷ get_or xs 1 e ∷ []
two_items [] d e h = absurd (omega arith)
two_items (x ∷ []) d e h = absurd (omega arith)
two_items (x ∷ y ∷ []) d e h = refl
two_items (x ∷ y ∷ z ∷ xs) d e h = absurd (omega arith)

pub empty_list : {A : Type 0} (xs : List A) → length xs ≡ 0 → xs ≡ []
empty_list [] e = refl
empty_list (x ∷ xs) e = absurd (omega arith)

pub untrue : {A : Type 0} → false ≡ true → A
untrue e = absurd (let bad : false ≡ true = e in cc)

pub not_empty : {A : Type 0} (xs : List A) (b : Bool) → b ≡ (length xs == 0) → b ≡ false → xs ≡ [] → ⊥
not_empty xs b is unequal e = let t : b ≡ true = is ∙ ap (λ ys. length ys == 0) e in
    let bad : true ≡ false = sym t ∙ unequal in cc

pub one_head : {A : Type 0} {x y : A} → x ∷ [] ≡ y ∷ [] → x ≡ y
one_head e = cc

pub two_heads : {A : Type 0} {a b x y : A} → a ∷ b ∷ [] ≡ x ∷ y ∷ [] → (a ≡ x) × (b ≡ y)
two_heads e = (cc, cc)

-- two members of an object, twice
pub two_twice : (tree : Json) (one two : List ℕ) (a b x y : Json) → tree ≡ j.Object (field one a ∷ field two b ∷ [])
    → tree ≡ j.Object (field one x ∷ field two y ∷ [])
    → (a ≡ x) × (b ≡ y)
two_twice tree one two a b x y e f =
    let both = members_twice tree _ _ e f in
    let first = first_twice one _ _ _ a x refl both in
    let second = first_twice two _ _ _ b y refl first.1 in
    (first.0, second.0)

pub two_equal : (one two : List ℕ) (a b x y : Json) → a ≡ x → b ≡ y → j.Object
    (field one a ∷ field two b ∷ []) ≡ j.Object (field one x ∷ field two y ∷ [])
two_equal one two a b x y e f = ap (λ v. j.Object (field one v ∷ field two b ∷ [])) e
    ∙ ap (λ v. j.Object (field one x ∷ field two v ∷ [])) f

pub empty_of : {A : Type 0} (xs : List A) (b : Bool) → b ≡ (length xs == 0) → b ≡ true → xs ≡ []
empty_of xs b is e = empty_list xs (eqb-true (length xs) 0 (sym is ∙ e))

pub more : {A : Type 0} (x : A) {r s : List A} → r ≡ s → x ∷ r ≡ x ∷ s
more x e = ap (λ t. x ∷ t) e

pub behind_three : {A : Type 0} {a b c : A} {r : List A} → a ∷ b ∷ c ∷ r ≡ a ∷ b ∷ c ∷ [] → r ≡ []
behind_three e = cc

-- three members of an object, twice
pub three_twice : (one two three : List ℕ) (a b c x y z : Json)
    → j.Object (field one a ∷ field two b ∷ field three c ∷ []) ≡ j.Object
    (field one x ∷ field two y ∷ field three z ∷ []) → (a ≡ x) × (b ≡ y) × (c ≡ z)
three_twice one two three a b c x y z e =
    let first = first_twice one _ _ _ a x refl (same_members _ _ e) in
    let second = first_twice two _ _ _ b y refl first.1 in
    let third = first_twice three _ _ _ c z refl second.1 in
    (first.0, second.0, third.0)

pub frame_twice : (a b c x y z : Json) → frame_tree a b c ≡ frame_tree x y z → (a ≡ x) × (b ≡ y) × (c ≡ z)
frame_twice a b c x y z e =
    let first = first_twice (codes "topic") _ _ _ a x refl (same_members _ _ e) in
    let event = first_twice (codes "event") _ _ _ _ _ refl first.1 in
    let second = first_twice (codes "payload") _ _ _ b y refl event.1 in
    let third = first_twice (codes "ref") _ _ _ c z refl second.1 in
    (first.0, second.0, third.0)

pub insert_twice : (table : List ℕ) (a b x y : Json) → insert_tree table a b ≡ insert_tree table x y → (a ≡ x) × (b ≡ y)
insert_twice table a b x y e =
    let one = first_twice (codes "action") _ _ _ _ _ refl (same_members _ _ e) in
    let two = first_twice (codes "schema") _ _ _ _ _ refl one.1 in
    let three = first_twice (codes "table") _ _ _ _ _ refl two.1 in
    let four = first_twice (codes "columns") _ _ _ a x refl three.1 in
    let five = first_twice (codes "pk") _ _ _ b y refl four.1 in
    (four.0, five.0)

field_once : {column : Column} {s t v w : Json} → s ≡ t → IsField column s v → IsField column t w → v ≡ w
field_once {column} {s} {t} {v} {w} e g h = (three_twice _ _ _ _ _ v _ _ w (sym g.is ∙ e ∙ h.is)).2

-- an insert has one row
pub insert_once : {table : List ℕ} {first second key : Column} {tree a b x y : Json}
    → IsInsertTree table first second key tree a b → IsInsertTree table first second key tree x y → (a ≡ x) × (b ≡ y)
insert_once {table} {first} {second} {key} {tree} {a} {b} {x} {y} g h =
    let parts = insert_twice table _ _ _ _ (sym g.is ∙ h.is) in
    let both = two_heads (same_items _ _ (sym g.fields_are.is ∙ parts.0 ∙ h.fields_are.is)) in
    let one = field_once both.0 g.fields_are.first_field h.fields_are.first_field in
    (one, field_once both.1 g.fields_are.second_field h.fields_are.second_field)

pub row_once : {table : List ℕ} {first second key : Column} {tree : Json} {r s : List Json}
    → IsRow table first second key tree r → IsRow table first second key tree s → r ≡ s
row_once g h =
    let same = insert_once g.inserts h.inserts in
    g.values ∙ ap (λ v. v ∷ g.two ∷ []) same.0 ∙ ap (λ v. h.one ∷ v ∷ []) same.1 ∙ sym h.values

pub text_twice : (a b : List ℕ) → j.Text a ≡ j.Text b → a ≡ b
text_twice a b e = cc

pub json_fault : (fault : JsonFault) (tree : Json) → IsTree (Err fault) tree → of_json fault ≡ form.NoMemory
json_fault (json.Bad at) tree h = absurd h
json_fault (json.TooDeep at) tree h = absurd h
json_fault json.NoMemory tree h = refl

pub same_join : (f g : Join) → f.topic ≡ g.topic → f.channel ≡ g.channel → f.reference ≡ g.reference → f ≡ g
same_join f g a b c =
    let P : Join = record { topic = g.topic; channel = f.channel; reference = f.reference } in
    let Q : Join = record { topic = g.topic; channel = g.channel; reference = f.reference } in
    let one : f ≡ P = ap (λ t. record { topic = t; channel = f.channel; reference = f.reference }) a in
    let two : P ≡ Q = ap (λ t. record { topic = g.topic; channel = t; reference = f.reference }) b in
    let three : Q ≡ g = ap (λ t. record { topic = g.topic; channel = g.channel; reference = t }) c in
    one ∙ two ∙ three

pub same_script : (f g : Script) → f.slot ≡ g.slot → f.join ≡ g.join → f.row ≡ g.row → f ≡ g
same_script f g a b c =
    let P : Script = record { slot = g.slot; join = f.join; row = f.row } in
    let Q : Script = record { slot = g.slot; join = g.join; row = f.row } in
    let one : f ≡ P = ap (λ t. record { slot = t; join = f.join; row = f.row }) a in
    let two : P ≡ Q = ap (λ t. record { slot = g.slot; join = t; row = f.row }) b in
    let three : Q ≡ g = ap (λ t. record { slot = g.slot; join = g.join; row = t }) c in
    one ∙ two ∙ three

pub same_some : {A : Type 0} {a b : A} → Some a ≡ Some b → a ≡ b
same_some e = cc

pub row_line_same : (t u : List ℕ) (a b c x y z : Column) (line : List ℕ) (row : List Json) → t ≡ u → a ≡ x → b ≡ y
    → c ≡ z → IsRowLine u x y z line row → IsRowLine t a b c line row
row_line_same t u a b c x y z line row e f g h r =
    let P1 : List ℕ → Type 0 = λ v. IsRowLine v x y z line row in
    let P2 : Column → Type 0 = λ v. IsRowLine t v y z line row in
    let P3 : Column → Type 0 = λ v. IsRowLine t a v z line row in
    let P4 : Column → Type 0 = λ v. IsRowLine t a b v line row in
    subst P4 (sym h) (subst P3 (sym g) (subst P2 (sym f) (subst P1 (sym e) r)))

pub said_same : (k : Catalogue) (a w : ℕ) (b c d x y z : List ℕ) (s : Script) → a ≡ w → b ≡ x → c ≡ y → d ≡ z
    → AreSaid k w x y z s → AreSaid k a b c d s
said_same k a w b c d x y z s e f g h r =
    let P1 : ℕ → Type 0 = λ v. AreSaid k v x y z s in
    let P2 : List ℕ → Type 0 = λ v. AreSaid k a v y z s in
    let P3 : List ℕ → Type 0 = λ v. AreSaid k a b v z s in
    let P4 : List ℕ → Type 0 = λ v. AreSaid k a b c v s in
    subst P4 (sym h) (subst P3 (sym g) (subst P2 (sym f) (subst P1 (sym e) r)))
