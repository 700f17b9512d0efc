-- The words of a catalogue's statements are read in one way.
use Rattle.std.proofs.Common.{◌≡◌, ◌≢◌, ℕ, Bool, true, false, List, [], ◌∷◌, codes, refl, ap, sym, ◌∙◌, arith}
use Rattle.std.specs.Prelude.{slice_index}
use Rattle.rt_form.specs.Messages.{shown_type}
use Rattle.rt_form.specs.Statements.{AreNamed, all_words, column_words, columns_words, grant_words, key_words}
use Rattle.rt_form.specs.Statements.{role_words}
use Rattle.rt_form.specs.Statements.{table_words}
use Rattle.rt_form.specs.declared.catalogue.ColumnType.{ColumnType}
use Rattle.rt_form.specs.declared.catalogue.ColumnType.TheVariants as t
use Rattle.rt_form.specs.declared.catalogue.Column.{Column}
use Rattle.rt_form.specs.declared.catalogue.Table.{Table}
use Rattle.rt_form.specs.declared.catalogue.Catalogue.{Catalogue}

pub cons_twice : {A : Type 0} {words r s : List A} {a b : A} → words ≡ a ∷ r → words ≡ b ∷ s → (a ≡ b) × (r ≡ s)
cons_twice {A} {words} {r} {s} {a} {b} e f = let both : a ∷ r ≡ b ∷ s = sym e ∙ f in (cc, cc)

pub behind : {A : Type 0} {words r s : List A} (a : A) → words ≡ a ∷ r → r ≡ s → words ≡ a ∷ s
behind a e f = e ∙ ap (λ l. a ∷ l) f

-- the first bytes differ
pub other_byte : {a b : List ℕ} → slice_index a 0 ≢ slice_index b 0 → a ≢ b
other_byte n e = n (ap (λ l. slice_index l 0) e)

pub no_comma : codes "," ≢ codes "primary"
no_comma = other_byte (λ e. absurd (let f : 44 ≡ 112 = e in omega arith))

pub no_end : codes ")" ≢ codes "primary"
no_end = other_byte (λ e. absurd (let f : 41 ≡ 112 = e in omega arith))

pub shown_once : (s t : ColumnType) → shown_type s ≡ shown_type t → s ≡ t
shown_once t.Int4 t.Int4 e = refl
shown_once t.Int4 t.Text e = absurd (let f : 105 ≡ 116 = ap (λ l. slice_index l 0) e in omega arith)
shown_once t.Text t.Int4 e = absurd (let f : 116 ≡ 105 = ap (λ l. slice_index l 0) e in omega arith)
shown_once t.Text t.Text e = refl

pub key_once : (e : List ℕ) (k l : Bool) (r s : List (List ℕ)) → e ≢ codes "primary" → key_words k (e ∷ r) ≡ key_words l
    (e ∷ s) → (k ≡ l) × (r ≡ s)
key_once e true true r s n h = (refl, (cons_twice refl (cons_twice refl (cons_twice refl h).1).1).1)
key_once e true false r s n h = absurd (n (sym (cons_twice refl h).0))
key_once e false true r s n h = absurd (n (cons_twice refl h).0)
key_once e false false r s n h = (refl, (cons_twice refl h).1)

pub column_once : (e : List ℕ) {words r q : List (List ℕ)} {a b : List ℕ} {s t : ColumnType} {k l : Bool}
    → e ≢ codes "primary"
    → words ≡ column_words a s k (e ∷ r) → words ≡ column_words b t l (e ∷ q) → (a ≡ b) × (s ≡ t) × (k ≡ l) × (r ≡ q)
column_once e {words} {r} {q} {a} {b} {s} {t} {k} {l} n g h =
    let one = cons_twice g h in
    let two = cons_twice refl one.1 in
    let three = key_once e k l r q n two.1 in
    (one.0, shown_once s t two.0, three.0, three.1)

pub columns_once : {words r q : List (List ℕ)} {a b x y : List ℕ} {s t u v : ColumnType} {k l : Bool}
    → words ≡ columns_words a s b t k r → words ≡ columns_words x u y v l q → (a ≡ x) × (s ≡ u) × (b ≡ y) × (t ≡ v)
    × (k ≡ l) × (r ≡ q)
columns_once {words} {r} {q} {a} {b} {x} {y} {s} {t} {u} {v} {k} {l} g h =
    let one = column_once (codes ",") no_comma g h in
    let two = column_once (codes ")") no_end refl one.3 in
    (one.0, one.1, two.0, two.1, two.2, two.3)

pub table_once : {words r q : List (List ℕ)} {m n a b x y : List ℕ} {s t u v : ColumnType} {k l : Bool}
    → words ≡ table_words m a s b t k r → words ≡ table_words n x u y v l q
    → (m ≡ n) × (a ≡ x) × (s ≡ u) × (b ≡ y) × (t ≡ v) × (k ≡ l) × (r ≡ q)
table_once {words} {r} {q} {m} {n} {a} {b} {x} {y} {s} {t} {u} {v} {k} {l} g h =
    let one = cons_twice refl (cons_twice refl (cons_twice g h).1).1 in
    let two = columns_once refl (cons_twice refl one.1).1 in
    (one.0, two.0, two.1, two.2, two.3, two.4, (cons_twice refl two.5).1)

pub role_once : {words r q : List (List ℕ)} {a b : List ℕ} → words ≡ role_words a r → words ≡ role_words b q → (a ≡ b)
    × (r ≡ q)
role_once g h =
    let one = cons_twice refl (cons_twice refl (cons_twice g h).1).1 in
    (one.0, (cons_twice refl one.1).1)

pub two_twice : {words r s : List (List ℕ)} {a b x y : List ℕ} → words ≡ a ∷ b ∷ r → words ≡ x ∷ y ∷ s → r ≡ s
two_twice e f = (cons_twice refl (cons_twice e f).1).1

pub grant_once : {words r q : List (List ℕ)} {a b x y : List ℕ} → words ≡ grant_words a b r → words ≡ grant_words x y q
    → r ≡ q
grant_once g h = let rest = two_twice refl (two_twice refl (two_twice g h)) in (cons_twice refl rest).1

pub grant_of : {words r : List (List ℕ)} {a b x y : List ℕ} → x ≡ a → y ≡ b → words ≡ grant_words a b r
    → words ≡ grant_words x y r
grant_of e f g = rw (e, f) g

-- the words of the three statements, one behind the other
pub all_of : {words granting granted : List (List ℕ)} (rest : List (List ℕ)) (m a b r x y : List ℕ) (s t : ColumnType)
    (k : Bool) → words ≡ table_words m a s b t k granting → granting ≡ role_words r granted
    → granted ≡ grant_words x y rest
    → x ≡ m → y ≡ r → rest ≡ [] → words ≡ all_words m a s b t k r
all_of rest m a b r x y s t k e f g table role none =
    e ∙ ap (table_words m a s b t k) (f ∙ ap (role_words r) (g ∙ ap (λ n. grant_words n y rest) table
    ∙ ap (λ n. grant_words m n rest) role ∙ ap (grant_words m r) none))

pub named_once : {words : List (List ℕ)} {m n a b x y v w : List ℕ} {s t p q : ColumnType} {k l : Bool}
    → AreNamed words m a s b t k v → AreNamed words n x p y q l w
    → (m ≡ n) × (a ≡ x) × (s ≡ p) × (b ≡ y) × (t ≡ q) × (k ≡ l) × (v ≡ w)
named_once g h =
    let one = table_once g.are h.are in
    let two = role_once refl one.6 in
    (one.0, one.1, one.2, one.3, one.4, one.5, two.0)

pub same_column : (a b : Column) → a.name ≡ b.name → a.column_type ≡ b.column_type → a ≡ b
same_column a b e f =
    let P : Column = record { name = b.name; column_type = a.column_type } in
    let one : a ≡ P = ap (λ n. record { name = n; column_type = a.column_type }) e in
    let two : P ≡ b = ap (λ t. record { name = b.name; column_type = t }) f in
    one ∙ two

same_table : (a b : Table) → a.name ≡ b.name → a.columns ≡ b.columns → a.key ≡ b.key → a ≡ b
same_table a b e f g =
    let P : Table = record { name = b.name; columns = a.columns; key = a.key } in
    let Q : Table = record { name = b.name; columns = b.columns; key = a.key } in
    let one : a ≡ P = ap (λ n. record { name = n; columns = a.columns; key = a.key }) e in
    let two : P ≡ Q = ap (λ c. record { name = b.name; columns = c; key = a.key }) f in
    let three : Q ≡ b = ap (λ k. record { name = b.name; columns = b.columns; key = k }) g in
    one ∙ two ∙ three

pub same_catalogue : (c d : Catalogue) → c.table.name ≡ d.table.name → c.table.columns ≡ d.table.columns
    → c.table.key ≡ d.table.key → c.role ≡ d.role → c ≡ d
same_catalogue c d e f g h =
    let P : Catalogue = record { table = d.table; role = c.role } in
    let one : c ≡ P = ap (λ t. record { table = t; role = c.role }) (same_table c.table d.table e f g) in
    let two : P ≡ d = ap (λ r. record { table = d.table; role = r }) h in
    one ∙ two

pub same_two : {A : Type 0} {a b x y : A} → a ≡ x → b ≡ y → a ∷ b ∷ [] ≡ x ∷ y ∷ []
same_two {A} {a} {b} {x} {y} e f = ap (λ v. v ∷ b ∷ []) e ∙ ap (λ v. x ∷ v ∷ []) f
