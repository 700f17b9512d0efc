-- The text of a filter has that filter for its only reading.
use Rattle.std.proofs.Common.{◌≡◌, ◌↔◌, ℕ, ◌+◌, ◌<◌, ◌==◌, nat_lt, Bool, true, false, cond, List, [], ◌∷◌, ◌++◌, length, map, find, Option, Some, None, option_map, refl, sym, ap, subst, ◌∙◌, arith, append_assoc}
use Rattle.std.proofs.lemmas.Slice.Eq.{bytes_eq-Decides}
use Rattle.std.specs.Str.{bytes_eq}
use Rattle.std.specs.List.{list_all, join_with_byte, slice_split}
use Rattle.std.proofs.lemmas.List.Splits.{join_with_byte-slice_split}
use Rattle.rt_value.specs.Choice.{◌>>=◌, some_if}
use Rattle.rt_filter.specs.declared.filter.Op.{Op}
use Rattle.rt_filter.specs.declared.filter.Op.TheVariants.{Eq, Neq, Lt, Lte, Gt, Gte, OneOf}
use Rattle.rt_filter.specs.declared.filter.Filter.{Filter}
use Rattle.rt_filter.specs.Written.{op_name, lacks, AreListed, AreValues, IsFilter, cut, trimmed, inside, listed_values, every_op, op_named, values_of, parts_of, filter_with, filter_of}
use Rattle.rt_filter.proofs.Commas.{slice_split-join_with_byte, each_lacks}
use Rattle.rt_filter.proofs.Cuts.{cut-append, cut_parts}
use Rattle.rt_filter.proofs.Options.{and_then_gives, map_gives, some_if_gives, none_unless}
use Rattle.rt_filter.proofs.Parentheses.{inside-append, inside_parts}
use Rattle.rt_filter.proofs.Spaces.{map_trimmed_is, are_trimmed}

op_name_lacks : (op : Op) → lacks 46 (op_name op) ≡ true
op_name_lacks Eq = refl
op_name_lacks Neq = refl
op_name_lacks Lt = refl
op_name_lacks Lte = refl
op_name_lacks Gt = refl
op_name_lacks Gte = refl
op_name_lacks OneOf = refl

op_named-op_name : (op : Op) → op_named (op_name op) ≡ Some op
op_named-op_name Eq = refl
op_named-op_name Neq = refl
op_named-op_name Lt = refl
op_named-op_name Lte = refl
op_named-op_name Gt = refl
op_named-op_name Gte = refl
op_named-op_name OneOf = refl

by_test : {A : Type 0} (test : A → Bool) (x : A) (xs : List A) (y : A) (b : Bool) → test x ≡ b → cond b (Some x) (find test xs) ≡ Some y
    → (find test xs ≡ Some y → test y ≡ true) → test y ≡ true
by_test test x xs y true e h f = (let g : Some x ≡ Some y = h in let s : x ≡ y = (cc) in ap test (sym s) ∙ e)
by_test test x xs y false e h f = f h

found_passes : {A : Type 0} (test : A → Bool) (xs : List A) (y : A) → find test xs ≡ Some y → test y ≡ true
found_passes test [] y h = absurd (let e : None ≡ Some y = h in cc)
found_passes test (x ∷ xs) y h = by_test test x xs y (test x) refl h (found_passes test xs y)

op_name_is : (name : List ℕ) (op : Op) → op_named name ≡ Some op → name ≡ op_name op
op_name_is name op h = (bytes_eq-Decides name (op_name op)).0 (found_passes (λ o. bytes_eq name (op_name o)) every_op op h)

-- a text in three parts
parts-append : (column : List ℕ) (op : Op) (value : List ℕ) → nat_lt 0 (length column) ≡ true → lacks 61 column ≡ true
    → parts_of (column ++ 61 ∷ (op_name op ++ 46 ∷ value)) ≡ Some (column, op, value)
parts-append column op value some h =
    let rest : List ℕ = op_name op ++ 46 ∷ value in
    let k : List ℕ → Option (List ℕ × Op × List ℕ) = λ r. cut 46 r >>= λ d. option_map (λ o. (column, o, d.1)) (op_named d.0) in
    let first : parts_of (column ++ 61 ∷ rest) ≡ (some_if (nat_lt 0 (length column)) rest >>= k) =
    ap (λ (o : Option (List ℕ × List ℕ)). o >>= λ c. some_if (nat_lt 0 (length c.0)) c.1 >>= λ r. cut 46 r >>= λ d. option_map (λ p. (c.0, p, d.1)) (op_named d.0))
    (cut-append 61 column rest h) in
    let second : (some_if (nat_lt 0 (length column)) rest >>= k) ≡ k rest = ap (λ (b : Bool). some_if b rest >>= k) some in
    let third : k rest ≡ option_map (λ o. (column, o, value)) (op_named (op_name op)) =
    ap (λ (o : Option (List ℕ × List ℕ)). o >>= λ d. option_map (λ p. (column, p, d.1)) (op_named d.0)) (cut-append 46 (op_name op) value (op_name_lacks op)) in
    first ∙ second ∙ third ∙ ap (λ (o : Option Op). option_map (λ p. (column, p, value)) o) (op_named-op_name op)

in_three : (column name value : List ℕ) → column ++ 61 ∷ name ++ 46 ∷ value ≡ column ++ 61 ∷ (name ++ 46 ∷ value)
in_three column name value = append_assoc column (61 ∷ name) (46 ∷ value)

record IsInParts (text : List ℕ) (p : List ℕ × Op × List ℕ) : Type 0 where
  is : text ≡ p.0 ++ 61 ∷ (op_name p.1 ++ 46 ∷ p.2)
  column : nat_lt 0 (length p.0) ≡ true
  first : lacks 61 p.0 ≡ true

parts_gives : (text : List ℕ) (p : List ℕ × Op × List ℕ) → parts_of text ≡ Some p → IsInParts text p
parts_gives text p h =
    let a = and_then_gives (cut 61 text) (λ c. some_if (nat_lt 0 (length c.0)) c.1 >>= λ r. cut 46 r >>= λ d. option_map (λ o. (c.0, o, d.1)) (op_named d.0)) p h in
    let c = a.0 in
    let b = and_then_gives (some_if (nat_lt 0 (length c.0)) c.1) (λ r. cut 46 r >>= λ d. option_map (λ o. (c.0, o, d.1)) (op_named d.0)) p a.2 in
    let some = some_if_gives (nat_lt 0 (length c.0)) c.1 b.0 b.1 in
    let d = and_then_gives (cut 46 b.0) (λ d. option_map (λ o. (c.0, o, d.1)) (op_named d.0)) p b.2 in
    let o = map_gives (λ o. (c.0, o, d.0.1)) (op_named d.0.0) p d.2 in
    let outer = cut_parts 61 text c a.1 in
    let inner = cut_parts 46 b.0 d.0 d.1 in
    let name = op_name_is d.0.0 o.0 o.1 in
    let rest : c.1 ≡ op_name o.0 ++ 46 ∷ d.0.1 = some.1 ∙ inner.0 ∙ ap (λ (n : List ℕ). n ++ 46 ∷ d.0.1) name in
    let whole : IsInParts text (c.0, o.0, d.0.1) = record { is = outer.0 ∙ ap (λ (r : List ℕ). c.0 ++ 61 ∷ r) rest; column = some.0; first = outer.1 } in
    subst (λ (q : List ℕ × Op × List ℕ). IsInParts text q) o.2 whole

longer : (texts : List ℕ) → nat_lt 2 (length ((40 ∷ texts) ++ 41 ∷ [])) ≡ true → nat_lt 0 (length texts) ≡ true
longer [] h = h
longer (b ∷ bs) h = grind arith

listed_of : (bytes : List ℕ) (values parts : List (List ℕ)) → bytes ≡ (40 ∷ join_with_byte 44 parts) ++ 41 ∷ [] → nat_lt 2 (length bytes) ≡ true
    → list_all (lacks 44) parts ≡ true → map trimmed parts ≡ values → listed_values bytes ≡ Some values
listed_of bytes values [] is some each trims = absurd (let e : false ≡ true = sym (ap (λ (l : List ℕ). nat_lt 2 (length l)) is) ∙ some in cc)
listed_of bytes values (p ∷ ps) is some each trims =
    let texts : List ℕ = join_with_byte 44 (p ∷ ps) in
    let long : nat_lt 0 (length texts) ≡ true = longer texts (sym (ap (λ (l : List ℕ). nat_lt 2 (length l)) is) ∙ some) in
    let f : List ℕ → List (List ℕ) = λ t. map trimmed (slice_split (λ b. b == 44) t) in
    ap (λ (l : List ℕ). option_map f (inside l)) is ∙ ap (λ (o : Option (List ℕ)). option_map f o) (inside-append texts long)
    ∙ ap (λ (l : List (List ℕ)). Some (map trimmed l)) (slice_split-join_with_byte p ps each) ∙ ap Some trims

listed : (bytes : List ℕ) (values : List (List ℕ)) → AreListed bytes values → listed_values bytes ≡ Some values
listed bytes values w = listed_of bytes values w.parts w.is w.some w.each (map_trimmed_is w.parts values w.trimmed)

are_listed : (bytes : List ℕ) (values : List (List ℕ)) → listed_values bytes ≡ Some values → AreListed bytes values
are_listed bytes values h =
    let a = map_gives (λ texts. map trimmed (slice_split (λ b. b == 44) texts)) (inside bytes) values h in
    let b = inside_parts bytes a.0 a.1 in
    let parts = slice_split (λ b. b == 44) a.0 in
    let whole : AreListed bytes (map trimmed parts) = record {
      parts = parts;
      is = b.0 ∙ ap (λ (t : List ℕ). (40 ∷ t) ++ 41 ∷ []) (sym (join_with_byte-slice_split 44 a.0));
      some = b.1;
      each = each_lacks a.0;
      trimmed = are_trimmed parts;
    } in
    subst (λ (v : List (List ℕ)). AreListed bytes v) a.2 whole

values_is : (op : Op) (bytes : List ℕ) (values : List (List ℕ)) → AreValues op bytes values → values_of op bytes ≡ Some values
values_is OneOf bytes values h = listed bytes values h
values_is _ bytes values h = ap Some (sym h)

are_values : (op : Op) (bytes : List ℕ) (values : List (List ℕ)) → values_of op bytes ≡ Some values → AreValues op bytes values
are_values OneOf bytes values h = are_listed bytes values h
are_values _ bytes values h = (let e : Some (bytes ∷ []) ≡ Some values = h in cc)

pub reading_is : (text : List ℕ) (f : Filter) → IsFilter text f → filter_of text ≡ Some f
unfolding filter_of
reading_is text f w =
    ap (λ (t : List ℕ). parts_of t >>= filter_with) (w.is ∙ in_three f.column (op_name f.op) w.value)
    ∙ ap (λ (o : Option (List ℕ × Op × List ℕ)). o >>= filter_with) (parts-append f.column f.op w.value w.column w.first)
    ∙ ap (λ (o : Option (List (List ℕ))). option_map (λ values. record { column = f.column; op = f.op; values = values }) o) (values_is f.op w.value f.values w.values)

pub is_filter : (text : List ℕ) (f : Filter) → filter_of text ≡ Some f → IsFilter text f
unfolding filter_of
is_filter text f h =
    let a = and_then_gives (parts_of text) filter_with f h in
    let p = a.0 in
    let parts = parts_gives text p a.1 in
    let v = map_gives (λ values. record { column = p.0; op = p.1; values = values }) (values_of p.1 p.2) f a.2 in
    let whole : IsFilter text (record { column = p.0; op = p.1; values = v.0 }) =
    record { value = p.2; is = parts.is ∙ sym (in_three p.0 (op_name p.1) p.2); column = parts.column; first = parts.first; values = are_values p.1 p.2 v.0 v.1 } in
    subst (λ (g : Filter). IsFilter text g) v.2 whole

pub no_reading : (text : List ℕ) → (filter_of text ≡ None) ↔ ((f : Filter) → ¬ IsFilter text f)
no_reading text = (
  λ h f w. (let e : None ≡ Some f = sym h ∙ reading_is text f w in cc),
  λ h. none_unless (filter_of text) (λ f e. h f (is_filter text f e)),
)
