-- A value that fits a column's type is a value of its kind, and isn't null.
use Rattle.std.proofs.Common.{◌≡◌, ◌⊎◌, inl, inr, ℕ, zero, suc, ◌<◌, ◌≤◌, Bool, true, false, ◌&&◌, List, [], ◌∷◌, ◌++◌, length, ℤ, pos, neg_ℤ, Option, Some, refl, sym, ap, subst, ◌∙◌, arith, cond}
use Rattle.std.proofs.lemmas.Bool.{and_parts}
use Rattle.std.specs.Prelude.{◌==◌, nat_lt, nat_le, option_map, drop}
use Rattle.std.specs.Char.{is_ascii_digit}
use Rattle.std.specs.List.{list_all}
use Rattle.std.specs.Str.{all_ascii_digits}
use Rattle.std.specs.Str.Parse.{digits_value, without_leading_sign, without_leading_plus, signed_digits_value}
use Rattle.std.proofs.lemmas.Bool.Decides.{nat_tests, eqb_tells}
use Rattle.std.proofs.lemmas.Str.Parse.{IsNumeralModel, numerals_by_value, tells_all_ascii_digits, digits_value_short}
use Rattle.rt_value.proofs.Tests.{digits}
use Rattle.rt_value.specs.declared.value.Value.{Value}
use Rattle.rt_value.specs.declared.value.Value.TheVariants as value
use Rattle.rt_value.specs.declared.value.Kind.{Kind}
use Rattle.rt_value.specs.Choice.{◌>>=◌, some_if}
use Rattle.rt_value.specs.Reading.{is_numeral, fits, int_in_text}
use Rattle.rt_json.specs.Text.{IsNumber, IsMinus, IsWhole}
use Rattle.rt_json.specs.declared.tree.Json.{Json, Num, Text}
use Rattle.rt_change.specs.Binding.{begins_with_plus, value_of, given}
use Rattle.rt_first.specs.First.{kind_of}
use Rattle.rt_form.specs.Script as script
use Rattle.rt_form.specs.Script.{without_minus, is_small_number}
use Rattle.rt_form.specs.declared.catalogue.ColumnType.{ColumnType}
use Rattle.rt_form.specs.declared.catalogue.ColumnType.TheVariants as type_

all_digits : (ds : List ℕ) → all_ascii_digits ds ≡ list_all is_ascii_digit ds
all_digits [] = refl
all_digits (d ∷ ds) = ap (λ b. is_ascii_digit d && b) (all_digits ds)

-- digits alone, at least one and at most nine
pub record AreDigits (ds : List ℕ) : Type 0 where
  pub some : 0 < length ds
  pub few : length ds ≤ 9
  pub each : all_ascii_digits ds ≡ true

small : (ds : List ℕ) → AreDigits ds → digits_value 10 ds < 1000000000
small ds d = digits_value_short digits ds 9 d.each d.few

fits_plain : (n : ℕ) → n < 1000000000 → fits 32 (pos n) ≡ true
fits_plain n lt = grind (arith, nat_tests)

fits_negative : (n : ℕ) → n < 1000000000 → fits 32 (neg_ℤ (pos n)) ≡ true
fits_negative zero lt = refl
fits_negative (suc n) lt = grind (arith, nat_tests)

numeral : (ds : List ℕ) → AreDigits ds → is_numeral ds ≡ true
numeral ds d =
    let some : nat_lt 0 (length ds) ≡ true = let s = d.some in grind (arith, nat_tests, s) in
    ap (λ b. b && all_ascii_digits ds) some ∙ d.each

-- what a text of an optional `-` and such digits is read as
pub record ReadsAs (text : List ℕ) : Type 0 where
  pub int : ℤ
  pub is : int_in_text 32 text ≡ Some int
  pub plain : begins_with_plus text ≡ false

abbrev read_by : Bool → ℤ → Option ℤ
read_by b z = some_if b z >>= λ n. some_if (fits 32 n) n

reads : (text ds : List ℕ) (z : ℤ)
    → without_leading_sign text ≡ ds → signed_digits_value 10 text ≡ z → AreDigits ds → fits 32 z ≡ true → int_in_text 32 text ≡ Some z
reads text ds z e v d f =
    ap (λ xs. read_by (is_numeral xs) (signed_digits_value 10 text)) e
    ∙ ap (λ n. read_by (is_numeral ds) n) v
    ∙ ap (λ b. read_by b z) (numeral ds d)
    ∙ ap (λ b. some_if b z) f

negative_reads : (ds : List ℕ) → AreDigits ds → ReadsAs (45 ∷ ds)
negative_reads ds d = record {
  int = neg_ℤ (pos (digits_value 10 ds));
  is = reads (45 ∷ ds) ds (neg_ℤ (pos (digits_value 10 ds))) refl refl d (fits_negative (digits_value 10 ds) (small ds d));
  plain = refl;
}

-- a digit is no sign
digit_no : (b c : ℕ) → is_ascii_digit b ≡ true → c < 48 → (b == c) ≡ false
digit_no b c d lt = grind (arith, nat_tests)

plain_reads : (b : ℕ) (ds : List ℕ) → AreDigits (b ∷ ds) → ReadsAs (b ∷ ds)
plain_reads b ds d =
    let first : is_ascii_digit b ≡ true = (and_parts (is_ascii_digit b) (all_ascii_digits ds) d.each).0 in
    let minus : (b == 45) ≡ false = digit_no b 45 first (omega arith) in
    let plus : (b == 43) ≡ false = digit_no b 43 first (omega arith) in
    let bare : without_leading_sign (b ∷ ds) ≡ b ∷ ds =
    ap (λ t. cond t ds (without_leading_plus (b ∷ ds))) minus ∙ ap (λ t. drop (cond t 1 0) (b ∷ ds)) plus in
    let n = digits_value 10 (b ∷ ds) in
    let value : signed_digits_value 10 (b ∷ ds) ≡ pos n =
    ap (λ t. cond t (neg_ℤ (pos (digits_value 10 (without_leading_sign (b ∷ ds))))) (pos (digits_value 10 (without_leading_sign (b ∷ ds))))) minus
    ∙ ap (λ xs. pos (digits_value 10 xs)) bare in
    record { int = pos n; is = reads (b ∷ ds) (b ∷ ds) (pos n) bare value d (fits_plain n (small (b ∷ ds) d)); plain = plus }

-- a number of the grammar has a digit behind its minus
some_behind : (text : List ℕ) → IsNumber text → 0 < length (without_minus text)
some_behind text n = by n.minus n.whole n.parts n.is_minus n.is_whole
  where
    tail : List ℕ
    tail = n.fraction ++ n.exponent

    whole_begun : (b : ℕ) (bs : List ℕ) → IsWhole (b ∷ bs) → (b == 45) ≡ false
    whole_begun b bs (inl h) = ap (λ x. x == 45) h.0
    whole_begun b bs (inr h) = let d = h.0 in grind (arith, nat_tests)

    at_minus : (minus whole : List ℕ) → minus ≡ 45 ∷ [] → IsWhole whole → 0 < length (without_minus (minus ++ (whole ++ tail)))
    at_minus minus [] e w = absurd w
    at_minus minus (b ∷ bs) e w =
        subst (λ (m : List ℕ). 0 < length (without_minus (m ++ ((b ∷ bs) ++ tail)))) (sym e)
        (let z : 0 < length (b ∷ (bs ++ tail)) = omega arith in z)

    at_none : (minus whole : List ℕ) → minus ≡ [] → IsWhole whole → 0 < length (without_minus (minus ++ (whole ++ tail)))
    at_none minus [] e w = absurd w
    at_none minus (b ∷ bs) e w =
        subst (λ (m : List ℕ). 0 < length (without_minus (m ++ ((b ∷ bs) ++ tail)))) (sym e)
        (subst (λ (t : Bool). 0 < length {A = ℕ} (elim t [ true ↦ bs ++ tail | false ↦ b ∷ (bs ++ tail) ])) (sym (whole_begun b bs w))
        (let z : 0 < length (b ∷ (bs ++ tail)) = omega arith in z))

    by : (minus whole : List ℕ) → text ≡ minus ++ (whole ++ tail) → IsMinus minus → IsWhole whole → 0 < length (without_minus text)
    by minus whole e (inl m) w = subst (λ (t : List ℕ). 0 < length (without_minus t)) (sym e) (at_none minus whole m w)
    by minus whole e (inr m) w = subst (λ (t : List ℕ). 0 < length (without_minus t)) (sym e) (at_minus minus whole m w)

digits_of : (ds : List ℕ) → 0 < length ds → (nat_le (length ds) 9 && list_all is_ascii_digit ds) ≡ true → AreDigits ds
digits_of ds some h =
    let t = and_parts (nat_le (length ds) 9) (list_all is_ascii_digit ds) h in
    record { some = some; few = (let le = t.0 in grind (arith, nat_tests)); each = all_digits ds ∙ t.1 }

pub small_reads : (text : List ℕ) → IsNumber text → is_small_number text ≡ true → ReadsAs text
small_reads text n h = by text (digits_of (without_minus text) (some_behind text n) h)
  where
    by_sign : (b : ℕ) (bs : List ℕ)
        → ((b == 45) ≡ true) × (b ≡ 45) ⊎ (((b == 45) ≡ false) × (b ≡ 45 → ⊥)) → AreDigits (without_minus (b ∷ bs)) → ReadsAs (b ∷ bs)
    by_sign b bs (inl t) d =
        let Rest : Bool → Type 0 = λ x. AreDigits (elim x [ true ↦ bs | false ↦ b ∷ bs ]) in
        subst (λ (x : ℕ). ReadsAs (x ∷ bs)) (sym t.1) (negative_reads bs (subst Rest t.0 d))
    by_sign b bs (inr t) d =
        let Rest : Bool → Type 0 = λ x. AreDigits (elim x [ true ↦ bs | false ↦ b ∷ bs ]) in plain_reads b bs (subst Rest t.0 d)

    by : (xs : List ℕ) → AreDigits (without_minus xs) → ReadsAs xs
    by [] d = let s = d.some in absurd (omega (arith, s))
    by (b ∷ bs) d = by_sign b bs (eqb_tells b 45) d

-- the value of a tree in a kind, which isn't null
pub record Stands (k : Kind) (tree : Json) : Type 0 where
  pub value : Value
  pub is : value_of k tree ≡ Some value
  pub some : given (Some value) ≡ Some value

-- if it is a number it is one of the grammar
abbrev pub IsSound : Json → Type 0
IsSound (Num text) = IsNumber text
IsSound _ = Unit {0}

pub fitting : (t : ColumnType) (tree : Json) → IsSound tree → script.fits t tree ≡ true → Stands (kind_of t) tree
fitting type_.Int4 (Num text) n h =
    let r = small_reads text n h in
    record {
      value = value.Int r.int;
      is =
          ap (λ b. some_if (elim b [ true ↦ false | false ↦ true ]) text >>= λ ds. option_map value.Int (int_in_text 32 ds)) r.plain
          ∙ ap (option_map value.Int) r.is;
      some = refl;
    }
fitting type_.Text (Text text) n h = record { value = value.Text text; is = refl; some = refl }
fitting _ _ n h = absurd (let e : false ≡ true = h in cc)
