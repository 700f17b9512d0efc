-- Values that tie in the order of keys are equal, and so are such keys.
use Rattle.std.proofs.Common.{◌≡◌, ℕ, zero, suc, Bool, true, false, List, [], ◌∷◌, ℤ, Some, refl, ap, sym, ◌∙◌}
use Rattle.std.specs.Cmp.{unsigned_tied, unsigned_Decides, signed_Decides, tied_itself, Equal-is}
use Rattle.std.specs.Cmp.Lexicographic.{slice_cmp}
use Rattle.std.specs.Ordering.{nat_cmp, int_cmp, bool_cmp, ordering_then, is_eq}
use Rattle.std.specs.declared.cmp.Ordering.{Ordering}
use Rattle.std.specs.declared.cmp.Ordering.TheVariants.{Less, Equal, Greater}
use Rattle.rt_value.specs.declared.value.Value.{Value}
use Rattle.rt_value.specs.declared.value.Value.TheVariants.{Null, Int, Text, Bool as Truth, Uuid, Moment, Opaque}
use Rattle.rt_value.specs.declared.row.Key.{Key}
use Rattle.rt_value.specs.Order.{compared, value_cmp, key_cmp, same_key, variant_of, int_in, text_in, truth_in, uuid_in}
use Rattle.rt_value.specs.TotalOrder.{key_total}

-- only equal elements tie
abbrev pub TiesEqual : {X : Type 0} → (X → X → Ordering) → Type 0
TiesEqual {X} R = (x y : X) → R x y ≡ Equal → x ≡ y

pub both_equal : (o p : Ordering) → ordering_then o p ≡ Equal → (o ≡ Equal) × (p ≡ Equal)
both_equal Less p h = absurd (cc)
both_equal Equal p h = (refl, h)
both_equal Greater p h = absurd (cc)

nat_ties : TiesEqual nat_cmp
nat_ties x y h = (unsigned_Decides x y).0 (sym (unsigned_tied x y) ∙ ap is_eq h)

int_ties : TiesEqual int_cmp
int_ties x y h = (signed_Decides x y).0 (ap is_eq h)

bool_ties : TiesEqual bool_cmp
bool_ties true true h = refl
bool_ties true false h = absurd (cc)
bool_ties false true h = absurd (cc)
bool_ties false false h = refl

list_ties : {X : Type 0} (R : X → X → Ordering) → TiesEqual R → TiesEqual (slice_cmp R)
list_ties R ties [] [] h = refl
list_ties R ties [] (y ∷ ys) h = absurd (cc)
list_ties R ties (x ∷ xs) [] h = absurd (cc)
list_ties R ties (x ∷ xs) (y ∷ ys) h =
    let parts = both_equal (R x y) (slice_cmp R xs ys) h in
    let head = ties x y parts.0 in
    let rest = list_ties R ties xs ys parts.1 in
    cc

-- a value, of its variant and what is in it
rebuilt : ℕ → ℤ → List ℕ → Bool → ℕ → Value
rebuilt zero n t b u = Null
rebuilt (suc zero) n t b u = Int n
rebuilt (suc (suc zero)) n t b u = Text t
rebuilt (suc (suc (suc zero))) n t b u = Truth b
rebuilt (suc (suc (suc (suc zero)))) n t b u = Uuid u
rebuilt (suc (suc (suc (suc (suc zero))))) n t b u = Moment n
rebuilt (suc (suc (suc (suc (suc (suc v)))))) n t b u = Opaque

rebuilt_is : (v : Value) → rebuilt (variant_of v) (int_in v) (text_in v) (truth_in v) (uuid_in v) ≡ v
unfolding rebuilt
rebuilt_is Null = refl
rebuilt_is (Int n) = refl
rebuilt_is (Text t) = refl
rebuilt_is (Truth b) = refl
rebuilt_is (Uuid u) = refl
rebuilt_is (Moment n) = refl
rebuilt_is Opaque = refl

pub value_ties : TiesEqual value_cmp
value_ties a b h =
    let variant = both_equal _ _ h in
    let number = both_equal _ _ variant.1 in
    let text = both_equal _ _ number.1 in
    let truth = both_equal _ _ text.1 in
    let v = nat_ties _ _ variant.0 in
    let n = int_ties _ _ number.0 in
    let t = list_ties nat_cmp nat_ties _ _ text.0 in
    let w = bool_ties _ _ truth.0 in
    let u = nat_ties _ _ truth.1 in
    sym (rebuilt_is a) ∙ (λ i. rebuilt (v i) (n i) (t i) (w i) (u i)) ∙ rebuilt_is b

pub key_ties : TiesEqual key_cmp
key_ties k l h =
    let whole : List Value → Key = λ vs. record { values = vs } in
    ap whole (list_ties value_cmp value_ties k.values l.values h)

pub same_itself : (k : Key) → same_key k k ≡ true
same_itself k = ap is_eq (tied_itself key_total k)

pub same_equal : (k l : Key) → same_key k l ≡ true → k ≡ l
same_equal k l h = key_ties k l ((Equal-is (key_cmp k l)).0 h)

pub same_from : (k l : Key) → k ≡ l → same_key k l ≡ true
same_from k l e = ap (same_key k) (sym e) ∙ same_itself k

pub other_keys : (k l : Key) → (k ≡ l → ⊥) → same_key k l ≡ false
other_keys k l differ = by (same_key k l) (λ h. differ (same_equal k l h))
  where
    by : (b : Bool) → (b ≡ true → ⊥) → b ≡ false
    by true f = absurd (f refl)
    by false f = refl

then_equal : (o : Ordering) → ordering_then o Equal ≡ o
then_equal Less = refl
then_equal Equal = refl
then_equal Greater = refl

some_is : {o p : Ordering} → Some o ≡ Some p → o ≡ p
some_is h = cc

-- the total order is that of values, where they compare
pub agrees : (a b : Value) → (o : Ordering) → compared a b ≡ Some o → value_cmp a b ≡ o
agrees (Int a) (Int b) o h = then_equal (int_cmp a b) ∙ some_is h
agrees (Text a) (Text b) o h = then_equal (slice_cmp nat_cmp a b) ∙ some_is h
agrees (Truth a) (Truth b) o h = then_equal (bool_cmp a b) ∙ some_is h
agrees (Uuid a) (Uuid b) o h = some_is h
agrees (Moment a) (Moment b) o h = then_equal (int_cmp a b) ∙ some_is h
agrees a b o h = absurd (cc)
