-- A number of the grammar is what is read digit by digit.
use Rattle.std.proofs.Common.{◌≡◌, ℕ, ◌≤◌, Bool, true, false, List, [], ◌∷◌, ◌++◌, refl, ap, sym, ◌∙◌, subst, arith, Option, Some, None, inl, inr}
use Rattle.std.specs.Prelude.{◌==◌, ◌||◌, nat_le}
use Rattle.std.specs.List.{list_all}
use Rattle.std.proofs.lemmas.List.{append-nil}
use Rattle.std.proofs.lemmas.Bool.{ne_eqb, leb-true, eqb-true, or_cases, cond_both, and_parts}
use Rattle.rt_json.specs.Text.{is_digit, IsDigits, IsMinus, IsWhole, IsFraction, IsSign, IsExponent, IsNumber}
use Rattle.rt_json.specs.Machine.{class_of, digits_after, may_end}
use Rattle.rt_json.specs.declared.bytes.Class.TheVariants as c
use Rattle.rt_json.specs.declared.bytes.Digits.{Digits}
use Rattle.rt_json.specs.declared.bytes.Digits.TheVariants as d

abbrev pub ends_on : (Digits → Bool) → Option Digits → Bool
ends_on more (Some digits) = more digits
ends_on more None = false

-- the bytes complete a number
abbrev pub number_ends : Digits → List ℕ → Bool
number_ends digits [] = may_end digits
number_ends digits (b ∷ bs) = ends_on (λ n. number_ends n bs) (digits_after digits b)

abbrev is_mark : ℕ → Bool
is_mark b = (b == 101) || (b == 69)

-- what completes a number, by where it stands
abbrev TailOf : Digits → List ℕ → Type 0
TailOf d.Minus more = (whole fraction exponent : List ℕ) × (more ≡ whole ++ (fraction ++ exponent)) × IsWhole whole × IsFraction fraction × IsExponent exponent
TailOf d.Zero more = (fraction exponent : List ℕ) × (more ≡ fraction ++ exponent) × IsFraction fraction × IsExponent exponent
TailOf d.Whole more = (digits fraction exponent : List ℕ) × (more ≡ digits ++ (fraction ++ exponent)) × (list_all is_digit digits ≡ true) × IsFraction fraction × IsExponent exponent
TailOf d.Point more = (digits exponent : List ℕ) × (more ≡ digits ++ exponent) × IsDigits digits × IsExponent exponent
TailOf d.Fraction more = (digits exponent : List ℕ) × (more ≡ digits ++ exponent) × (list_all is_digit digits ≡ true) × IsExponent exponent
TailOf d.Mark more = (sign digits : List ℕ) × (more ≡ sign ++ digits) × IsSign sign × IsDigits digits
TailOf d.Sign more = IsDigits more
TailOf d.Exponent more = list_all is_digit more ≡ true

-- one digit more at the front
digit_first : (b : ℕ) (bs : List ℕ) → is_digit b ≡ true → list_all is_digit bs ≡ true → list_all is_digit (b ∷ bs) ≡ true
digit_first b bs h k = rw (h, k) refl

some_digits : (b : ℕ) (bs : List ℕ) → is_digit b ≡ true → list_all is_digit bs ≡ true → IsDigits (b ∷ bs)
some_digits b bs h k = digit_first b bs h k

-- a fraction, and an exponent
with_point : (b : ℕ) (bs : List ℕ) → (b == 46) ≡ true → TailOf d.Point bs → TailOf d.Zero (b ∷ bs)
with_point b bs e t = (b ∷ t.0, t.1, ap (λ (xs : List ℕ). b ∷ xs) t.2, (eqb-true b 46 e, t.3), t.4)

with_mark : (b : ℕ) (bs : List ℕ) → is_mark b ≡ true → TailOf d.Mark bs → IsExponent (b ∷ bs)
with_mark b bs e t = (e, t.0, t.1, t.2, t.3, t.4)

one_sign : (b : ℕ) → ((b == 43) || (b == 45)) ≡ true → IsSign (b ∷ [])
one_sign b h =
    elim (or_cases (b == 43) (b == 45) h) [ inl e ↦ inr (inl (ap (λ (x : ℕ). x ∷ []) (eqb-true b 43 e))) | inr e ↦ inr (inr (ap (λ (x : ℕ). x ∷ []) (eqb-true b 45 e))) ]

-- a byte back
tail_back : (s : Digits) (b : ℕ) (bs : List ℕ) (more : Digits → Bool) → ((n : Digits) → more n ≡ true → TailOf n bs) → ends_on more (digits_after s b) ≡ true → TailOf s (b ∷ bs)
tail_back d.Minus b bs more on =
    let P : Option Digits → Type 0 = λ o. ends_on more o ≡ true → TailOf d.Minus (b ∷ bs) in
    cond_both (b == 48) _ _ P
    (λ e h. let t = on d.Zero h in (b ∷ [], t.0, t.1, ap (λ (xs : List ℕ). b ∷ xs) t.2, inl (eqb-true b 48 e, refl), t.3, t.4))
    (λ n. cond_both (is_digit b) _ _ P
    (λ e h. let t = on d.Whole h in (b ∷ t.0, t.1, t.2, ap (λ (xs : List ℕ). b ∷ xs) t.3, inr (e, n, t.4), t.5, t.6)) (λ _ h. absurd cc))
tail_back d.Zero b bs more on =
    let P : Option Digits → Type 0 = λ o. ends_on more o ≡ true → TailOf d.Zero (b ∷ bs) in
    cond_both (b == 46) _ _ P (λ e h. with_point b bs e (on d.Point h))
    (λ _. cond_both (is_mark b) _ _ P (λ e h. ([], b ∷ bs, refl, tt, with_mark b bs e (on d.Mark h))) (λ _ h. absurd cc))
tail_back d.Whole b bs more on =
    let P : Option Digits → Type 0 = λ o. ends_on more o ≡ true → TailOf d.Whole (b ∷ bs) in
    cond_both (is_digit b) _ _ P
    (λ e h. let t = on d.Whole h in (b ∷ t.0, t.1, t.2, ap (λ (xs : List ℕ). b ∷ xs) t.3, digit_first b t.0 e t.4, t.5, t.6))
    (λ _. cond_both (b == 46) _ _ P (λ e h. let t = with_point b bs e (on d.Point h) in ([], t.0, t.1, t.2, refl, t.3, t.4))
    (λ _. cond_both (is_mark b) _ _ P (λ e h. ([], [], b ∷ bs, refl, refl, tt, with_mark b bs e (on d.Mark h))) (λ _ h. absurd cc)))
tail_back d.Point b bs more on =
    let P : Option Digits → Type 0 = λ o. ends_on more o ≡ true → TailOf d.Point (b ∷ bs) in
    cond_both (is_digit b) _ _ P (λ e h. let t = on d.Fraction h in (b ∷ t.0, t.1, ap (λ (xs : List ℕ). b ∷ xs) t.2, some_digits b t.0 e t.3, t.4)) (λ _ h. absurd cc)
tail_back d.Fraction b bs more on =
    let P : Option Digits → Type 0 = λ o. ends_on more o ≡ true → TailOf d.Fraction (b ∷ bs) in
    cond_both (is_digit b) _ _ P (λ e h. let t = on d.Fraction h in (b ∷ t.0, t.1, ap (λ (xs : List ℕ). b ∷ xs) t.2, digit_first b t.0 e t.3, t.4))
    (λ _. cond_both (is_mark b) _ _ P (λ e h. ([], b ∷ bs, refl, refl, with_mark b bs e (on d.Mark h))) (λ _ h. absurd cc))
tail_back d.Mark b bs more on =
    let P : Option Digits → Type 0 = λ o. ends_on more o ≡ true → TailOf d.Mark (b ∷ bs) in
    cond_both (is_digit b) _ _ P (λ e h. ([], b ∷ bs, refl, inl refl, some_digits b bs e (on d.Exponent h)))
    (λ _. cond_both ((b == 43) || (b == 45)) _ _ P (λ e h. (b ∷ [], bs, refl, one_sign b e, on d.Sign h)) (λ _ h. absurd cc))
tail_back d.Sign b bs more on =
    let P : Option Digits → Type 0 = λ o. ends_on more o ≡ true → TailOf d.Sign (b ∷ bs) in
    cond_both (is_digit b) _ _ P (λ e h. some_digits b bs e (on d.Exponent h)) (λ _ h. absurd cc)
tail_back d.Exponent b bs more on =
    let P : Option Digits → Type 0 = λ o. ends_on more o ≡ true → TailOf d.Exponent (b ∷ bs) in
    cond_both (is_digit b) _ _ P (λ e h. digit_first b bs e (on d.Exponent h)) (λ _ h. absurd cc)

tail_none : (s : Digits) → may_end s ≡ true → TailOf s []
tail_none d.Minus h = absurd cc
tail_none d.Zero h = ([], [], refl, tt, tt)
tail_none d.Whole h = ([], [], [], refl, refl, tt, tt)
tail_none d.Point h = absurd cc
tail_none d.Fraction h = ([], [], refl, refl, tt)
tail_none d.Mark h = absurd cc
tail_none d.Sign h = absurd cc
tail_none d.Exponent h = refl

number_tail : (s : Digits) (more : List ℕ) → number_ends s more ≡ true → TailOf s more
number_tail s [] h = tail_none s h
number_tail s (b ∷ bs) h = tail_back s b bs (λ n. number_ends n bs) (λ n k. number_tail n bs k) h

-- what a first byte of a number is
abbrev pub StartsNumber : ℕ → Digits → Type 0
StartsNumber b d.Minus = b ≡ 45
StartsNumber b d.Zero = b ≡ 48
StartsNumber b d.Whole = (is_digit b ≡ true) × ((b == 48) ≡ false)
StartsNumber b _ = ⊥

pub number_found : (s : Digits) (b : ℕ) (more : List ℕ) → StartsNumber b s → number_ends s more ≡ true → IsNumber (b ∷ more)
number_found d.Minus b more e h = let t = number_tail d.Minus more h in record {
  minus = 45 ∷ [];
  whole = t.0;
  fraction = t.1;
  exponent = t.2;
  parts = ap (λ (x : ℕ). x ∷ more) e ∙ ap (λ (xs : List ℕ). 45 ∷ xs) t.3;
  is_minus = inr refl;
  is_whole = t.4;
  is_fraction = t.5;
  is_exponent = t.6;
}
number_found d.Zero b more e h = let t = number_tail d.Zero more h in record {
  minus = [];
  whole = b ∷ [];
  fraction = t.0;
  exponent = t.1;
  parts = ap (λ (xs : List ℕ). b ∷ xs) t.2;
  is_minus = inl refl;
  is_whole = inl (e, refl);
  is_fraction = t.3;
  is_exponent = t.4;
}
number_found d.Whole b more e h = let t = number_tail d.Whole more h in record {
  minus = [];
  whole = b ∷ t.0;
  fraction = t.1;
  exponent = t.2;
  parts = ap (λ (xs : List ℕ). b ∷ xs) t.3;
  is_minus = inl refl;
  is_whole = inr (e.0, e.1, t.4);
  is_fraction = t.5;
  is_exponent = t.6;
}
number_found d.Point b more e h = absurd e
number_found d.Fraction b more e h = absurd e
number_found d.Mark b more e h = absurd e
number_found d.Sign b more e h = absurd e
number_found d.Exponent b more e h = absurd e

-- and forth: a number is read to its end
pub record IsRead (text : List ℕ) : Type 0 where
  pub first : ℕ
  pub more : List ℕ
  pub digits : Digits
  pub parts : text ≡ first ∷ more
  pub begins : class_of first ≡ c.NumberStart digits
  pub ends : number_ends digits more ≡ true

pub class_of_digit : (b : ℕ) → is_digit b ≡ true → (b == 48) ≡ false → class_of b ≡ c.NumberStart d.Whole
unfolding class_of
class_of_digit b h n =
    let t = and_parts (nat_le 48 b) (nat_le b 57) h in
    let low : 48 ≤ b = leb-true 48 b t.0 in
    let e32 : (b == 32) ≡ false = ne_eqb b 32 (λ e. absurd (omega arith)) in
    let e9 : (b == 9) ≡ false = ne_eqb b 9 (λ e. absurd (omega arith)) in
    let e10 : (b == 10) ≡ false = ne_eqb b 10 (λ e. absurd (omega arith)) in
    let e13 : (b == 13) ≡ false = ne_eqb b 13 (λ e. absurd (omega arith)) in
    let e34 : (b == 34) ≡ false = ne_eqb b 34 (λ e. absurd (omega arith)) in
    let e44 : (b == 44) ≡ false = ne_eqb b 44 (λ e. absurd (omega arith)) in
    let e45 : (b == 45) ≡ false = ne_eqb b 45 (λ e. absurd (omega arith)) in
    rw (e32, e9, e10, e13, e34, e44, e45, n, h) refl

-- digits change nothing where more may come
abbrev Stays : Digits → Type 0
Stays s = (b : ℕ) → is_digit b ≡ true → digits_after s b ≡ Some s

past_digits : (s : Digits) → Stays s → (ds rest : List ℕ) → list_all is_digit ds ≡ true → number_ends s (ds ++ rest) ≡ number_ends s rest
past_digits s stays [] rest h = refl
past_digits s stays (b ∷ bs) rest h =
    let t = and_parts (is_digit b) (list_all is_digit bs) h in
    ap (ends_on (λ n. number_ends n (bs ++ rest))) (stays b t.0) ∙ past_digits s stays bs rest t.1

whole_stays : Stays d.Whole
whole_stays b h = rw h refl

fraction_stays : Stays d.Fraction
fraction_stays b h = rw h refl

exponent_stays : Stays d.Exponent
exponent_stays b h = rw h refl

exponent_read : (ds : List ℕ) → list_all is_digit ds ≡ true → number_ends d.Exponent ds ≡ true
exponent_read ds h = ap (number_ends d.Exponent) (sym (append-nil ds)) ∙ past_digits d.Exponent exponent_stays ds [] h

sign_read : (ds : List ℕ) → IsDigits ds → number_ends d.Sign ds ≡ true
sign_read [] h = absurd h
sign_read (b ∷ bs) h = let t = and_parts (is_digit b) (list_all is_digit bs) h in rw t.0 (exponent_read bs t.1)

mark_read : (ds : List ℕ) → IsDigits ds → number_ends d.Mark ds ≡ true
mark_read [] h = absurd h
mark_read (b ∷ bs) h = let t = and_parts (is_digit b) (list_all is_digit bs) h in rw t.0 (exponent_read bs t.1)

signed_read : (sign digits : List ℕ) → IsSign sign → IsDigits digits → number_ends d.Mark (sign ++ digits) ≡ true
signed_read sign digits (inl e) h = rw e (mark_read digits h)
signed_read sign digits (inr (inl e)) h = rw e (sign_read digits h)
signed_read sign digits (inr (inr e)) h = rw e (sign_read digits h)

-- where an exponent may follow
abbrev IsMarked : Digits → Type 0
IsMarked s = (may_end s ≡ true) × (digits_after s 101 ≡ Some d.Mark) × (digits_after s 69 ≡ Some d.Mark)

mark_after : (s : Digits) (b : ℕ) → IsMarked s → is_mark b ≡ true → digits_after s b ≡ Some d.Mark
mark_after s b m h =
    let P : ℕ → Type 0 = λ x. digits_after s x ≡ Some d.Mark in
    elim (or_cases (b == 101) (b == 69) h) [ inl e ↦ subst P (sym (eqb-true b 101 e)) m.1 | inr e ↦ subst P (sym (eqb-true b 69 e)) m.2 ]

exponents_read : (s : Digits) (exponent : List ℕ) → IsMarked s → IsExponent exponent → number_ends s exponent ≡ true
exponents_read s [] m h = m.0
exponents_read s (b ∷ bs) m h =
    ap (ends_on (λ n. number_ends n bs)) (mark_after s b m h.0) ∙ ap (number_ends d.Mark) h.3 ∙ signed_read h.1 h.2 h.4 h.5

point_read : (digits exponent : List ℕ) → IsDigits digits → IsExponent exponent → number_ends d.Point (digits ++ exponent) ≡ true
point_read [] exponent h e = absurd h
point_read (b ∷ bs) exponent h e =
    let t = and_parts (is_digit b) (list_all is_digit bs) h in
    rw t.0 (past_digits d.Fraction fraction_stays bs exponent t.1 ∙ exponents_read d.Fraction exponent (refl, refl, refl) e)

-- where a fraction may follow
fractions_read : (s : Digits) (fraction exponent : List ℕ) → IsMarked s → digits_after s 46 ≡ Some d.Point → IsFraction fraction → IsExponent exponent → number_ends s (fraction ++ exponent) ≡ true
fractions_read s [] exponent m p h e = exponents_read s exponent m e
fractions_read s (b ∷ bs) exponent m p h e =
    ap (λ (x : ℕ). ends_on (λ n. number_ends n (bs ++ exponent)) (digits_after s x)) h.0
    ∙ ap (ends_on (λ n. number_ends n (bs ++ exponent))) p ∙ point_read bs exponent h.1 e

unsigned : (whole fraction exponent : List ℕ) → IsWhole whole → IsFraction fraction → IsExponent exponent → IsRead (whole ++ (fraction ++ exponent))
unfolding class_of
unsigned [] fraction exponent h f e = absurd h
unsigned (b ∷ bs) fraction exponent (inl h) f e = record {
  first = 48;
  more = fraction ++ exponent;
  digits = d.Zero;
  parts = ap (λ (x : ℕ). x ∷ (bs ++ (fraction ++ exponent))) h.0 ∙ ap (λ (xs : List ℕ). 48 ∷ (xs ++ (fraction ++ exponent))) h.1;
  begins = refl;
  ends = fractions_read d.Zero fraction exponent (refl, refl, refl) refl f e;
}
unsigned (b ∷ bs) fraction exponent (inr h) f e = record {
  first = b;
  more = bs ++ (fraction ++ exponent);
  digits = d.Whole;
  parts = refl;
  begins = class_of_digit b h.0 h.1;
  ends = past_digits d.Whole whole_stays bs (fraction ++ exponent) h.2 ∙ fractions_read d.Whole fraction exponent (refl, refl, refl) refl f e;
}

after_minus : (whole fraction exponent : List ℕ) → IsWhole whole → IsFraction fraction → IsExponent exponent → number_ends d.Minus (whole ++ (fraction ++ exponent)) ≡ true
after_minus [] fraction exponent h f e = absurd h
after_minus (b ∷ bs) fraction exponent (inl h) f e =
    ap (λ (x : ℕ). ends_on (λ n. number_ends n (bs ++ (fraction ++ exponent))) (digits_after d.Minus x)) h.0
    ∙ ap (λ (xs : List ℕ). number_ends d.Zero (xs ++ (fraction ++ exponent))) h.1 ∙ fractions_read d.Zero fraction exponent (refl, refl, refl) refl f e
after_minus (b ∷ bs) fraction exponent (inr h) f e =
    rw (h.1, h.0) (past_digits d.Whole whole_stays bs (fraction ++ exponent) h.2 ∙ fractions_read d.Whole fraction exponent (refl, refl, refl) refl f e)

signed : (minus rest : List ℕ) → IsMinus minus → IsRead rest → number_ends d.Minus rest ≡ true → IsRead (minus ++ rest)
unfolding class_of
signed minus rest (inl e) r h = subst (λ (xs : List ℕ). IsRead (xs ++ rest)) (sym e) r
signed minus rest (inr e) r h = record {
  first = 45;
  more = rest;
  digits = d.Minus;
  parts = ap (λ (xs : List ℕ). xs ++ rest) e;
  begins = refl;
  ends = h;
}

pub number_again : (text : List ℕ) → IsNumber text → IsRead text
number_again text n =
    subst IsRead (sym n.parts) (signed n.minus (n.whole ++ (n.fraction ++ n.exponent)) n.is_minus (unsigned n.whole n.fraction n.exponent n.is_whole n.is_fraction n.is_exponent)
    (after_minus n.whole n.fraction n.exponent n.is_whole n.is_fraction n.is_exponent))
