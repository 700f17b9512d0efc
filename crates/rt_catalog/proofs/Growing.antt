-- Statements that aren't refused, and lists that grow.
use Rattle.std.proofs.Common.{◌≡◌, ℕ, zero, suc, ◌+◌, ◌≤◌, Bool, true, false, ◌||◌, cond}
use Rattle.std.proofs.Common.{List, [], ◌∷◌, ◌++◌, length, Option, Some, None, refl, ap}
use Rattle.std.proofs.Common.{arith, length-append}
use Rattle.std.specs.Prelude.{slice_get, is_some, option_map}
use Rattle.std.specs.List.{AllByRecursion, list_any}
use Rattle.rt_catalog.specs.declared.catalog.Table.{Table}
use Rattle.rt_catalog.specs.declared.catalog.Grant.{Grant}
use Rattle.rt_catalog.specs.declared.fault.Why.{Why}
use Rattle.rt_catalog.specs.Lists.{ListedRole}
use Rattle.rt_catalog.specs.Refusals.{first_why}
use Rattle.rt_catalog.specs.Sound.{IsWithin, IsGrantOf}
use Rattle.rt_catalog.proofs.Found.{found_from}

abbrev why_or : Option Why → Why → Bool → Option Why
why_or more reason b = elim b [ true ↦ Some reason | false ↦ more ]

not_so : (b : Bool) (reason : Why) (more : Option Why) → why_or more reason b ≡ None → (b ≡ false) × (more ≡ None)
not_so true reason more h = absurd (cc)
not_so false reason more h = (refl, h)

-- where no reason applies, no test holds
pub none_applies : (tests : List (Bool × Why)) → first_why tests ≡ None → AllByRecursion (λ c. c.0 ≡ false) tests
none_applies [] h = tt
none_applies (c ∷ tests) h = let (here, more) = not_so c.0 c.1 (first_why tests) h in (here, none_applies tests more)

pub get_append : {A : Type 0} (xs ys : List A) (n : ℕ) (x : A) → slice_get xs n ≡ Some x
    → slice_get (xs ++ ys) n ≡ Some x
get_append [] ys n x h = absurd (cc)
get_append (z ∷ xs) ys zero x h = h
get_append (z ∷ xs) ys (suc n) x h = get_append xs ys n x h

pub within_more : (n m : ℕ) (o : Option ℕ) → n ≤ m → IsWithin n o → IsWithin m o
within_more n m None le h = tt
within_more n m (Some k) le h = omega arith

pub longer : {A : Type 0} (xs ys : List A) → length xs ≤ length (xs ++ ys)
longer xs ys = omega (arith, length-append xs ys)

pub one_more : {A : Type 0} (xs : List A) (x : A) (limit : ℕ) → length xs + 1 ≤ limit → length (xs ++ x ∷ []) ≤ limit
one_more xs x limit h = omega (arith, length-append xs (x ∷ []))

pub all_weaker : {A : Type 0} (P Q : A → Type 0) (xs : List A) → ((x : A) → P x → Q x) → AllByRecursion P xs
    → AllByRecursion Q xs
all_weaker P Q [] f a = tt
all_weaker P Q (x ∷ xs) f a = (f x a.0, all_weaker P Q xs f a.1)

pub grant_in_more : (tables more : List Table) (roles others : List ListedRole) (g : Grant) → IsGrantOf tables roles g
    → IsGrantOf (tables ++ more) (roles ++ others) g
grant_in_more tables more roles others g of =
    record {
      table = of.table;
      at = get_append tables more g.table of.table of.at;
      column = of.column;
      role =
          within_more (length roles) (length (roles ++ others)) g.role (longer roles others) of.role;
    }

pub append_none : {A : Type 0} (xs : List A) → xs ++ [] ≡ xs
append_none [] = refl
append_none (x ∷ xs) = ap (λ ys. x ∷ ys) (append_none xs)

-- what is found is that some element passes
abbrev pub is_found : {A : Type 0} → Option (ℕ × A) → Bool
is_found o = is_some (option_map (λ e. e.0) o)

abbrev found_or : {A : Type 0} → Option (ℕ × A) → ℕ × A → Bool → Option (ℕ × A)
found_or more e b = cond b (Some e) more

found_step : {A : Type 0} (e : ℕ × A) (more : Option (ℕ × A)) (b c : Bool) → is_found more ≡ c
    → is_found (found_or more e b) ≡ (b || c)
found_step e more true c h = refl
found_step e more false c h = h

pub found_is : {A : Type 0} (test : A → Bool) (from : ℕ) (xs : List A)
    → is_found (found_from test from xs) ≡ list_any test xs
found_is test from [] = refl
found_is test from (x ∷ xs) =
    found_step (from, x) (found_from test (from + 1) xs) (test x) (list_any test xs) (found_is test (from + 1) xs)
