-- Filters tested one after another.
use Rattle.std.proofs.Common.{◌≡◌, ℕ, ◌+◌, ◌<◌, ◌≤◌, nat_lt, Bool, true, false, cond, List, [], ◌∷◌, ◌++◌, length, get_or, drop, Option, Some, None, Result, Ok, Err, refl, sym, ap, ◌∙◌, arith, append_assoc}
use Rattle.std.proofs.Math.ListN.{drop_of_length-le}
use Rattle.std.proofs.lemmas.List.{append-nil}
use Rattle.std.proofs.lemmas.Bool.Decides.{nat_tests}
use Rattle.std.specs.List.{filter}
use Rattle.rt_filter.specs.declared.filter.Shown.{Shown}
use Rattle.rt_filter.specs.declared.filter.Test.{Test}
use Rattle.rt_filter.specs.declared.fault.FilterFault.{FilterFault}
use Rattle.rt_filter.specs.declared.fault.FilterFault.TheVariants as fault
use Rattle.rt_value.proofs.Plain.{all_every, filter_all}
use Rattle.rt_catalog.specs.declared.catalog.Catalog.{Catalog}
use Rattle.rt_registry.specs.declared.binding.Binding.{Binding}
use Rattle.rt_registry.specs.declared.fault.BindingWhy.{BindingWhy}
use Rattle.rt_registry.specs.declared.fault.BindingWhy.TheVariants as why
use Rattle.rt_registry.specs.Bindings.{◌>>◌, HasReason, test_or_why, test_for, each_test, tests_for, shown_to, filters_of}
use Rattle.rt_roster.specs.Meant.{is_asked}
use Rattle.rt_roster.specs.Whys.{why_told}
use Rattle.rt_roster.proofs.Columns.{at_place}

-- the tests so far before those that are left
abbrev pub onto : {A E : Type 0} → List A → Result (List A) E → Result (List A) E
onto xs r = r >> λ ys. Ok (xs ++ ys)

pub onto_nothing : {A E : Type 0} (r : Result (List A) E) → r ≡ onto [] r
onto_nothing (Ok xs) = refl
onto_nothing (Err e) = refl

pub onto_more : {A E : Type 0} (xs : List A) (x : A) (r : Result (List A) E)
    → onto xs (r >> λ ys. Ok (x ∷ ys)) ≡ onto (xs ++ x ∷ []) r
onto_more xs x (Ok ys) = ap Ok (sym (append_assoc xs (x ∷ []) ys))
onto_more xs x (Err e) = refl

-- with tests of filters so far, the filters from i on are left
pub record IsTestedUpTo (columns : List Shown) (listed : Bool) (filters : List (List ℕ)) (tests : List Test) (i : ℕ)
    : Type 0 where
  pub is : each_test columns (filter (is_asked listed) filters)
      ≡ onto tests (each_test columns (filter (is_asked listed) (drop i filters)))

pub tested_none : (columns : List Shown) (listed : Bool) (filters : List (List ℕ)) → IsTestedUpTo columns listed filters [] 0
tested_none columns listed filters = record { is = onto_nothing (each_test columns (filter (is_asked listed) filters)) }

kept_behind : (listed : Bool) (filters : List (List ℕ)) (i : ℕ) (t : List ℕ) (b : Bool) → i < length filters
    → t ≡ get_or filters i t → is_asked listed t ≡ b
    → filter (is_asked listed) (drop i filters)
    ≡ cond b (t ∷ filter (is_asked listed) (drop (i + 1) filters)) (filter (is_asked listed) (drop (i + 1) filters))
kept_behind listed filters i t b h e is =
    ap (filter (is_asked listed)) (at_place filters i t h e)
    ∙ ap (λ v. cond v (t ∷ filter (is_asked listed) (drop (i + 1) filters)) (filter (is_asked listed) (drop (i + 1) filters))) is

pub tested_skip : (columns : List Shown) (listed : Bool) (filters : List (List ℕ)) (tests : List Test) (i : ℕ) (t : List ℕ)
    → IsTestedUpTo columns listed filters tests i → i < length filters → t ≡ get_or filters i t
    → is_asked listed t ≡ false → IsTestedUpTo columns listed filters tests (i + 1)
tested_skip columns listed filters tests i t w h e is = record {
  is = w.is ∙ ap (λ fs. onto tests (each_test columns fs)) (kept_behind listed filters i t false h e is);
}

tested_next : (columns : List Shown) (listed : Bool) (filters : List (List ℕ)) (tests : List Test) (i : ℕ) (t : List ℕ)
    (r : Result Test BindingWhy)
    → IsTestedUpTo columns listed filters tests i → i < length filters → t ≡ get_or filters i t
    → is_asked listed t ≡ true → r ≡ test_for columns t
    → each_test columns (filter (is_asked listed) filters)
    ≡ onto tests (r >> λ x. each_test columns (filter (is_asked listed) (drop (i + 1) filters)) >> λ xs. Ok (x ∷ xs))
tested_next columns listed filters tests i t r w h e is k =
    w.is ∙ ap (λ fs. onto tests (each_test columns fs)) (kept_behind listed filters i t true h e is)
    ∙ ap (λ q. onto tests (q >> λ x. each_test columns (filter (is_asked listed) (drop (i + 1) filters)) >> λ xs. Ok (x ∷ xs))) (sym k)

pub tested_more : (columns : List Shown) (listed : Bool) (filters : List (List ℕ)) (tests : List Test) (i : ℕ) (t : List ℕ)
    (x : Test) → IsTestedUpTo columns listed filters tests i → i < length filters → t ≡ get_or filters i t
    → is_asked listed t ≡ true → Ok x ≡ test_for columns t → IsTestedUpTo columns listed filters (tests ++ x ∷ []) (i + 1)
tested_more columns listed filters tests i t x w h e is k = record {
  is = tested_next columns listed filters tests i t (Ok x) w h e is k
      ∙ onto_more tests x (each_test columns (filter (is_asked listed) (drop (i + 1) filters)));
}

pub tested_bad : (columns : List Shown) (listed : Bool) (filters : List (List ℕ)) (tests : List Test) (i : ℕ) (t : List ℕ)
    (x : BindingWhy) → IsTestedUpTo columns listed filters tests i → i < length filters → t ≡ get_or filters i t
    → is_asked listed t ≡ true → Err x ≡ test_for columns t
    → Err x ≡ each_test columns (filter (is_asked listed) filters)
tested_bad columns listed filters tests i t x w h e is k = sym (tested_next columns listed filters tests i t (Err x) w h e is k)

pub tested_all : (columns : List Shown) (listed : Bool) (filters : List (List ℕ)) (tests : List Test) (i : ℕ)
    → IsTestedUpTo columns listed filters tests i → length filters ≤ i
    → Ok tests ≡ each_test columns (filter (is_asked listed) filters)
tested_all columns listed filters tests i w h =
    sym (w.is ∙ ap (λ l. onto tests (each_test columns (filter (is_asked listed) l))) (drop_of_length-le filters h)
    ∙ ap Ok (append-nil tests))

-- by the number of filters that ask for something

pub no_filter : (c : Catalog) (role : ℕ) (table : Option ℕ) (filters : List (List ℕ)) → length filters ≡ 0
    → Ok [] ≡ tests_for c role table filters
no_filter c role table [] h = refl
no_filter c role table (f ∷ fs) h = absurd (omega arith)

pub no_table : (c : Catalog) (role : ℕ) (filters : List (List ℕ)) → 0 < length filters
    → Err why.FilterNoTable ≡ tests_for c role None filters
no_table c role [] h = absurd (omega arith)
no_table c role (f ∷ fs) h = refl

pub too_many : (c : Catalog) (role table : ℕ) (filters : List (List ℕ)) → 8 < length filters
    → Err why.TooManyFilters ≡ tests_for c role (Some table) filters
too_many c role table [] h = absurd (omega arith)
too_many c role table (f ∷ fs) h =
    let is : nat_lt 8 (length (f ∷ fs)) ≡ true = grind (arith, nat_tests) in rw is refl

pub few_enough : (c : Catalog) (role table : ℕ) (filters : List (List ℕ)) → 0 < length filters → length filters ≤ 8
    → each_test (shown_to c role table) filters ≡ tests_for c role (Some table) filters
few_enough c role table [] h k = absurd (omega arith)
few_enough c role table (f ∷ fs) h k =
    let is : nat_lt 8 (length (f ∷ fs)) ≡ false = grind (arith, nat_tests) in rw is refl

-- the filters of a binding are those that ask for something
pub filters_are : (b : Binding) → filters_of b ≡ filter (is_asked b.listed) b.filters
filters_are b =
    elim b.listed as (λ l. elim l as (λ _. List (List ℕ)) [ true ↦ b.filters | false ↦ filter (is_asked false) b.filters ] ≡ filter (is_asked l) b.filters) [
      | true ↦ sym (filter_all (is_asked true) b.filters (all_every _ b.filters (λ t. refl)))
      | false ↦ refl
    ]

-- what a test's fault is told as

told_err : (e : FilterFault) (h : HasReason (Err e)) (w : BindingWhy) → why_told e ≡ Some w
    → test_or_why (Err e) h ≡ Err w
told_err fault.NoMemory h w k = absurd h
told_err fault.BadFilter h w k = cc
told_err fault.ColumnHidden h w k = cc
told_err fault.Opaque h w k = cc
told_err (fault.TooMany n) h w k = cc
told_err fault.BadValue h w k = cc

pub test_err : (r : Result Test FilterFault) (h : HasReason r) (e : FilterFault) (w : BindingWhy) → r ≡ Err e
    → why_told e ≡ Some w → test_or_why r h ≡ Err w
test_err (Ok t) h e w k is = cc
test_err (Err d) h e w k is = let same : d ≡ e = cc in told_err d h w (ap why_told same ∙ is)

pub test_ok : (r : Result Test FilterFault) (h : HasReason r) (t : Test) → r ≡ Ok t → test_or_why r h ≡ Ok t
test_ok (Ok u) h t k = k'
  where
    k' : test_or_why (Ok u) h ≡ Ok t
    k' = cc
test_ok (Err e) h t k = cc
