-- What bindings mean: the bindings themselves, and for each role that doesn't refuse them the same.
use Rattle.std.proofs.Common.{◌≡◌, ℕ, ◌+◌, ◌≤◌, Bool, true, false, not, List, [], ◌∷◌, map, length, Option, Some, None}
use Rattle.std.proofs.Common.{Ok, Err, suc, refl, sym, ap, subst, ◌∙◌, arith, cond}
use Rattle.std.specs.Prelude.{⊤, Result, nat_lt, find, if◌then◌else◌, option_map, unwrap_or, codes}
use Rattle.std.specs.List.{enumerate_from}
use Rattle.std.specs.Str.{bytes_eq}
use Rattle.std.proofs.lemmas.Bool.Decides.{nat_tests}
use Rattle.rt_value.specs.declared.claims.Claims.{Claims}
use Rattle.rt_value.specs.declared.value.Kind.{Kind}
use Rattle.rt_filter.specs.declared.filter.Shown.{Shown}
use Rattle.rt_filter.specs.declared.filter.Test.{Test}
use Rattle.rt_filter.specs.declared.filter.Filter.{Filter}
use Rattle.rt_filter.specs.declared.fault.FilterFault.{FilterFault}
use Rattle.rt_filter.specs.declared.fault.FilterFault.TheVariants.{ColumnHidden, Opaque, TooMany}
use Rattle.rt_filter.specs.Written.{filter_of}
use Rattle.rt_filter.specs.Tests.{test_of, test_on, test_with, all_read, is_opaque, value_limit}
use Rattle.rt_catalog.specs.declared.catalog.Catalog.{Catalog}
use Rattle.rt_catalog.specs.declared.catalog.Column.{Column}
use Rattle.rt_catalog.specs.Access.{may_select, table_at}
use Rattle.rt_registry.specs.declared.binding.Binding.{Binding}
use Rattle.rt_registry.specs.declared.binding.Subscribed.{Subscribed}
use Rattle.rt_registry.specs.declared.fault.BindingWhy.{BindingWhy}
use Rattle.rt_registry.specs.declared.fault.BindingWhy.TheVariants as why
use Rattle.rt_registry.specs.Bindings.{Refusal, limit, ◌>>◌, or_err, demand, wanted_of, unless_text, table_for}
use Rattle.rt_registry.specs.Bindings.{HasReason, test_or_why, test_has_reason, test_for, each_test, shown_to}
use Rattle.rt_registry.specs.Bindings.{filter_limit, tests_for, filters_of, meaning_of_binding, at_count, all_from}
use Rattle.rt_registry.specs.Bindings.{binding_limit, within_limit, role_for, bindings_for}
use Rattle.rt_entry.specs.Sourced.{bindings_of, MeaningsAgree}

-- what holds of a value that is given
abbrev pub Gives : {A E : Type 0} → (A → Type 0) → Result A E → Type 0
Gives B (Ok x) = B x
Gives B (Err e) = ⊤

pub gives_any : {A E : Type 0} (r : Result A E) → Gives (λ x. ⊤) r
gives_any (Ok x) = tt
gives_any (Err e) = tt

pub gives_itself : {A E : Type 0} (r : Result A E) → Gives (λ x. r ≡ Ok x) r
gives_itself (Ok x) = refl
gives_itself (Err e) = tt

pub given_of : {A E : Type 0} (B : A → Type 0) (r : Result A E) (x : A) → Gives B r → r ≡ Ok x → B x
given_of B r x g e = let P : Result _ _ → Type 0 = λ q. Gives B q in subst P e g

gives_bind : {A C E : Type 0} (B : A → Type 0) (D : C → Type 0) (r : Result A E) (f : A → Result C E) → Gives B r
    → ((x : A) → B x → Gives D (f x)) → Gives D (r >> f)
gives_bind B D (Ok x) f h k = k x h
gives_bind B D (Err e) f h k = tt

-- a meaning's binding is the binding

one_back : (c : Catalog) (role : ℕ) (b : Binding)
    → Gives (λ (s : Subscribed). s.binding ≡ b) (meaning_of_binding c role b)
one_back c role b =
    let B : Subscribed → Type 0 = λ s. s.binding ≡ b in
    gives_bind (λ x. ⊤) B (or_err why.Event (wanted_of b.wanted)) _ (gives_any (or_err why.Event (wanted_of b.wanted)))
    (λ wanted _.
    let table = table_for c b.schema (unless_text (codes "*") b.table) in
    gives_bind (λ x. ⊤) B table _ (gives_any table) (λ table _.
    gives_bind (λ x. ⊤) B (tests_for c role table (filters_of b))
    (λ tests. Ok (record { binding = b; wanted = wanted; table = table; tests = tests }))
    (gives_any (tests_for c role table (filters_of b))) (λ tests _. refl)))

counted : (n : ℕ) (b : Binding) (r : Result Subscribed BindingWhy) → Gives (λ (s : Subscribed). s.binding ≡ b) r
    → Gives (λ (s : Subscribed). s.binding ≡ b) (at_count n r)
counted n b (Ok s) h = h
counted n b (Err reason) h = tt

all_back : (c : Catalog) (role n : ℕ) (bs : List Binding) → Gives (λ ss. bindings_of ss ≡ bs) (all_from c role n bs)
all_back c role n [] = refl
all_back c role n (b ∷ more) =
    let D : List Subscribed → Type 0 = λ ss. bindings_of ss ≡ b ∷ more in
    gives_bind (λ (s : Subscribed). s.binding ≡ b) D (at_count n (meaning_of_binding c role b)) _
    (counted n b (meaning_of_binding c role b) (one_back c role b)) (λ s e.
    gives_bind (λ ss. bindings_of ss ≡ more) D (all_from c role (n + 1) more) (λ ss. Ok (s ∷ ss))
    (all_back c role (n + 1) more) (λ ss f. ap (λ (x : Binding). x ∷ bindings_of ss) e ∙ ap (λ bs. b ∷ bs) f))

few : (bs : List Binding) → Gives (λ (x : Bool). length bs ≤ binding_limit) (within_limit bs)
few bs = by (nat_lt binding_limit (length bs)) refl
  where
    by : (b : Bool) → nat_lt binding_limit (length bs) ≡ b
        → Gives (λ (x : Bool). length bs ≤ binding_limit) (demand (not b) (limit (length bs)))
    by true e = tt
    by false e = grind (arith, nat_tests)

-- what bindings mean has the bindings, and they are few
abbrev IsBack : List Binding → List Subscribed → Type 0
IsBack bs ss = (bindings_of ss ≡ bs) × (length bs ≤ binding_limit)

back : (c : Catalog) (claims : Claims) (bs : List Binding) → Gives (IsBack bs) (bindings_for c claims bs)
unfolding bindings_for
back c claims bs =
    gives_bind (λ (n : ℕ). ⊤) (IsBack bs) (role_for c claims) (λ role. within_limit bs >> λ _. all_from c role 1 bs)
    (gives_any (role_for c claims)) (λ role _.
    gives_bind (λ (x : Bool). length bs ≤ binding_limit) (IsBack bs) (within_limit bs) (λ _. all_from c role 1 bs)
    (few bs) (λ _ some.
    gives_both (all_from c role 1 bs) some (all_back c role 1 bs)))
  where
    gives_both : (r : Result (List Subscribed) Refusal) → length bs ≤ binding_limit
        → Gives (λ ss. bindings_of ss ≡ bs) r → Gives (IsBack bs) r
    gives_both (Ok ss) some h = (h, some)
    gives_both (Err e) some h = tt

-- so they mean the same again, and there are as many
pub meant_again : (c : Catalog) (claims : Claims) (bs : List Binding) (ss : List Subscribed)
    → bindings_for c claims bs ≡ Ok ss → bindings_for c claims (bindings_of ss) ≡ Ok ss
meant_again c claims bs ss e =
    ap (bindings_for c claims) (given_of (IsBack bs) (bindings_for c claims bs) ss (back c claims bs) e).0 ∙ e

pub meant_few : (c : Catalog) (claims : Claims) (bs : List Binding) (ss : List Subscribed)
    → bindings_for c claims bs ≡ Ok ss → length ss ≤ binding_limit
meant_few c claims bs ss e =
    let g = given_of (IsBack bs) (bindings_for c claims bs) ss (back c claims bs) e in
    let some = g.1 in
    let same : length (bindings_of ss) ≡ length bs = ap length g.0 in
    let as_many : length (bindings_of ss) ≡ length ss = as_long ss in
    omega arith
  where
    as_long : (ss : List Subscribed) → length (bindings_of ss) ≡ length ss
    as_long [] = refl
    as_long (s ∷ ss) = ap suc (as_long ss)

-- Two answers that are equal where both are values.
abbrev Agree : {A E : Type 0} → Result A E → Result A E → Type 0
Agree {A} r q = (x y : A) → r ≡ Ok x → q ≡ Ok y → x ≡ y

agree_same : {A E : Type 0} (r : Result A E) → Agree r r
agree_same r x y e f = let z : Ok x ≡ Ok y = sym e ∙ f in cc

-- equal first answers, then answers that agree
agree_bind : {A C E : Type 0} (r : Result A E) (f g : A → Result C E) → ((x : A) → Agree (f x) (g x))
    → Agree (r >> f) (r >> g)
agree_bind (Ok z) f g h = h z
agree_bind (Err e) f g h = λ x y p q. absurd (cc)

-- first answers that agree, then the same
agree_then : {A C E : Type 0} (r q : Result A E) (f g : A → Result C E) → Agree r q
    → ((x : A) → Agree (f x) (g x)) → Agree (r >> f) (q >> g)
agree_then {A} {C} (Ok a) (Ok b) f g h k =
    let P : A → Type 0 = λ z. Agree (f a) (g z) in subst P (h a b refl refl) (k a)
agree_then (Ok a) (Err e) f g h k = λ x y p q. absurd (cc)
agree_then (Err e) q f g h k = λ x y p r. absurd (cc)

-- whatever the first answers are
agree_roles : {C E : Type 0} (r q : Result ℕ E) (f : ℕ → Result C E) → ((m n : ℕ) → Agree (f m) (f n))
    → Agree (r >> f) (q >> f)
agree_roles (Ok m) (Ok n) f h = h m n
agree_roles (Ok m) (Err e) f h = λ x y p q. absurd (cc)
agree_roles (Err e) q f h = λ x y p r. absurd (cc)

-- a role decides which columns are seen, and not which they are
abbrev shown_by : Catalog → ℕ → ℕ → ℕ × Column → Shown
shown_by c role table n =
    record { name = n.1.name; kind = n.1.kind; selectable = may_select c role table n.0 }

abbrev Alike : Option (ℕ × Shown) → Option (ℕ × Shown) → Type 0
Alike None None = ⊤
Alike (Some x) (Some y) = (x.0 ≡ y.0) × (x.1.kind ≡ y.1.kind)
Alike _ _ = ⊥

found_alike : (c : Catalog) (role other table : ℕ) (f : Filter) (k : ℕ) (es : List (ℕ × Column))
    → Alike (find (λ (n : ℕ × Shown). bytes_eq n.1.name f.column) (enumerate_from k (map (shown_by c role table) es)))
    (find (λ (n : ℕ × Shown). bytes_eq n.1.name f.column) (enumerate_from k (map (shown_by c other table) es)))
found_alike c role other table f k [] = tt
found_alike c role other table f k (e ∷ es) =
    let p : ℕ × Shown → Bool = λ n. bytes_eq n.1.name f.column in
    let rest : ℕ → Option (ℕ × Shown) = λ r. find p (enumerate_from (k + 1) (map (shown_by c r table) es)) in
    elim (bytes_eq e.1.name f.column) as
    (λ b. Alike (cond b (Some (k, shown_by c role table e)) (rest role))
    (cond b (Some (k, shown_by c other table e)) (rest other)))
    [ true ↦ (refl, refl) | false ↦ found_alike c role other table f (k + 1) es ]

agree_if : {A E : Type 0} (a b : Bool) (e : E) (r : Result A E)
    → Agree (if a then Err e else r) (if b then Err e else r)
agree_if true b e r = λ x y p q. absurd (cc)
agree_if false true e r = λ x y p q. absurd (cc)
agree_if false false e r = agree_same r

tested_alike : (f : Filter) (x y : ℕ × Shown) → x.0 ≡ y.0 → x.1.kind ≡ y.1.kind → Agree (test_on f x) (test_on f y)
tested_alike f x y n k =
    let P : Result Test FilterFault → Type 0 =
    λ r. Agree (test_on f x) (if not y.1.selectable then Err ColumnHidden else r) in
    subst P (same n k) (agree_if (not x.1.selectable) (not y.1.selectable) ColumnHidden (seen x.0 x.1.kind))
  where
    seen : ℕ → Kind → Result Test FilterFault
    seen m kind = if is_opaque kind then Err Opaque else
        (if nat_lt value_limit (length f.values) then Err (TooMany (length f.values)) else
        test_with m f.op (all_read kind f.values))

    same : x.0 ≡ y.0 → x.1.kind ≡ y.1.kind → seen x.0 x.1.kind ≡ seen y.0 y.1.kind
    same a b = ap (λ m. seen m x.1.kind) a ∙ ap (seen y.0) b

alike_then : (f : Filter) (o p : Option (ℕ × Shown)) → Alike o p
    → Agree (unwrap_or (option_map (test_on f) o) (Err ColumnHidden))
    (unwrap_or (option_map (test_on f) p) (Err ColumnHidden))
alike_then f None None h = agree_same (Err ColumnHidden)
alike_then f (Some x) (Some y) h = tested_alike f x y h.0 h.1
alike_then f None (Some y) h = absurd h
alike_then f (Some x) None h = absurd h

why_is : (r : Result Test FilterFault) (has : HasReason r) (x : Test) → test_or_why r has ≡ Ok x → r ≡ Ok x
why_is (Ok t) has x e = let same : t ≡ x = cc in ap (λ (z : Test). Ok z) same
why_is (Err e) has x p = absurd (cc)

module _ (c : Catalog) (role other : ℕ) where
  test_agrees : (table : ℕ) (f : Filter)
      → Agree (test_of f (shown_to c role table)) (test_of f (shown_to c other table))
  unfolding test_of
  test_agrees table f =
      alike_then f _ _ (found_alike c role other table f 0 (enumerate_from 0 (table_at c table).columns))

  tests_agree : (table : ℕ) (texts : List (List ℕ))
      → Agree (each_test (shown_to c role table) texts) (each_test (shown_to c other table) texts)
  tests_agree table [] = agree_same (Ok [])
  tests_agree table (text ∷ more) =
      let one : ℕ → Filter → Result Test BindingWhy =
      λ r f. test_or_why (test_of f (shown_to c r table)) (test_has_reason f (shown_to c r table)) in
      agree_then (test_for (shown_to c role table) text) (test_for (shown_to c other table) text) _ _
      (agree_bind (or_err why.Filter (filter_of text)) (one role) (one other) (λ f x y p q.
      test_agrees table f x y
      (why_is (test_of f (shown_to c role table)) (test_has_reason f (shown_to c role table)) x p)
      (why_is (test_of f (shown_to c other table)) (test_has_reason f (shown_to c other table)) y q)))
      (λ t. agree_then (each_test (shown_to c role table) more) (each_test (shown_to c other table) more)
      (λ ts. Ok (t ∷ ts)) (λ ts. Ok (t ∷ ts)) (tests_agree table more) (λ ts. agree_same (Ok (t ∷ ts))))

  all_tests_agree : (table : Option ℕ) (texts : List (List ℕ))
      → Agree (tests_for c role table texts) (tests_for c other table texts)
  all_tests_agree table [] = agree_same (Ok [])
  all_tests_agree None (text ∷ more) = agree_same (Err why.FilterNoTable)
  all_tests_agree (Some table) (text ∷ more) =
      agree_bind (demand (not (nat_lt filter_limit (length (text ∷ more)))) why.TooManyFilters)
      (λ _. each_test (shown_to c role table) (text ∷ more)) (λ _. each_test (shown_to c other table) (text ∷ more))
      (λ _. tests_agree table (text ∷ more))

  meaning_agrees : (b : Binding) → Agree (meaning_of_binding c role b) (meaning_of_binding c other b)
  meaning_agrees b =
      agree_bind (or_err why.Event (wanted_of b.wanted)) _ _ (λ wanted.
      agree_bind (table_for c b.schema (unless_text (codes "*") b.table)) _ _ (λ table.
      let made : List Test → Result Subscribed BindingWhy =
      λ tests. Ok (record { binding = b; wanted = wanted; table = table; tests = tests }) in
      agree_then (tests_for c role table (filters_of b)) (tests_for c other table (filters_of b)) made made
      (all_tests_agree table (filters_of b)) (λ tests. agree_same (made tests))))

  count_is : {A : Type 0} (n : ℕ) (r : Result A BindingWhy) (x : A) → at_count n r ≡ Ok x → r ≡ Ok x
  count_is n (Ok z) x e = let same : z ≡ x = cc in ap (λ y. Ok y) same
  count_is n (Err reason) x e = absurd (cc)

  all_agree : (n : ℕ) (bs : List Binding) → Agree (all_from c role n bs) (all_from c other n bs)
  all_agree n [] = agree_same (Ok [])
  all_agree n (b ∷ more) =
      let r = meaning_of_binding c role b in
      let q = meaning_of_binding c other b in
      agree_then (at_count n r) (at_count n q) _ _
      (λ x y e f. meaning_agrees b x y (count_is n r x e) (count_is n q y f))
      (λ s. agree_then (all_from c role (n + 1) more) (all_from c other (n + 1) more) (λ ss. Ok (s ∷ ss))
      (λ ss. Ok (s ∷ ss)) (all_agree (n + 1) more) (λ ss. agree_same (Ok (s ∷ ss))))

pub meanings_agree : (c : Catalog) → MeaningsAgree c
meanings_agree c role other b s t e f = meaning_agrees c role other b s t e f

-- bindings that pass under two claims mean the same
pub meant_alike : (c : Catalog) (claims others : Claims) (bs : List Binding) (ss ts : List Subscribed)
    → bindings_for c claims bs ≡ Ok ss → bindings_for c others bs ≡ Ok ts → ss ≡ ts
unfolding bindings_for
meant_alike c claims others bs ss ts e f =
    agree_roles (role_for c claims) (role_for c others) (λ role. within_limit bs >> λ _. all_from c role 1 bs)
    (λ m n. agree_bind (within_limit bs) (λ _. all_from c m 1 bs) (λ _. all_from c n 1 bs) (λ _. all_agree c m n 1 bs))
    ss ts e f
