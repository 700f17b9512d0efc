-- Nodes that know nothing.
use Rattle.std.proofs.Common.{◌≡◌, ◌⊎◌, inl, inr, ℕ, suc, ◌+◌, ◌<◌, ◌==◌, Bool, true, false, List, [], ◌∷◌, ◌++◌, length, refl}
use Rattle.std.proofs.Common.{Some, None, ap, ◌∙◌, subst, arith, replicate}
use Rattle.std.specs.Prelude.{◌&&◌, nat_le}
use Rattle.std.proofs.lemmas.List.{replicate_more}
use Rattle.std.proofs.lemmas.Bool.{lt-leb}
use Rattle.rt_value.specs.Choice.{some_if}
use Rattle.rt_value.proofs.Among.{from_contains}
use Rattle.rt_cluster.specs.Operations.{Operation, marks_of}
use Rattle.rt_cluster.specs.Standing.{Known, Stands}
use Rattle.rt_cluster_script.specs.Script.{State, state_with, begun}
use Rattle.rt_cluster_script.specs.Agreeing.{Fits, AllFit}

abbrev pub nothing : List Operation
nothing = []

abbrev pub Nobody : ℕ → List (List Operation)
Nobody n = replicate n nothing

fits_new : (node : ℕ) (r : Known) → Stands r [] → r.node ≡ node → Fits [] node r []
fits_new node r stands is =
    record {
      stands = stands;
      is_node = is;
      kept = λ o h. h;
      own = λ m h e. absurd (from_contains (marks_of nothing) m h);
    }

all_more : (i n : ℕ) (rs : List Known) (ks : List (List Operation)) (r : Known) → AllFit [] i rs ks → length rs ≡ n
    → r.node ≡ i + n → Stands r [] → AllFit [] i (rs ++ r ∷ []) (ks ++ nothing ∷ [])
all_more i n [] [] r fit e is stands =
    let here : i + n ≡ i = omega (arith, e) in (fits_new i r stands (is ∙ here), tt)
all_more i n [] (k ∷ ks) r fit e is stands = absurd fit
all_more i n (q ∷ rs) [] r fit e is stands = absurd fit
all_more i n (q ∷ rs) (k ∷ ks) r fit e is stands =
    let here : i + n ≡ suc i + length rs = omega (arith, e) in
    (fit.0, all_more (suc i) (length rs) rs ks r fit.1 refl (is ∙ here) stands)

pub one_more : (n : ℕ) (rs : List Known) (r : Known) → AllFit [] 0 rs (Nobody n) → length rs ≡ n → r.node ≡ n
    → Stands r [] → AllFit [] 0 (rs ++ r ∷ []) (Nobody (n + 1))
one_more n rs r fit e is stands =
    let here : n ≡ 0 + n = omega arith in
    subst (AllFit [] 0 (rs ++ r ∷ [])) (replicate_more n nothing)
    (all_more 0 n rs (Nobody n) r fit e (is ∙ here) stands)

pub as_many : (told : List Operation) (i : ℕ) (rs : List Known) (ks : List (List Operation)) → AllFit told i rs ks
    → length ks ≡ length rs
as_many told i [] [] fit = refl
as_many told i [] (k ∷ ks) fit = absurd fit
as_many told i (r ∷ rs) [] fit = absurd fit
as_many told i (r ∷ rs) (k ∷ ks) fit = ap (λ n. suc n) (as_many told (suc i) rs ks fit.1)

no_state : (a b : Bool) (st : State) → (a ≡ false) ⊎ (b ≡ false) → some_if (a && b) st ≡ None
no_state true true st (inl e) = absurd cc
no_state true true st (inr e) = absurd cc
no_state true false st e = refl
no_state false b st e = refl

no_count : (a b : Bool) → (a ≡ false) ⊎ (b ≡ false) → (a && b) ≡ false
no_count true true (inl e) = absurd cc
no_count true true (inr e) = absurd cc
no_count true false e = refl
no_count false b e = refl

pub not_begun : (st : State) (count : ℕ) → ((length st.nodes == 0) ≡ false) ⊎ ((count ≡ 0) ⊎ (16 < count))
    → begun st count ≡ None
not_begun st count (inl e) = no_state (length st.nodes == 0) _ _ (inl e)
not_begun st count (inr (inl e)) =
    no_state (length st.nodes == 0) _ _ (inr (no_count (nat_le 1 count) (nat_le count 16) (inl (ap (nat_le 1) e))))
not_begun st count (inr (inr lt)) =
    no_state (length st.nodes == 0) _ _ (inr (no_count (nat_le 1 count) (nat_le count 16) (inr (lt-leb count 16 lt))))

pub begun_is : (st : State) (count : ℕ) → (length st.nodes == 0) ≡ true → nat_le 1 count ≡ true
    → nat_le count 16 ≡ true → begun st count ≡ Some (state_with (Nobody count) [] st.shown)
begun_is st count none low high =
    ap (λ b. some_if (b && (nat_le 1 count && nat_le count 16)) (state_with (Nobody count) [] st.shown)) none
    ∙ ap (λ b. some_if (b && nat_le count 16) (state_with (Nobody count) [] st.shown)) low
    ∙ ap (λ b. some_if b (state_with (Nobody count) [] st.shown)) high
