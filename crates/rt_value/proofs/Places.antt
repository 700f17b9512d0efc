-- A reader with four laws stops at the first element that can't go on.
use Rattle.std.proofs.Common.{◌≡◌, ℕ, ◌<◌, ◌≤◌, ◌+◌, List, [], ◌∷◌, ◌++◌, Option, Some, None, refl, ap, subst, sym, ◌∙◌, append_assoc, append-nil, length, take, get_or, arith, ◌⊎◌, inl, inr}
use Rattle.std.specs.List.{slice_get}
use Rattle.std.proofs.lemmas.List.{take_more}
use Rattle.std.proofs.lemmas.Option.{slice_get_within, get_or_from_slice_get}
use Rattle.std.proofs.Math.Seq.{take-length}
use Rattle.rt_value.specs.Places.{Begins, IsStuckAt, Ends, Breaks, Answer, next, ends, stuck, run_on, run, ended, reads_on, reads}

-- the element that is looked at, and those behind it
abbrev pub seen : {X : Type 0} → Option X → List X → List X
seen None zs = zs
seen (Some x) zs = x ∷ zs

-- what may follow an answer, where Rest says what may follow a state
abbrev pub RestOf : {X S T : Type 0} → (S → List X → T → Type 0) → Answer S T → Option X → List X → T → Type 0
RestOf Rest (next s) None zs out = ⊥
RestOf Rest (next s) (Some x) zs out = Rest s zs out
RestOf Rest (ends tree) None zs out = (zs ≡ []) × (out ≡ tree)
RestOf Rest (ends tree) (Some x) zs out = ⊥
RestOf Rest stuck look zs out = ⊥

-- what is no next state
abbrev pub Stops : {S T : Type 0} → Answer S T → Type 0
Stops (next s) = ⊥
Stops (ends tree) = Unit {0}
Stops stuck = Unit {0}

-- an element that can't go on is answered as the end is
abbrev pub Same : {S T : Type 0} → Answer S T → Answer S T → Type 0
Same (next s) b = Unit {0}
Same (ends tree) b = b ≡ ends tree
Same stuck b = b ≡ stuck

-- a next state is sound
abbrev pub IsSoundNext : {S T : Type 0} → (S → Type 0) → Answer S T → Type 0
IsSoundNext Sound (next s) = Sound s
IsSoundNext Sound (ends tree) = Unit {0}
IsSoundNext Sound stuck = Unit {0}

-- a step at a time
module _ {X S T : Type 0} (step : S → Option X → Answer S T) where
  pub run_reads : (xs zs : List X) (s t : S) → run step xs s ≡ Some t → reads step (xs ++ zs) s ≡ reads step zs t
  run_reads [] zs s t h = let e : s ≡ t = cc in ap (reads step zs) e
  run_reads (x ∷ xs) zs s t h = go (λ u is. run_reads xs zs u t is) (step s (Some x)) h
    where
      go : ((u : S) → run step xs u ≡ Some t → reads step (xs ++ zs) u ≡ reads step zs t) → (a : Answer S T) → run_on (run step xs) a ≡ Some t
          → reads_on (reads step (xs ++ zs)) a ≡ reads step zs t
      go on (next u) is = on u is
      go on (ends e) is = absurd cc
      go on stuck is = absurd cc

  pub run_more : (xs : List X) (x : X) (s t u : S) → run step xs s ≡ Some t → step t (Some x) ≡ next u → run step (xs ++ x ∷ []) s ≡ Some u
  run_more [] x s t u h is = let e : s ≡ t = cc in subst (λ (v : S). run step (x ∷ []) v ≡ Some u) (sym e) (ap (run_on (run step [])) is)
  run_more (y ∷ xs) x s t u h is = go (λ v at. run_more xs x v t u at is) (step s (Some y)) h
    where
      go : ((v : S) → run step xs v ≡ Some t → run step (xs ++ x ∷ []) v ≡ Some u) → (a : Answer S T) → run_on (run step xs) a ≡ Some t
          → run_on (run step (xs ++ x ∷ [])) a ≡ Some u
      go on (next v) at = on v at
      go on (ends e) at = absurd cc
      go on stuck at = absurd cc

  pub read_so_far : (xs : List X) (s t : S) → run step xs s ≡ Some t → reads step xs s ≡ ended (step t None)
  read_so_far xs s t h = ap (λ (ys : List X). reads step ys s) (sym (append-nil xs)) ∙ run_reads xs [] s t h

  stops_reads : (a : Answer S T) (go : S → Option T) (out : T) → Stops a → reads_on go a ≡ Some out → ⊥
  stops_reads (next s) go out bad h = bad
  stops_reads (ends e) go out bad h = cc
  stops_reads stuck go out bad h = cc

  -- where the state behind the front stops, nothing is read with the element
  pub stopped : (xs zs : List X) (x : X) (s t : S) (out : T) → run step xs s ≡ Some t → Stops (step t (Some x)) → reads step (xs ++ x ∷ zs) s ≡ Some out → ⊥
  stopped xs zs x s t out h stops is = stops_reads (step t (Some x)) (reads step zs) out stops (sym (run_reads xs (x ∷ zs) s t h) ∙ is)

-- Rest says what may follow a state, and is true a step back where it is true of the answer.
module _ {X S T : Type 0} (step : S → Option X → Answer S T) (Rest : S → List X → T → Type 0)
    (found : (s : S) (look : Option X) (zs : List X) (out : T) → RestOf Rest (step s look) look zs out → Rest s (seen look zs) out) where
  pub run_found : (xs zs : List X) (s t : S) (out : T) → run step xs s ≡ Some t → Rest t zs out → Rest s (xs ++ zs) out
  run_found [] zs s t out h r = let e : s ≡ t = cc in subst (λ (u : S). Rest u zs out) (sym e) r
  run_found (x ∷ xs) zs s t out h r = found s (Some x) (xs ++ zs) out (go (λ u is. run_found xs zs u t out is r) (step s (Some x)) h)
    where
      go : ((u : S) → run step xs u ≡ Some t → Rest u (xs ++ zs) out) → (a : Answer S T) → run_on (run step xs) a ≡ Some t → RestOf Rest a (Some x) (xs ++ zs) out
      go on (next u) is = on u is
      go on (ends e) is = absurd cc
      go on stuck is = absurd cc

  ended_found : (s : S) (out : T) → ended (step s None) ≡ Some out → Rest s [] out
  ended_found s out h = found s None [] out (go (step s None) h)
    where
      go : (a : Answer S T) → ended a ≡ Some out → RestOf Rest a None [] out
      go (next u) is = absurd cc
      go (ends e) is = (refl, cc)
      go stuck is = absurd cc

  pub reads_found : (xs : List X) (s : S) (out : T) → reads step xs s ≡ Some out → Rest s xs out
  reads_found [] s out h = ended_found s out h
  reads_found (x ∷ xs) s out h = found s (Some x) xs out (go (λ u is. reads_found xs u out is) (step s (Some x)) h)
    where
      go : ((u : S) → reads step xs u ≡ Some out → Rest u xs out) → (a : Answer S T) → reads_on (reads step xs) a ≡ Some out → RestOf Rest a (Some x) xs out
      go on (next u) is = on u is
      go on (ends e) is = absurd cc
      go on stuck is = absurd cc

-- The four laws: what is written is read, what was read stands so in the grammar, and each sound state has an end.
module _ {X S T : Type 0} (Written : T → List X → Type 0) (step : S → Option X → Answer S T) (start : S) (Sound : S → Type 0) (Rest : S → List X → T → Type 0)
    (found : (s : S) (look : Option X) (zs : List X) (out : T) → RestOf Rest (step s look) look zs out → Rest s (seen look zs) out)
    (begun : (xs : List X) (tree : T) → Rest start xs tree → Written tree xs)
    (again : (xs : List X) (tree : T) → Written tree xs → reads step xs start ≡ Some tree)
    (some : (s : S) → Sound s → (zs : List X) × (out : T) × Rest s zs out)
    (sound : (s : S) (look : Option X) → Sound s → IsSoundNext Sound (step s look)) (sound_start : Sound start) where
  pub written_found : (xs : List X) (tree : T) → reads step xs start ≡ Some tree → Written tree xs
  written_found xs tree h = begun xs tree (reads_found step Rest found xs start tree h)

  pub one_tree : (xs : List X) (a b : T) → Written a xs → Written b xs → a ≡ b
  one_tree xs a b h k = let x = again xs a h in let y = again xs b k in cc

  run_sound : (xs : List X) (s t : S) → Sound s → run step xs s ≡ Some t → Sound t
  run_sound [] s t so h = let e : s ≡ t = cc in subst Sound e so
  run_sound (x ∷ xs) s t so h = go (λ u is good. run_sound xs u t good is) (step s (Some x)) (sound s (Some x) so) h
    where
      go : ((u : S) → run step xs u ≡ Some t → Sound u → Sound t) → (a : Answer S T) → IsSoundNext Sound a → run_on (run step xs) a ≡ Some t → Sound t
      go on (next u) good is = on u is good
      go on (ends e) good is = absurd cc
      go on stuck good is = absurd cc

  pub begins : (xs : List X) (s : S) → run step xs start ≡ Some s → Begins Written xs
  begins xs s h =
      let k = some s (run_sound xs start s sound_start h) in
      record { more = k.0; tree = k.1; written = begun (xs ++ k.0) k.1 (run_found step Rest found xs k.0 start s k.1 h k.2) }

  pub begins_not : (xs : List X) (x : X) (s : S) → run step xs start ≡ Some s → Stops (step s (Some x)) → Begins Written (xs ++ x ∷ []) → ⊥
  begins_not xs x s h stops b =
      let joined : (xs ++ x ∷ []) ++ b.more ≡ xs ++ (x ∷ b.more) = append_assoc xs (x ∷ []) b.more in
      stopped step xs b.more x start s b.tree h stops (ap (λ (ys : List X). reads step ys start) (sym joined) ∙ again ((xs ++ x ∷ []) ++ b.more) b.tree b.written)

  -- the place of an element, or of the end
  pub place : (xs : List X) (n : ℕ) (s : S) → n ≤ length xs → run step (take n xs) start ≡ Some s
      → ((d : X) → n < length xs → Stops (step s (Some (get_or xs n d)))) → ((n < length xs → ⊥) ⊎ X) → IsStuckAt Written xs n
  place xs n s within h stops at = record {
    within = within;
    before = begins (take n xs) s h;
    stuck = λ lt b. elim at [ inl none ↦ none lt | inr d ↦ begins_not (take n xs) (get_or xs n d) s h (stops d lt) (subst (Begins Written) (take_more xs n d lt) b) ];
  }

  pub place_ends : (xs : List X) (n : ℕ) (s : S) (tree : T) → IsStuckAt Written xs n → run step (take n xs) start ≡ Some s → step s None ≡ ends tree → Ends Written xs n tree
  place_ends xs n s tree here h is = record { stuck = here; written = written_found (take n xs) tree (read_so_far step (take n xs) start s h ∙ ap ended is) }

  pub place_breaks : (xs : List X) (n : ℕ) (s : S) → IsStuckAt Written xs n → run step (take n xs) start ≡ Some s → ended (step s None) ≡ None → Breaks Written xs n
  place_breaks xs n s here h is = record {
    stuck = here;
    unfinished = λ tree w. let yes = again (take n xs) tree w in let none = read_so_far step (take n xs) start s h ∙ is in cc;
  }

  -- at an element that is no next
  pub element_stops : (xs : List X) (n : ℕ) (s : S) (x : X) → slice_get xs n ≡ Some x → run step (take n xs) start ≡ Some s → Stops (step s (Some x)) → IsStuckAt Written xs n
  element_stops xs n s x at h stops =
      let lt = slice_get_within xs n x at in
      place xs n s (omega (arith, lt)) h (λ d _. subst (λ (u : X). Stops (step s (Some u))) (sym (get_or_from_slice_get xs n x d at)) stops) (inr x)

  pub element_goes : (xs : List X) (n : ℕ) (s u : S) (x : X) → slice_get xs n ≡ Some x → run step (take n xs) start ≡ Some s → step s (Some x) ≡ next u
      → run step (take (n + 1) xs) start ≡ Some u
  element_goes xs n s u x at h is =
      let lt = slice_get_within xs n x at in
      subst (λ (ys : List X). run step ys start ≡ Some u)
      (sym (take_more xs n x lt ∙ ap (λ (y : X). take n xs ++ y ∷ []) (get_or_from_slice_get xs n x x at)))
      (run_more step (take n xs) x start s u h is)

  -- at the end
  pub end_stops : (xs : List X) (s : S) → run step xs start ≡ Some s → IsStuckAt Written xs (length xs)
  end_stops xs s h =
      place xs (length xs) s (omega arith) (ap (λ (ys : List X). run step ys start) (take-length xs) ∙ h) (λ d lt. absurd (omega (arith, lt))) (inl (λ lt. omega (arith, lt)))

  -- where an element that is no next is answered as the end is, a phrase ends before it or none does
  module _ (same : (s : S) (x : X) → Same (step s (Some x)) (step s None)) where
    pub element_ends : (xs : List X) (n : ℕ) (s : S) (x : X) (tree : T) → slice_get xs n ≡ Some x → run step (take n xs) start ≡ Some s → step s (Some x) ≡ ends tree → Ends Written xs n tree
    element_ends xs n s x tree at h is =
        place_ends xs n s tree (element_stops xs n s x at h (subst Stops (sym is) tt)) h (subst (λ (a : Answer S T). Same a (step s None)) is (same s x))

    pub element_breaks : (xs : List X) (n : ℕ) (s : S) (x : X) → slice_get xs n ≡ Some x → run step (take n xs) start ≡ Some s → step s (Some x) ≡ stuck → Breaks Written xs n
    element_breaks xs n s x at h is =
        place_breaks xs n s (element_stops xs n s x at h (subst Stops (sym is) tt)) h (ap ended (subst (λ (a : Answer S T). Same a (step s None)) is (same s x)))

  pub end_ends : (xs : List X) (s : S) (tree : T) → run step xs start ≡ Some s → step s None ≡ ends tree → Ends Written xs (length xs) tree
  end_ends xs s tree h is = place_ends xs (length xs) s tree (end_stops xs s h) (ap (λ (ys : List X). run step ys start) (take-length xs) ∙ h) is

  pub end_breaks : (xs : List X) (s : S) → run step xs start ≡ Some s → ended (step s None) ≡ None → Breaks Written xs (length xs)
  end_breaks xs s h is = place_breaks xs (length xs) s (end_stops xs s h) (ap (λ (ys : List X). run step ys start) (take-length xs) ∙ h) is
