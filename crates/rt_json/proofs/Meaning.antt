-- What reading gives is the tree of the grammar, or the place of the fault.
use Rattle.std.proofs.Common.{◌≡◌, ℕ, ◌+◌, ◌-◌, ◌≤◌, Bool, true, false, List, [], ◌∷◌, ◌++◌, Some, None, refl, ap, subst, sym, ◌∙◌, length, take, arith, append_assoc, append-nil, length-append}
use Rattle.std.proofs.Math.Seq.{take-length}
use Rattle.rt_value.specs.Places.{Begins, Answer, next, ends, stuck, run, reads, reads_on, ended}
use Rattle.rt_value.proofs.Places as p
use Rattle.rt_json.specs.Grammar as g
use Rattle.rt_json.specs.Grammar.{AreBlanks, IsWithin, IsJson, BeginsValue, IsBadAt, IsTooDeepAt, max_levels}
use Rattle.rt_json.specs.Machine as m
use Rattle.rt_json.specs.Machine.{State, Outcome, is_tree, bad, too_deep, step, start, is_deep, outcome, tree_of}
use Rattle.rt_json.specs.declared.tree.Json.{Json}
use Rattle.rt_json.proofs.Again.{json_again}
use Rattle.rt_json.proofs.Found.{step_found}
use Rattle.rt_json.proofs.Some.{Sound, IsNext, state_some, step_sound, byte_sound}
use Rattle.rt_json.proofs.Rest.{Rest, left}
use Rattle.rt_json.proofs.Deeper.{stuck_keeps, deep_goes, run_keeps, reads_keeps}

start_written : (levels : ℕ) (xs : List ℕ) (tree : Json) → Rest levels start xs tree → IsWithin levels tree xs
start_written levels xs tree (v, first, last, bl, is, (after, same)) =
    let e : levels - 0 ≡ levels = omega arith in record {
      first = first;
      last = last;
      before = bl;
      value = subst (λ (t : Json). g.IsValue levels t first last) (sym same) (subst (λ (n : ℕ). g.IsValue n v first last) e is);
      after = after;
    }

begins : (levels : ℕ) (xs : List ℕ) (s : State) → run (step levels) xs start ≡ Some s → Begins (IsWithin levels) xs
begins levels = p.begins (IsWithin levels) (step levels) start Sound (Rest levels) (step_found levels) (start_written levels)
    (λ xs tree w. json_again levels tree xs w) (state_some levels) (step_sound levels) tt

pub written_found : (levels : ℕ) (xs : List ℕ) (tree : Json) → reads (step levels) xs start ≡ Some tree → IsWithin levels tree xs
written_found levels = p.written_found (IsWithin levels) (step levels) start Sound (Rest levels) (step_found levels) (start_written levels)
    (λ xs tree w. json_again levels tree xs w) (state_some levels) (step_sound levels) tt

pub one_tree : (levels : ℕ) (xs : List ℕ) (a b : Json) → IsWithin levels a xs → IsWithin levels b xs → a ≡ b
one_tree levels = p.one_tree (IsWithin levels) (step levels) start Sound (Rest levels) (step_found levels) (start_written levels)
    (λ xs tree w. json_again levels tree xs w) (state_some levels) (step_sound levels) tt

-- the front and what follows it
taken : (front rest : List ℕ) → take (length front) (front ++ rest) ≡ front
taken [] rest = refl
taken (x ∷ xs) rest = ap (λ (ys : List ℕ). x ∷ ys) (taken xs rest)

taken_more : (front rest : List ℕ) (b : ℕ) → take (length front + 1) (front ++ b ∷ rest) ≡ front ++ b ∷ []
taken_more front rest b =
    let e : length front + 1 ≡ length (front ++ b ∷ []) = sym (length-append front (b ∷ [])) in
    let f : front ++ b ∷ rest ≡ (front ++ b ∷ []) ++ rest = sym (append_assoc front (b ∷ []) rest) in
    ap (λ (n : ℕ). take n (front ++ b ∷ rest)) e ∙ ap (take (length (front ++ b ∷ []))) f ∙ taken (front ++ b ∷ []) rest

-- no more levels help where the byte is no byte of a value
no_value : (front : List ℕ) (b : ℕ) (s : State) → run (step max_levels) front start ≡ Some s → m.byte_step max_levels s b ≡ stuck → is_deep max_levels s b ≡ false
    → BeginsValue (front ++ b ∷ []) → ⊥
no_value front b s h e f (levels, beg) =
    let there = run_keeps max_levels levels front start s h in
    let stop = stuck_keeps max_levels levels s b e f in
    let again = json_again levels beg.tree ((front ++ b ∷ []) ++ beg.more) beg.written in
    let more = reads_keeps levels max_levels ((front ++ b ∷ []) ++ beg.more) start beg.tree again in
    let same : levels + max_levels ≡ max_levels + levels = omega arith in
    let read = subst (λ (n : ℕ). reads (step n) ((front ++ b ∷ []) ++ beg.more) start ≡ Some beg.tree) same more in
    p.stopped (step (max_levels + levels)) front beg.more b start s beg.tree there (subst p.Stops (sym stop) tt)
    (ap (λ (ys : List ℕ). reads (step (max_levels + levels)) ys start) (sym (append_assoc front (b ∷ []) beg.more)) ∙ read)

bad_at_byte : (front rest : List ℕ) (b : ℕ) (s : State) → run (step max_levels) front start ≡ Some s → m.byte_step max_levels s b ≡ stuck → is_deep max_levels s b ≡ false
    → IsBadAt (front ++ b ∷ rest) (length front)
bad_at_byte front rest b s h e f = record {
  within = omega (arith, length-append front (b ∷ rest));
  before = subst (Begins (IsWithin max_levels)) (sym (taken front (b ∷ rest))) (begins max_levels front s h);
  stuck = λ _ beg. no_value front b s h e f (subst BeginsValue (taken_more front rest b) beg);
  unfinished = λ here levels tree w. absurd (omega (arith, here, length-append front (b ∷ rest)));
}

-- too deep: with more levels the byte goes on, with these it doesn't
deep_at_byte : (front rest : List ℕ) (b : ℕ) (s : State) → run (step max_levels) front start ≡ Some s → m.byte_step max_levels s b ≡ stuck → is_deep max_levels s b ≡ true
    → IsTooDeepAt (front ++ b ∷ rest) (length front)
deep_at_byte front rest b s h e f =
    let go = deep_goes max_levels s b e f in
    let there = run_keeps max_levels go.0 front start s h in
    let more = p.run_more (step (max_levels + go.0)) front b start s go.1 there go.2 in record {
      within = omega (arith, length-append front (b ∷ rest));
      before = subst (Begins (IsWithin max_levels)) (sym (taken front (b ∷ rest))) (begins max_levels front s h);
      begins = subst BeginsValue (sym (taken_more front rest b)) (max_levels + go.0, begins (max_levels + go.0) (front ++ b ∷ []) go.1 more);
      deeper = λ beg. deeper_not (subst (Begins (IsWithin max_levels)) (taken_more front rest b) beg);
    }
  where
    deeper_not : Begins (IsWithin max_levels) (front ++ b ∷ []) → ⊥
    deeper_not beg =
        p.stopped (step max_levels) front beg.more b start s beg.tree h (subst p.Stops (sym e) tt)
        (ap (λ (ys : List ℕ). reads (step max_levels) ys start) (sym (append_assoc front (b ∷ []) beg.more)) ∙ json_again max_levels beg.tree ((front ++ b ∷ []) ++ beg.more) beg.written)

-- at the end
no_end : (xs : List ℕ) (s : State) → run (step max_levels) xs start ≡ Some s → ended (m.end_step s) ≡ None → (levels : ℕ) (tree : Json) → IsWithin levels tree xs → ⊥
no_end xs s h e levels tree w =
    let there = run_keeps max_levels levels xs start s h in
    let more = reads_keeps levels max_levels xs start tree (json_again levels tree xs w) in
    let same : levels + max_levels ≡ max_levels + levels = omega arith in
    let read = subst (λ (n : ℕ). reads (step n) xs start ≡ Some tree) same more in
    let none = p.read_so_far (step (max_levels + levels)) xs start s there ∙ e in
    nothing tree (sym none ∙ read)
  where
    nothing : (t : Json) → None ≡ Some t → ⊥
    nothing t is = cc

bad_at_end : (xs : List ℕ) (s : State) → run (step max_levels) xs start ≡ Some s → ended (m.end_step s) ≡ None → IsBadAt xs (length xs)
bad_at_end xs s h e = record {
  within = omega arith;
  before = subst (Begins (IsWithin max_levels)) (sym (take-length xs)) (begins max_levels xs s h);
  stuck = λ lt beg. omega (arith, lt);
  unfinished = λ _. no_end xs s h e;
}

-- what an outcome says of the bytes
abbrev pub Means : List ℕ → Outcome → Type 0
Means bytes (is_tree t) = IsJson bytes t
Means bytes (bad left) = (left ≤ length bytes) × IsBadAt bytes (length bytes - left)
Means bytes (too_deep left) = (left ≤ length bytes) × IsTooDeepAt bytes (length bytes - left)

stopped_means : (front rest : List ℕ) (b : ℕ) (s : State) (is : Bool) → run (step max_levels) front start ≡ Some s → m.byte_step max_levels s b ≡ stuck → is_deep max_levels s b ≡ is
    → Means (front ++ b ∷ rest) (m.stopped is (length (b ∷ rest)))
stopped_means front rest b s true h e f =
    let whole = length-append front (b ∷ rest) in
    let here : length front ≡ length (front ++ b ∷ rest) - length (b ∷ rest) = omega (arith, whole) in
    (omega (arith, whole), subst (IsTooDeepAt (front ++ b ∷ rest)) here (deep_at_byte front rest b s h e f))
stopped_means front rest b s false h e f =
    let whole = length-append front (b ∷ rest) in
    let here : length front ≡ length (front ++ b ∷ rest) - length (b ∷ rest) = omega (arith, whole) in
    (omega (arith, whole), subst (IsBadAt (front ++ b ∷ rest)) here (bad_at_byte front rest b s h e f))

end_means : (xs : List ℕ) (s : State) (a : Answer State Json) → run (step max_levels) xs start ≡ Some s → m.end_step s ≡ a → Means xs (m.finished a)
end_means xs s (ends t) h e = written_found max_levels xs t (p.read_so_far (step max_levels) xs start s h ∙ ap ended e)
end_means xs s (next u) h e = let here : length xs ≡ length xs - 0 = omega arith in (omega arith, subst (IsBadAt xs) here (bad_at_end xs s h (ap ended e)))
end_means xs s stuck h e = let here : length xs ≡ length xs - 0 = omega arith in (omega arith, subst (IsBadAt xs) here (bad_at_end xs s h (ap ended e)))

pub means : (front rest : List ℕ) (s : State) → Sound s → run (step max_levels) front start ≡ Some s → Means (front ++ rest) (outcome s rest)
means front [] s so h = subst (λ (xs : List ℕ). Means xs (outcome s [])) (sym (append-nil front)) (end_means front s (m.end_step s) h refl)
means front (b ∷ bs) s so h =
    by (m.byte_step max_levels s b) refl (byte_sound max_levels s b so)
    (λ t e good. subst (λ (xs : List ℕ). Means xs (outcome t bs)) (append_assoc front (b ∷ []) bs) (means (front ++ b ∷ []) bs t good (p.run_more (step max_levels) front b start s t h e)))
  where
    by : (a : Answer State Json) → m.byte_step max_levels s b ≡ a → IsNext a → ((t : State) → m.byte_step max_levels s b ≡ next t → Sound t → Means (front ++ b ∷ bs) (outcome t bs))
        → Means (front ++ b ∷ bs) (m.goes_on (λ t. outcome t bs) (is_deep max_levels s b) (length (b ∷ bs)) a)
    by (next t) e good on = on t e good
    by (ends t) e good on = absurd good
    by stuck e good on = stopped_means front bs b s (is_deep max_levels s b) h e refl

pub outcome_means : (bytes : List ℕ) → Means bytes (outcome start bytes)
outcome_means bytes = means [] bytes start tt refl

-- what is read is what is given
pub reads_outcome : (xs : List ℕ) (s : State) (t : Json) → reads (step max_levels) xs s ≡ Some t → outcome s xs ≡ is_tree t
reads_outcome [] s t h = by (m.end_step s) h
  where
    by : (a : Answer State Json) → ended a ≡ Some t → m.finished a ≡ is_tree t
    by (next u) e = absurd cc
    by (ends v) e = let same : v ≡ t = cc in ap is_tree same
    by stuck e = absurd cc
reads_outcome (b ∷ bs) s t h = by (m.byte_step max_levels s b) (λ u is. reads_outcome bs u t is) h
  where
    by : (a : Answer State Json) → ((u : State) → reads (step max_levels) bs u ≡ Some t → outcome u bs ≡ is_tree t) → reads_on (reads (step max_levels) bs) a ≡ Some t
        → m.goes_on (λ u. outcome u bs) (is_deep max_levels s b) (length (b ∷ bs)) a ≡ is_tree t
    by (next u) on e = on u e
    by (ends v) on e = absurd cc
    by stuck on e = absurd cc

pub json_outcome : (bytes : List ℕ) (tree : Json) → IsJson bytes tree → outcome start bytes ≡ is_tree tree
json_outcome bytes tree h = reads_outcome bytes start tree (json_again max_levels tree bytes h)

pub tree_found : (bytes : List ℕ) (tree : Json) → tree_of bytes ≡ Some tree → IsJson bytes tree
unfolding tree_of
tree_found bytes tree e = by (outcome start bytes) (outcome_means bytes) e
  where
    by : (o : Outcome) → Means bytes o → m.tree_in o ≡ Some tree → IsJson bytes tree
    by (is_tree t) h is = let same : t ≡ tree = cc in subst (IsJson bytes) same h
    by (bad left) h is = absurd cc
    by (too_deep left) h is = absurd cc

pub tree_again : (bytes : List ℕ) (tree : Json) → IsJson bytes tree → tree_of bytes ≡ Some tree
unfolding tree_of
tree_again bytes tree h = ap m.tree_in (json_outcome bytes tree h)
