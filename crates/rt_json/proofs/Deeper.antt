-- With more levels the same is read, and what was too deep goes on.
use Rattle.std.proofs.Common.{◌≡◌, ℕ, suc, ◌+◌, ◌<◌, ◌≤◌, Bool, true, false, List, [], ◌∷◌, Some, refl, ap, subst, ◌∙◌, length, arith, not, ◌⊎◌, inl, inr}
use Rattle.std.specs.Prelude.{nat_lt, ◌&&◌}
use Rattle.std.proofs.lemmas.Bool.{lt-ltb, le-ltb}
use Rattle.rt_value.specs.Places.{Answer, next, ends, stuck, run, run_on, reads, reads_on}
use Rattle.rt_json.specs.Machine as m
use Rattle.rt_json.specs.Machine.{State, class_of, step, is_deep}
use Rattle.rt_json.specs.declared.tree.Json.{Json}
use Rattle.rt_json.specs.declared.state.Frame.{Frame}
use Rattle.rt_json.specs.declared.state.Frame.TheVariants as frame
use Rattle.rt_json.specs.declared.state.Mode.{Mode}
use Rattle.rt_json.specs.declared.state.Mode.TheVariants as mode
use Rattle.rt_json.specs.declared.bytes.Class.{Class}
use Rattle.rt_json.specs.declared.bytes.Class.TheVariants as c
use Rattle.rt_json.proofs.ByteTests.{order}

-- An answer that stays with more levels: a next state, or a stop that isn't for the depth. Where there are enough levels, what was too deep goes on.
abbrev Keeps : Type 0 → Answer State Json → Answer State Json → Bool → Type 0
Keeps E (next s) more is = more ≡ next s
Keeps E (ends t) more is = more ≡ ends t
Keeps E stuck more true = E → (s : State) × (more ≡ next s)
Keeps E stuck more false = more ≡ stuck

opened_keeps : (E : Type 0) (levels k : ℕ) (stack : List Frame) (o : Mode) → (E → length stack < levels + k)
    → Keeps E (m.opened levels stack o) (m.opened (levels + k) stack o) (not (nat_lt (length stack) levels))
opened_keeps E levels k stack o enough = by (order (length stack) levels)
  where
    by : (length stack < levels) ⊎ (levels ≤ length stack) → Keeps E (m.opened levels stack o) (m.opened (levels + k) stack o) (not (nat_lt (length stack) levels))
    by (inl h) = let more : length stack < levels + k = omega arith in rw (lt-ltb (length stack) levels h, lt-ltb (length stack) (levels + k) more) refl
    by (inr h) = rw (le-ltb (length stack) levels h) (λ (e : E). let more = enough e in rw (lt-ltb (length stack) (levels + k) more) (m.outside stack o, refl))

begun_keeps : (E : Type 0) (levels k : ℕ) (stack : List Frame) (b : ℕ) (class : Class) → (E → length stack < levels + k)
    → Keeps E (m.begun levels stack b class) (m.begun (levels + k) stack b class) (m.opens class && not (nat_lt (length stack) levels))
begun_keeps E levels k stack b c.LeftBracket enough = opened_keeps E levels k stack mode.FirstItem enough
begun_keeps E levels k stack b c.LeftBrace enough = opened_keeps E levels k stack mode.FirstName enough
begun_keeps E levels k stack b c.Quote enough = refl
begun_keeps E levels k stack b (c.NumberStart digits) enough = refl
begun_keeps E levels k stack b (c.WordStart which) enough = refl
begun_keeps E levels k stack b c.Blank enough = refl
begun_keeps E levels k stack b c.Comma enough = refl
begun_keeps E levels k stack b c.Colon enough = refl
begun_keeps E levels k stack b c.RightBracket enough = refl
begun_keeps E levels k stack b c.RightBrace enough = refl
begun_keeps E levels k stack b c.Other enough = refl

at_value_keeps : (E : Type 0) (levels k : ℕ) (stack : List Frame) (b : ℕ) (class : Class) → (E → length stack < levels + k)
    → Keeps E (m.at_value levels stack b class) (m.at_value (levels + k) stack b class) (m.opens class && not (nat_lt (length stack) levels))
at_value_keeps E levels k stack b c.Blank enough = refl
at_value_keeps E levels k stack b class enough = begun_keeps E levels k stack b class enough

at_first_item_keeps : (E : Type 0) (levels k : ℕ) (stack : List Frame) (b : ℕ) (class : Class) → (E → suc (length stack) < levels + k)
    → Keeps E (m.at_first_item levels stack b class) (m.at_first_item (levels + k) stack b class) (m.opens class && not (nat_lt (suc (length stack)) levels))
at_first_item_keeps E levels k stack b c.Blank enough = refl
at_first_item_keeps E levels k stack b c.RightBracket enough = refl
at_first_item_keeps E levels k stack b class enough = begun_keeps E levels k (frame.Item [] ∷ stack) b class enough

same_keeps : (E : Type 0) (a : Answer State Json) → Keeps E a a false
same_keeps E (next s) = refl
same_keeps E (ends t) = refl
same_keeps E stuck = refl

-- the lists and objects that are open, and one more
abbrev depth_of : State → ℕ
depth_of (m.outside stack o) = suc (length stack)
depth_of _ = 0

byte_keeps : (levels k : ℕ) (s : State) (b : ℕ) → Keeps (depth_of s < levels + k) (m.byte_step levels s b) (m.byte_step (levels + k) s b) (is_deep levels s b)
byte_keeps levels k (m.outside stack mode.Value) b = at_value_keeps (suc (length stack) < levels + k) levels k stack b (class_of b) (λ e. omega (arith, e))
byte_keeps levels k (m.outside stack mode.FirstItem) b = at_first_item_keeps (suc (length stack) < levels + k) levels k stack b (class_of b) (λ e. e)
byte_keeps levels k (m.outside stack (mode.AfterItem items)) b = same_keeps _ (m.after_item stack items (class_of b))
byte_keeps levels k (m.outside stack mode.FirstName) b = same_keeps _ (m.at_first_name stack (class_of b))
byte_keeps levels k (m.outside stack (mode.Name members)) b = same_keeps _ (m.at_name stack members (class_of b))
byte_keeps levels k (m.outside stack (mode.Colon members name)) b = same_keeps _ (m.at_colon stack members name (class_of b))
byte_keeps levels k (m.outside stack (mode.AfterMember members)) b = same_keeps _ (m.after_member stack members (class_of b))
byte_keeps levels k (m.outside stack (mode.Done tree)) b = same_keeps _ (m.after_all stack tree (class_of b))
byte_keeps levels k (m.in_word stack wanted bs tree) b = same_keeps _ (m.byte_step levels (m.in_word stack wanted bs tree) b)
byte_keeps levels k (m.in_number stack digits text) b = same_keeps _ (m.byte_step levels (m.in_number stack digits text) b)
byte_keeps levels k (m.in_text stack slot text inner) b = same_keeps _ (m.byte_step levels (m.in_text stack slot text inner) b)

-- what was next is next
pub next_keeps : (levels k : ℕ) (s : State) (b : ℕ) (t : State) → m.byte_step levels s b ≡ next t → m.byte_step (levels + k) s b ≡ next t
next_keeps levels k s b t e = by (m.byte_step levels s b) (byte_keeps levels k s b) e
  where
    by : (a : Answer State Json) → Keeps (depth_of s < levels + k) a (m.byte_step (levels + k) s b) (is_deep levels s b) → a ≡ next t → m.byte_step (levels + k) s b ≡ next t
    by (next u) h is = cc
    by (ends v) h is = absurd cc
    by stuck h is = absurd cc

pub stuck_keeps : (levels k : ℕ) (s : State) (b : ℕ) → m.byte_step levels s b ≡ stuck → is_deep levels s b ≡ false → m.byte_step (levels + k) s b ≡ stuck
stuck_keeps levels k s b e f =
    subst (λ (x : Bool). Keeps (depth_of s < levels + k) stuck (m.byte_step (levels + k) s b) x) f
    (subst (λ (a : Answer State Json). Keeps (depth_of s < levels + k) a (m.byte_step (levels + k) s b) (is_deep levels s b)) e (byte_keeps levels k s b))

-- what was too deep goes on with more levels
pub deep_goes : (levels : ℕ) (s : State) (b : ℕ) → m.byte_step levels s b ≡ stuck → is_deep levels s b ≡ true → (k : ℕ) × (t : State) × (m.byte_step (levels + k) s b ≡ next t)
deep_goes levels s b e f =
    let k : ℕ = suc (depth_of s) in
    let enough : depth_of s < levels + k = omega arith in
    let go = subst (λ (x : Bool). Keeps (depth_of s < levels + k) stuck (m.byte_step (levels + k) s b) x) f
    (subst (λ (a : Answer State Json). Keeps (depth_of s < levels + k) a (m.byte_step (levels + k) s b) (is_deep levels s b)) e (byte_keeps levels k s b)) in
    let r = go enough in (k, r.0, r.1)

-- whole runs
pub run_keeps : (levels k : ℕ) (xs : List ℕ) (s t : State) → run (step levels) xs s ≡ Some t → run (step (levels + k)) xs s ≡ Some t
run_keeps levels k [] s t h = h
run_keeps levels k (b ∷ bs) s t h = by (m.byte_step levels s b) refl (λ u is. run_keeps levels k bs u t is) h
  where
    by : (a : Answer State Json) → m.byte_step levels s b ≡ a → ((u : State) → run (step levels) bs u ≡ Some t → run (step (levels + k)) bs u ≡ Some t)
        → run_on (run (step levels) bs) a ≡ Some t → run (step (levels + k)) (b ∷ bs) s ≡ Some t
    by (next u) e on is = ap (run_on (run (step (levels + k)) bs)) (next_keeps levels k s b u e) ∙ on u is
    by (ends v) e on is = absurd cc
    by stuck e on is = absurd cc

pub reads_keeps : (levels k : ℕ) (xs : List ℕ) (s : State) (t : Json) → reads (step levels) xs s ≡ Some t → reads (step (levels + k)) xs s ≡ Some t
reads_keeps levels k [] s t h = h
reads_keeps levels k (b ∷ bs) s t h = by (m.byte_step levels s b) refl (λ u is. reads_keeps levels k bs u t is) h
  where
    by : (a : Answer State Json) → m.byte_step levels s b ≡ a → ((u : State) → reads (step levels) bs u ≡ Some t → reads (step (levels + k)) bs u ≡ Some t)
        → reads_on (reads (step levels) bs) a ≡ Some t → reads (step (levels + k)) (b ∷ bs) s ≡ Some t
    by (next u) e on is = ap (reads_on (reads (step (levels + k)) bs)) (next_keeps levels k s b u e) ∙ on u is
    by (ends v) e on is = absurd cc
    by stuck e on is = absurd cc
