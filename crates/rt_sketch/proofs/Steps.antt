-- What a step of the sketch shows of the tokens.
use Rattle.std.proofs.Common.{◌≡◌, ℕ, ◌+◌, List, [], Option, Some, None, Err, length, take, refl, ap, sym, subst, ◌∙◌}
use Rattle.std.specs.List.{slice_get}
use Rattle.std.proofs.lemmas.List.{length-map}
use Rattle.rt_value.specs.Places.{next, ends, stuck, ended, Ends, Breaks}
use Rattle.rt_value.proofs.Places.{IsSoundNext}
use Rattle.rt_sql.specs.declared.lexeme.Token.{Token}
use Rattle.rt_sql.specs.Lexeme.{Lexeme, lexeme_of, lexemes}
use Rattle.rt_policy.specs.Grammar.{Written}
use Rattle.rt_policy.specs.Machine as m
use Rattle.rt_policy.specs.Machine.{To}
use Rattle.rt_policy.proofs.One.{element_ends, element_breaks, element_goes, end_ends, end_breaks}
use Rattle.rt_policy.specs.declared.expr.Expr.{Expr}
use Rattle.rt_policy.specs.declared.building.State.{State}
use Rattle.rt_sketch.specs.Heights.{height}
use Rattle.rt_sketch.specs.Sketch as k
use Rattle.rt_sketch.specs.Sketch.{On}
use Rattle.rt_sketch.specs.Sketched.{sketch_of, sketched, IsLeafMode}
use Rattle.rt_sketch.specs.Recognized.{Follows, Draws, EndsAt, Halts}
use Rattle.rt_sketch.specs.declared.sketch.Sketch.{Sketch}
use Rattle.rt_sketch.specs.declared.measuring.Halted.{Halted}
use Rattle.rt_sketch.specs.declared.measuring.Halted.TheVariants as halted
use Rattle.rt_sketch.proofs.Drawn.{step_drawn}
use Rattle.rt_sketch.proofs.Kept.{step_kept}

-- what a state answers, seen by its sketch
answer : (xs : List Lexeme) (d : Sketch) (f : Follows xs d) (look : Option Lexeme) (a : On) → k.step d look ≡ a
    → sketched (m.step f.state look) ≡ a
answer xs d f look a h =
    step_drawn f.state look f.leaf ∙ subst (λ (v : Sketch). k.step v look ≡ a) (sym f.kept) h

-- the answer that an answer is kept of
next_of : (a : To) (d : Sketch) → sketched a ≡ next d → IsSoundNext (λ (u : State). IsLeafMode u.mode) a
    → (u : State) × (a ≡ next u) × (sketch_of u ≡ d) × IsLeafMode u.mode
next_of (next u) d h leaf = (u, refl, cc, leaf)
next_of (ends e) d h leaf = absurd cc
next_of stuck d h leaf = absurd cc

ends_of : (a : To) (h : ℕ) → sketched a ≡ ends h → (e : Expr) × (a ≡ ends e) × (height e ≡ h)
ends_of (next u) h is = absurd cc
ends_of (ends e) h is = (e, refl, cc)
ends_of stuck h is = absurd cc

stuck_of : (a : To) → sketched a ≡ stuck → a ≡ stuck
stuck_of (next u) is = absurd cc
stuck_of (ends e) is = absurd cc
stuck_of stuck is = refl

unended : (a : To) (d : Sketch) → sketched a ≡ next d → ended a ≡ None
unended (next u) d is = refl
unended (ends e) d is = absurd cc
unended stuck d is = absurd cc

pub halted_at : (xs : List Lexeme) (n : ℕ) (d : Sketch) (x : Lexeme) (h : Halted) → slice_get xs n ≡ Some x
    → Follows (take n xs) d → Draws n (Err h) (k.step d (Some x)) → Halts xs h
halted_at xs n d x (halted.End at h) found f (is, here) =
    let e = ends_of (m.step f.state (Some x)) h (answer (take n xs) d f (Some x) (ends h) is) in
    record {
      tree = e.0;
      ends = subst (λ (j : ℕ). Ends Written xs j e.0) (sym here) (element_ends xs n f.state x e.0 found f.reached e.1);
      height = e.2;
    }
halted_at xs n d x (halted.Bad at) found f (is, here) =
    subst (λ (j : ℕ). Breaks Written xs j) (sym here)
    (element_breaks xs n f.state x found f.reached
    (stuck_of (m.step f.state (Some x)) (answer (take n xs) d f (Some x) stuck is)))
halted_at xs n d x halted.NoMemory found f is = tt

pub goes_on : (xs : List Lexeme) (n : ℕ) (d after : Sketch) (x : Lexeme) → slice_get xs n ≡ Some x
    → Follows (take n xs) d → k.step d (Some x) ≡ next after → Follows (take (n + 1) xs) after
goes_on xs n d after x found f is =
    let u = next_of (m.step f.state (Some x)) after (answer (take n xs) d f (Some x) (next after) is)
    (step_kept f.state (Some x) f.leaf) in
    record {
      state = u.0;
      reached = element_goes xs n f.state u.0 x found f.reached u.1;
      kept = u.2;
      leaf = u.3;
    }

pub starts : Follows [] (sketch_of m.start)
starts = record { state = m.start; reached = refl; kept = refl; leaf = tt }

pub end_reached : (xs : List Lexeme) (d : Sketch) (h : ℕ) → Follows xs d → k.step d None ≡ ends h
    → EndsAt xs (length xs) h
end_reached xs d h f is =
    let e = ends_of (m.step f.state None) h (answer xs d f None (ends h) is) in
    record { tree = e.0; ends = end_ends xs f.state e.0 f.reached e.1; height = e.2 }

pub end_next : (xs : List Lexeme) (d after : Sketch) → Follows xs d → k.step d None ≡ next after
    → Breaks Written xs (length xs)
end_next xs d after f is =
    end_breaks xs f.state f.reached (unended (m.step f.state None) after (answer xs d f None (next after) is))

pub end_stuck : (xs : List Lexeme) (d : Sketch) → Follows xs d → k.step d None ≡ stuck
    → Breaks Written xs (length xs)
end_stuck xs d f is =
    end_breaks xs f.state f.reached
    (ap ended (stuck_of (m.step f.state None) (answer xs d f None stuck is)))

-- the number of the end is that of the tokens

pub whole_reached : (text : List ℕ) (ts : List Token) (d : Sketch) (look : Option Lexeme) (h : ℕ)
    → Follows (lexemes text ts) d → look ≡ None → k.step d look ≡ ends h → EndsAt (lexemes text ts) (length ts) h
whole_reached text ts d look h f none is =
    subst (λ (n : ℕ). EndsAt (lexemes text ts) n h) (length-map ts (lexeme_of text))
    (end_reached (lexemes text ts) d h f (ap (k.step d) (sym none) ∙ is))

pub whole_next : (text : List ℕ) (ts : List Token) (d after : Sketch) (look : Option Lexeme)
    → Follows (lexemes text ts) d → look ≡ None → k.step d look ≡ next after
    → Breaks Written (lexemes text ts) (length ts)
whole_next text ts d after look f none is =
    subst (λ (n : ℕ). Breaks Written (lexemes text ts) n) (length-map ts (lexeme_of text))
    (end_next (lexemes text ts) d after f (ap (k.step d) (sym none) ∙ is))

pub whole_stuck : (text : List ℕ) (ts : List Token) (d : Sketch) (look : Option Lexeme)
    → Follows (lexemes text ts) d → look ≡ None → k.step d look ≡ stuck
    → Breaks Written (lexemes text ts) (length ts)
whole_stuck text ts d look f none is =
    subst (λ (n : ℕ). Breaks Written (lexemes text ts) n) (length-map ts (lexeme_of text))
    (end_stuck (lexemes text ts) d f (ap (k.step d) (sym none) ∙ is))
