-- One line more of a script is gone over.
use Rattle.std.proofs.Common.{◌≡◌, ℕ, ◌+◌, Bool, true, false, List, [], ◌∷◌, Option, Some, None, Result, Ok, Err, refl}
use Rattle.std.proofs.Common.{sym, subst}
use Rattle.rt_lines.specs.Lines.{lines_of}
use Rattle.rt_cluster_script.specs.Script.{State, start, Reads, Ends, at_end, refused, goes_on, Shows, Refuses}
use Rattle.rt_cluster_script.specs.Agreeing.{Agrees, Led, LeadsOn}
use Rattle.rt_cluster_script.specs.declared.nodes.Nodes.{Nodes}

-- The lines before the one of this number lead to a state with which the nodes agree, and however the rest ends, so does
-- the text.
pub record HasReached (text rest : List ℕ) (number : ℕ) (nodes : Nodes) : Type 0 where
  pub st : State
  pub agrees : Agrees nodes st
  pub ends : (r : Result (List ℕ) ℕ) → Ends st number (lines_of rest) r → Ends start 1 (lines_of text) r

led_on : (nodes : Nodes) (o : Option State) (took : Bool) → Led nodes o took → took ≡ true
    → (next : State) × (o ≡ Some next) × Agrees nodes next
led_on nodes (Some next) true h e = (next, refl, h)
led_on nodes None true h e = absurd h
led_on nodes o false h e = absurd cc

led_out : (nodes : Nodes) (o : Option State) (took : Bool) → Led nodes o took → took ≡ false → o ≡ None
led_out nodes (Some next) false h e = absurd h
led_out nodes None false h e = refl
led_out nodes o true h e = absurd cc

module _ (text rest line more : List ℕ) (number : ℕ) (old new : Nodes) (took : Bool)
    (reached : HasReached text rest number old) (leads : LeadsOn old new line took)
    (lines : lines_of rest ≡ line ∷ lines_of more) where
  pub next_reached : took ≡ true → HasReached text more (number + 1) new
  next_reached e =
      let p = leads reached.st reached.agrees in
      let q = led_on new p.0 took p.2 e in
      record {
        st = q.0;
        agrees = q.2;
        ends = λ r ends. reached.ends r (subst (λ ls. Ends reached.st number ls r) (sym lines)
            (goes_on (subst (Reads reached.st line) q.1 p.1) ends));
      }

  pub refused_here : took ≡ false → Refuses text number
  refused_here e =
      let p = leads reached.st reached.agrees in
      reached.ends (Err number) (subst (λ ls. Ends reached.st number ls (Err number)) (sym lines)
      (refused (subst (Reads reached.st line) (led_out new p.0 took p.2 e) p.1)))

pub shown_here : (text rest : List ℕ) (number : ℕ) (nodes : Nodes) → HasReached text rest number nodes
    → lines_of rest ≡ [] → Shows text nodes.shown.items
shown_here text rest number nodes reached none =
    let st = reached.st in
    subst (Shows text) (sym reached.agrees.shown) (reached.ends (Ok st.shown)
    (subst (λ ls. Ends st number ls (Ok st.shown)) (sym none) at_end))
