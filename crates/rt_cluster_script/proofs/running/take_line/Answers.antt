use Rattle.std.proofs.Common.{◌≡◌, IfOk, Bool, false, List, ℕ, Some, None, Result, Ok, Err, refl, sym, ◌∙◌, subst}
use Rattle.rt_cluster_script.specs.Agreeing.{Leads, LeadsOn}
use Rattle.rt_cluster_script.specs.declared.nodes.Nodes.{Nodes}
use Rattle.rt_lines.specs.Lines.{is_passed_over}
use Rattle.std.specs.Prelude.{IsUtf8}
use Rattle.rt_cluster_script.specs.Script.{step, passed, read, unread}
use Rattle.rt_cluster_script.proofs.running.take_line.Goals as goal

-- what a line says, where it is text, is what the line of the script leads to
on_line : {E : Type 0} (old new : Nodes) (line : List ℕ) (r : Result Bool E) → is_passed_over line ≡ false
    → IsUtf8 line → IfOk r (Leads old new (λ st. step st line)) → IfOk r (LeadsOn old new line)
on_line old new line (Ok took) e utf8 h = λ st a. (step st line, read e utf8 refl, h st a)
on_line old new line (Err fault) e utf8 h = h

pub returns-then-is_passed_over : goal.returns-then-is_passed_over
returns-then-is_passed_over c = λ st a. (Some st, passed (sym c.is_passed_over.ensures ∙ c.if-is_passed_over.true), a)

pub returns-in-Ok : goal.returns-in-Ok
returns-in-Ok c =
    let cases = c.in-Ok.ensures.cases in
    on_line c.args.nodes.now c.take.new.self c.args.line.now c.take.result
    (sym c.is_passed_over.ensures ∙ c.if-is_passed_over.false) cases.1
    (subst (λ text. IfOk c.take.result (Leads c.args.nodes.now c.take.new.self (λ st. step st text))) cases.0
    c.take.ensures)

pub returns-in-Err : goal.returns-in-Err
returns-in-Err c = λ st a.
    (None, unread (sym c.is_passed_over.ensures ∙ c.if-is_passed_over.false) c.in-Err.ensures.cases.0, tt)
