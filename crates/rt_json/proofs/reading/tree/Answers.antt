use Rattle.std.proofs.Common.{arith, ◌∙◌}
use Rattle.rt_json.proofs.Advances.{past_blanks_outcome, gives_behind, end_outcome}
use Rattle.rt_json.proofs.Chars.{faults_behind}
use Rattle.rt_json.specs.States.{state as state_of}
use Rattle.rt_json.proofs.reading.tree.Goals as goal

pub returns-then-at-bytes : goal.returns-then-at-bytes
returns-then-at-bytes c =
    let bytes = c.args.bytes.now in
    let s = c.loop-at.state in
    gives_behind c.finished.result _ _
    (c.loop-at.invariant.same ∙ past_blanks_outcome bytes c.loop-at.at c.past_blanks-at.result s.stack s.mode c.past_blanks-at.ensures.rest ∙ end_outcome bytes c.past_blanks-at.result (state_of s) (omega arith))
    c.finished.ensures

pub loop-at-preserved : goal.loop-at-preserved
loop-at-preserved c =
    let bytes = c.args.bytes.now in
    let s = c.loop-at.state in
    record {
      within = c.in-Ok.ensures.1;
      same = c.loop-at.invariant.same ∙ past_blanks_outcome bytes c.loop-at.at c.past_blanks-at.result s.stack s.mode c.past_blanks-at.ensures.rest ∙ c.in-Ok.ensures.2;
    }

pub returns-in-Err : goal.returns-in-Err
returns-in-Err c =
    let bytes = c.args.bytes.now in
    let s = c.loop-at.state in
    faults_behind c.in-Err.stop _ _ (c.loop-at.invariant.same ∙ past_blanks_outcome bytes c.loop-at.at c.past_blanks-at.result s.stack s.mode c.past_blanks-at.ensures.rest) c.in-Err.ensures
