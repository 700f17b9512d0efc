use Rattle.std.proofs.Common.{inl, List, [], sym, ap, subst}
use Rattle.rt_value.proofs.Among.{from_contains}
use Rattle.rt_cluster.specs.Operations.{Operation, marks_of}
use Rattle.rt_cluster_script.specs.Script.{start, Shows}
use Rattle.rt_cluster_script.specs.Agreeing.{AllFit, AllStand}
use Rattle.rt_cluster_script.specs.declared.fault.ClusterFault.TheVariants.{Refused}
use Rattle.rt_cluster_script.proofs.OneEnd.{shown_once, refused_once, never_both}
use Rattle.rt_cluster_script.proofs.Reaching.{next_reached, refused_here, shown_here}
use Rattle.rt_cluster_script.proofs.running.run.Goals as goal

abbrev nothing : List Operation
nothing = []

pub loop-number-init : goal.loop-number-init
loop-number-init c = record {
  st = start;
  agrees = record {
    fit = subst (λ rs. AllFit [] 0 rs []) (sym c.new.ensures.items) tt;
    stand = subst (λ ds. AllStand ds []) (sym c.new-2.ensures.items) tt;
    one = λ m n h k e. absurd (from_contains (marks_of nothing) m h);
    shown = c.new-3.ensures.items;
  };
  ends = λ r e. e;
}

pub returns-in_default-clause-shown : goal.returns-in_default-clause-shown
returns-in_default-clause-shown c =
    subst (Shows c.args.text.now) (sym c.new-in_default.ensures)
    (shown_here c.args.text.now c.loop-number.rest.now c.loop-number.number c.loop-number.nodes c.loop-number.invariant
    c.in_default.ensures.lines)

pub returns-in_default-clause-only_shown : goal.returns-in_default-clause-only_shown
returns-in_default-clause-only_shown c = λ bytes shows.
    shown_once c.args.text.now c.new-in_default.result bytes
    (subst (Shows c.args.text.now) (sym c.new-in_default.ensures)
    (shown_here c.args.text.now c.loop-number.rest.now c.loop-number.number c.loop-number.nodes c.loop-number.invariant
    c.in_default.ensures.lines)) shows

pub returns-in_default-clause-only_refused : goal.returns-in_default-clause-only_refused
returns-in_default-clause-only_refused c = λ line refuses.
    never_both c.args.text.now c.loop-number.nodes.shown.items line
    (shown_here c.args.text.now c.loop-number.rest.now c.loop-number.number c.loop-number.nodes c.loop-number.invariant
    c.in_default.ensures.lines) refuses

pub returns-then-not-branch-clause-fault : goal.returns-then-not-branch-clause-fault
returns-then-not-branch-clause-fault c =
    refused_here c.args.text.now c.loop-number.rest.now c.in-Some.line.now c.in-Some.more.now c.loop-number.number
    c.loop-number.nodes c.take_line.new.nodes c.in_ok-take_line.field-0 c.loop-number.invariant
    c.in_ok-take_line.ensures c.in-Some.ensures.lines c.if-not-branch.true

pub returns-then-not-branch-clause-only_shown : goal.returns-then-not-branch-clause-only_shown
returns-then-not-branch-clause-only_shown c = λ bytes shows.
    absurd (never_both c.args.text.now bytes c.loop-number.number shows
    (refused_here c.args.text.now c.loop-number.rest.now c.in-Some.line.now c.in-Some.more.now c.loop-number.number
    c.loop-number.nodes c.take_line.new.nodes c.in_ok-take_line.field-0 c.loop-number.invariant
    c.in_ok-take_line.ensures c.in-Some.ensures.lines c.if-not-branch.true))

pub returns-then-not-branch-clause-only_refused : goal.returns-then-not-branch-clause-only_refused
returns-then-not-branch-clause-only_refused c = λ line refuses.
    inl (ap (λ n. Refused n) (refused_once c.args.text.now c.loop-number.number line
    (refused_here c.args.text.now c.loop-number.rest.now c.in-Some.line.now c.in-Some.more.now c.loop-number.number
    c.loop-number.nodes c.take_line.new.nodes c.in_ok-take_line.field-0 c.loop-number.invariant
    c.in_ok-take_line.ensures c.in-Some.ensures.lines c.if-not-branch.true) refuses))

pub loop-number-preserved : goal.loop-number-preserved
loop-number-preserved c =
    next_reached c.args.text.now c.loop-number.rest.now c.in-Some.line.now c.in-Some.more.now c.loop-number.number
    c.loop-number.nodes c.take_line.new.nodes c.in_ok-take_line.field-0 c.loop-number.invariant
    c.in_ok-take_line.ensures c.in-Some.ensures.lines c.if-not-branch.false
