use Rattle.std.proofs.Common.{ap, sym, ◌∙◌, true, cond, reverse, arith}
use Rattle.std.specs.BTreeSet.{contains}
use Rattle.std.specs.Cmp.Lexicographic.{slice_cmp}
use Rattle.std.specs.Ordering.{nat_cmp}
use Rattle.std.proofs.lemmas.Map.Text.{is_eq-slice_cmp}
use Rattle.rt_value.proofs.Tests.{true_from_not, false_from_not}
use Rattle.rt_token.proofs.LastOfEach.{taken, left_out, named}
use Rattle.rt_token.proofs.claims.claims_in.Goals as goal

pub loop-at-preserved : goal.loop-at-preserved
loop-at-preserved c =
    let members = c.args.members.now in
    let name = c.get.result in
    let m = c.index-members-at in
    let again = sym (c.loop-at.invariant.names name) ∙ true_from_not _ (sym c.if-branch.false ∙ c.in_ok-insert.ensures.added) in
    record {
      within = omega arith;
      found = left_out members c.loop-at.at _ m.result name.now (omega arith) (omega arith) m.is c.get.ensures.bytes c.loop-at.claims.items again c.loop-at.invariant.found;
      names = λ q.
          named members c.loop-at.at _ m.result name.now (omega arith) (omega arith) m.is c.get.ensures.bytes q.now _ _ (c.loop-at.invariant.names q)
          (c.in_ok-insert.ensures.updates.0 q ∙ ap (λ b. cond b true (contains (λ a b. slice_cmp nat_cmp a.now b.now) c.loop-at.names q)) (is_eq-slice_cmp name.now q.now));
    }

pub loop-at-preserved-in_ok-push : goal.loop-at-preserved-in_ok-push
loop-at-preserved-in_ok-push c =
    let members = c.args.members.now in
    let name = c.get.result in
    let m = c.index-members-at in
    let new = sym (c.loop-at.invariant.names name) ∙ false_from_not _ (sym c.if-branch.true ∙ c.in_ok-insert.ensures.added) in
    record {
      within = omega arith;
      found =
          ap reverse c.in_ok-push.ensures.items
          ∙ taken members c.loop-at.at _ m.result name.now (omega arith) (omega arith) m.is c.get.ensures.bytes c.loop-at.claims.items c.in_ok-claim_of.field-0 c.in_ok-claim_of.ensures new c.loop-at.invariant.found;
      names = λ q.
          named members c.loop-at.at _ m.result name.now (omega arith) (omega arith) m.is c.get.ensures.bytes q.now _ _ (c.loop-at.invariant.names q)
          (c.in_ok-insert.ensures.updates.0 q ∙ ap (λ b. cond b true (contains (λ a b. slice_cmp nat_cmp a.now b.now) c.loop-at.names q)) (is_eq-slice_cmp name.now q.now));
    }
