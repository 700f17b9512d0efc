use Rattle.std.proofs.Common.{◌-◌, length, take, drop, inl, ap, subst}
use Rattle.rt_sql.specs.declared.piece.Piece.{Piece}
use Rattle.rt_sql.specs.declared.fault.SqlFault.TheVariants.{BadToken}
use Rattle.rt_sql.specs.Front.{IsLongestPiece}
use Rattle.rt_sql.proofs.Steps.{one_list, cut_is_whole, one_place}
use Rattle.rt_sql.proofs.Extends.{cut_to_start, token_further, gap_further, uncut_here, cut_at_end}
use Rattle.rt_sql.proofs.scan.byte_tokens.Goals as goal

pub loop-at-init : goal.loop-at-init
loop-at-init c = cut_to_start c.args.text.now c.new-tokens.result.items c.new-tokens.ensures.items

pub loop-at-preserved-in_ok-push : goal.loop-at-preserved-in_ok-push
loop-at-preserved-in_ok-push c =
    rw c.in_ok-push.ensures.items (
    token_further c.args.text.now c.loop-at.tokens.items c.loop-at.at c.in-Token.kind c.in-Some.length c.loop-at.invariant
    (subst (λ (piece : Piece). IsLongestPiece (take (length c.args.text.now - c.loop-at.at) (drop c.loop-at.at c.args.text.now)) (piece, c.in-Some.length)) c.in-Token.is c.in-Some.ensures))

pub loop-at-preserved : goal.loop-at-preserved
loop-at-preserved c =
    gap_further c.args.text.now c.loop-at.tokens.items c.loop-at.at c.in-Some.piece c.in-Some.length c.loop-at.invariant c.in_default-piece.not-Token c.in-Some.ensures

pub returns-in_default-clause-bad : goal.returns-in_default-clause-bad
returns-in_default-clause-bad c = uncut_here c.args.text.now c.loop-at.tokens.items c.loop-at.at c.loop-at.invariant c.loop-at-test.true c.in_default.ensures

pub returns-in_default-clause-cut : goal.returns-in_default-clause-cut
returns-in_default-clause-cut c =
    λ list cut. absurd (
    cut_is_whole c.args.text.now list c.loop-at.at cut
    (uncut_here c.args.text.now c.loop-at.tokens.items c.loop-at.at c.loop-at.invariant c.loop-at-test.true c.in_default.ensures))

pub returns-in_default-clause-uncut : goal.returns-in_default-clause-uncut
returns-in_default-clause-uncut c =
    λ at uncut. inl (
    ap BadToken (
    one_place c.args.text.now c.loop-at.at at
    (uncut_here c.args.text.now c.loop-at.tokens.items c.loop-at.at c.loop-at.invariant c.loop-at-test.true c.in_default.ensures) uncut))

pub returns-clause-cut : goal.returns-clause-cut
returns-clause-cut c =
    λ list cut. one_list c.args.text.now c.loop-at.tokens.items list
    (cut_at_end c.args.text.now c.loop-at.tokens.items c.loop-at.at c.loop-at.invariant c.loop-at-test.false) cut

pub returns-clause-uncut : goal.returns-clause-uncut
returns-clause-uncut c =
    λ at uncut. cut_is_whole c.args.text.now c.loop-at.tokens.items at
    (cut_at_end c.args.text.now c.loop-at.tokens.items c.loop-at.at c.loop-at.invariant c.loop-at-test.false) uncut
