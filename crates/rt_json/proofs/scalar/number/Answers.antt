use Rattle.std.proofs.Common.{sym, ◌∙◌}
use Rattle.rt_json.proofs.Scalars.{number_at, number_ok, number_err}
use Rattle.rt_json.proofs.scalar.number.Goals as goal

pub returns-then-not-may_end : goal.returns-then-not-may_end
returns-then-not-may_end c =
    let p = c.past_digits-digits.ensures in
    number_err c.args.bytes.now c.args.at c.past_digits-digits.result.1 c.past_digits-digits.result.0
    (number_at c.args.bytes.now c.args.at c.past_digits-digits.result.1 c.args.start c.past_digits-digits.result.0 c.requires.within p.from p.within c.requires.begins p.rest)
    (sym c.may_end.ensures ∙ c.if-not-may_end.true)

pub returns : goal.returns
returns c =
    let p = c.past_digits-digits.ensures in
    number_ok c.args.bytes.now c.args.at c.past_digits-digits.result.1 c.past_digits-digits.result.0 c.new.result p.from p.within
    (number_at c.args.bytes.now c.args.at c.past_digits-digits.result.1 c.args.start c.past_digits-digits.result.0 c.requires.within p.from p.within c.requires.begins p.rest)
    (sym c.may_end.ensures ∙ c.if-not-may_end.false)
    (c.new.ensures ∙ c.in_ok-text-in-Ok.ensures.ok ∙ c.in-Ok.ensures.cases.0)

pub unreachable-requires : goal.unreachable-requires
unreachable-requires c =
    let p = c.past_digits-digits.ensures in
    let n = number_at c.args.bytes.now c.args.at c.past_digits-digits.result.1 c.args.start c.past_digits-digits.result.0 c.requires.within p.from p.within c.requires.begins p.rest in
    c.in-Err.ensures.cases.0 n.utf8
