use Rattle.std.proofs.Common.{◌+◌, ◌-◌, ◌≡◌, ℕ, length, subst, arith}
use Rattle.rt_sql.specs.Front.{IsLongestFront, IsQuoted}
use Rattle.rt_sql.proofs.Quotes.{reads_plain, reads_pair, reads_closed, reads_ended}
use Rattle.rt_sql.proofs.piece.in_quotes_length.Goals as goal

pub loop-rest-preserved-then-first-quote-2 : goal.loop-rest-preserved-then-first-quote-2
loop-rest-preserved-then-first-quote-2 c =
    reads_plain c.args.quote c.args.text.now c.loop-rest.rest.now c.loop-rest.longest c.in-len1-up-rest.len_at_least c.if-first-quote-2.true c.loop-rest.invariant

pub loop-rest-preserved : goal.loop-rest-preserved
loop-rest-preserved c =
    reads_pair c.args.quote c.args.text.now c.loop-rest.rest.now c.loop-rest.longest c.in-len2-up.len_at_least c.if-first-quote-2.false c.if-second-quote.false c.loop-rest.invariant

pub returns-in-empty : goal.returns-in-empty
returns-in-empty c = reads_ended c.args.quote c.args.text.now c.loop-rest.rest.now c.loop-rest.longest c.in-empty.len_below c.loop-rest.invariant

pub returns-in-len1 : goal.returns-in-len1
returns-in-len1 c =
    let all : length c.args.text.now - length c.loop-rest.rest.now + 1 ≡ length c.args.text.now = omega (arith, c.loop-rest.invariant.shorter) in
    subst (λ (n : ℕ). IsLongestFront (IsQuoted c.args.quote) c.args.text.now n) all
    (reads_closed c.args.quote c.args.text.now c.loop-rest.rest.now c.loop-rest.longest (omega arith) c.if-first-quote-2.false (λ le. absurd (omega arith)) c.loop-rest.invariant)

pub returns-then-second-quote : goal.returns-then-second-quote
returns-then-second-quote c =
    reads_closed c.args.quote c.args.text.now c.loop-rest.rest.now c.loop-rest.longest c.in-len1-up-rest.len_at_least c.if-first-quote-2.false (λ le. c.if-second-quote.true)
    c.loop-rest.invariant
