use Rattle.std.proofs.Common.{rules, length}
use Rattle.std.proofs.lemmas.Slice.Zip.{zip_end}
use Rattle.rt_token.proofs.Compared.{all_compared}
use Rattle.rt_token.proofs.comparing.is_same_tag.Goals as goal

pub returns : goal.returns
returns c =
    let tag = c.args.tag.now in
    let wanted = c.args.wanted.now in
    let long = zip_end tag wanted c.loop-a.yielded c.into_iter-a-iterator.result c.loop-a.a-iterator c.next.new.self c.next.result (search rules) (search rules) c.loop-a.yielded_by c.in-None.is c.next.ensures.steps in
    all_compared tag wanted (length c.loop-a.yielded) c.loop-a.same long c.loop-a.invariant.long c.loop-a.invariant.left
