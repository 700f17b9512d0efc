use Rattle.rt_bind.proofs.Straight.{push_past}
use Rattle.rt_bind.proofs.moved.push_face.Goals as goal

pub returns : goal.returns
returns c =
    push_past c.args.columns.now c.args.faces.now.items c.as_slice.result.now c.args.field c.in-None.ensures.lookup.3
    c.as_slice.ensures.value
