use Rattle.rt_phx.proofs.Frames.{too_long, read_fault, tree_read}
use Rattle.rt_phx.proofs.decoding.computed.Goals as goal

pub returns-then-bytes-gt-FRAME_LIMIT : goal.returns-then-bytes-gt-FRAME_LIMIT
returns-then-bytes-gt-FRAME_LIMIT c = too_long c.args.version c.args.bytes.now c.if-bytes-gt-FRAME_LIMIT.true

pub returns-in_err-tree : goal.returns-in_err-tree
returns-in_err-tree c =
    read_fault c.args.version c.args.bytes.now c.from_residual.result c.in_err-tree.field-0.0
    c.if-bytes-gt-FRAME_LIMIT.false c.in_err-tree.ensures.computed c.from_residual.ensures

pub returns : goal.returns
returns c =
    tree_read c.args.version c.args.bytes.now c.ok_or.result c.in_ok-tree.tree c.message_of_tree.result
    c.if-bytes-gt-FRAME_LIMIT.false c.in_ok-tree.ensures.computed
    c.message_of_tree.ensures c.ok_or.ensures.value
