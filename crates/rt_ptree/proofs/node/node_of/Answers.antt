use Rattle.std.proofs.Common.{◌≡◌, ◌<◌, ◌≤◌, All, Some, length, flat_map, ap, sym, ◌∙◌, arith}
use Rattle.std.specs.Arc.{arc_value}
use Rattle.rt_ptree.specs.declared.node.Node.{Node}
use Rattle.rt_ptree.specs.Entries.{least_key}
use Rattle.rt_ptree.proofs.Settled.{IsFitNode-from}
use Rattle.rt_ptree.proofs.node.node_of.Goals as goal

pub returns-clause-fit : goal.returns-clause-fit
returns-clause-fit g c =
    let len = c.args.parts.ok in
    let some : 0 < length c.args.parts.items = omega (arith, c.requires.some, len) in
    let within : length c.args.parts.items ≤ g.C.Part.MOST = omega (arith, c.requires.len, len) in
    let fits : All g.C.Part.is_fit c.args.parts.items = c.requires.fits in
    let least : least_key (flat_map g.C.Part.entries c.args.parts.items) ≡ Some (arc_value c.in_ok-least.least) =
    ap (λ l. least_key (flat_map g.C.Part.entries l)) (sym c.deref.ensures.value) ∙ c.least_in.ensures ∙ ap (λ k. Some k) (sym c.in_ok-least.ensures) in
    IsFitNode-from g.C.Part.MOST g.C.Part.entries g.C.Part.is_fit c.in_ok-new.field-0 c.args.parts.items (arc_value c.in_ok-least.least)
    (ap (λ (n : Node g.row.K.Denot g.row.C.Denot). n.parts.items) c.in_ok-new.ensures.ok)
    (ap (λ (n : Node g.row.K.Denot g.row.C.Denot). arc_value n.least) c.in_ok-new.ensures.ok)
    some within fits least
