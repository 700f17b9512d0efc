use Rattle.std.proofs.Common.{All, is_some, flat_map, sym, subst, ap, ◌∙◌}
use Rattle.rt_ptree.specs.Change.{change_key, changed}
use Rattle.rt_ptree.specs.Entries.{IsRising, value_at}
use Rattle.rt_ptree.proofs.Places.{IsRising-at, value_at-at}
use Rattle.rt_ptree.proofs.Settled.{on_err, settled, All-settled, flat_map-set, changed-settled}
use Rattle.rt_ptree.proofs.parts.change_in.Goals as goal

pub change-requires-clause-rising : goal.change-requires-clause-rising
change-requires-clause-rising g c =
    let within = rw c.deref.ensures.value at c.place-at.ensures.within in
    let rising = subst (λ l. IsRising g.K.Ord.cmp (flat_map g.C.Part.entries l)) (sym c.reserve.ensures.items) c.requires.rising in
    IsRising-at g.met.K.Ord.total g.C.Part.entries _ _ _ within c.index_mut.ensures.value rising

pub returns-in_err-made-clause-err : goal.returns-in_err-made-clause-err
returns-in_err-made-clause-err g c =
    let within = rw c.deref.ensures.value at c.place-at.ensures.within in
    let same = flat_map-set c.reserve.new.self.items c.place-at.result c.change.new.self within g.C.Part.entries c.index_mut.result.now c.index_mut.ensures.value c.in_err-made.ensures.err in
    on_err c.from_residual-in_err-made.result (same ∙ ap (flat_map g.C.Part.entries) c.reserve.ensures.items)

pub returns-clause-entries : goal.returns-clause-entries
returns-clause-entries g c =
    let within = rw c.deref.ensures.value at c.place-at.ensures.within in
    let below = rw (c.deref.ensures.value, c.key.ensures) at c.place-at.ensures.below in
    let above = rw (c.deref.ensures.value, c.key.ensures) at c.place-at.ensures.above in
    let is = settled c.reserve.new.self.items c.place-at.result c.change.new.self within c.settle.new.parts.items c.in_ok-made.made.pieces c.settle.ensures in
    let made =
    changed-settled c.reserve.new.self.items c.place-at.result c.change.new.self within g.K.Ord.cmp g.C.Part.entries c.index_mut.result.now c.index_mut.ensures.value c.settle.new.parts.items c.in_ok-made.made.pieces c.args.change.now
    below above is c.in_ok-made.ensures.entries in
    made ∙ ap (λ l. changed g.K.Ord.cmp c.args.change.now (flat_map g.C.Part.entries l)) c.reserve.ensures.items

pub returns-clause-was_there : goal.returns-clause-was_there
returns-clause-was_there g c =
    let within = rw c.deref.ensures.value at c.place-at.ensures.within in
    let below = rw (c.deref.ensures.value, c.key.ensures) at c.place-at.ensures.below in
    let above = rw (c.deref.ensures.value, c.key.ensures) at c.place-at.ensures.above in
    let at = value_at-at g.K.Ord.cmp g.C.Part.entries c.reserve.new.self.items c.place-at.result c.index_mut.result.now within c.index_mut.ensures.value (change_key c.args.change.now) below above in
    c.in_ok-made.ensures.was_there
    ∙ ap is_some (sym at)
    ∙ ap (λ l. is_some (value_at g.K.Ord.cmp (flat_map g.C.Part.entries l) (change_key c.args.change.now))) c.reserve.ensures.items

pub returns-clause-fits : goal.returns-clause-fits
returns-clause-fits g c =
    let within = rw c.deref.ensures.value at c.place-at.ensures.within in
    let is = settled c.reserve.new.self.items c.place-at.result c.change.new.self within c.settle.new.parts.items c.in_ok-made.made.pieces c.settle.ensures in
    let fits = subst (All g.C.Part.is_fit) (sym c.reserve.ensures.items) c.requires.fits in
    All-settled c.reserve.new.self.items c.place-at.result c.change.new.self within g.C.Part.is_fit c.settle.new.parts.items c.in_ok-made.made.pieces is fits c.in_ok-made.ensures.fits
