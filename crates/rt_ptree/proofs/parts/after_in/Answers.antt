use Rattle.std.proofs.Common.{◌+◌, drop, flat_map}
use Rattle.std.proofs.lemmas.List.{drop_all}
use Rattle.rt_ptree.proofs.Places.{IsRising-at, entry_after-at, drop-at, first-append}
use Rattle.rt_ptree.proofs.parts.after_in.Goals as goal

pub after-requires-clause-rising : goal.after-requires-clause-rising
after-requires-clause-rising g c = IsRising-at g.met.K.Ord.total g.C.Part.entries _ _ _ c.place-at.ensures.within c.index-parts-at.is c.requires.rising

-- it is in the part of the key's place
pub returns-in-Some : goal.returns-in-Some
returns-in-Some g c =
    let at = entry_after-at g.K.Ord.cmp g.C.Part.entries _ _ _ c.place-at.ensures.within c.index-parts-at.is _ c.place-at.ensures.below c.place-at.ensures.above in
    rw (at, ← c.in-Some.ensures)

-- it is the first of the next part
pub returns-in-None : goal.returns-in-None
returns-in-None g c =
    let at = entry_after-at g.K.Ord.cmp g.C.Part.entries _ _ _ c.place-at.ensures.within c.index-parts-at.is _ c.place-at.ensures.below c.place-at.ensures.above in
    let next = first-append _ (flat_map g.C.Part.entries (drop (c.place-at.result + 1 + 1) c.args.parts.now)) _ c.first.ensures in
    let rest = drop-at g.C.Part.entries c.args.parts.now (c.place-at.result + 1) _ c.if-at-parts.true c.index-parts-at-in-None.is in
    rw (at, ← c.in-None.ensures, rest, next)

-- there is no next part
pub returns-in-None-2 : goal.returns-in-None-2
returns-in-None-2 g c =
    let at = entry_after-at g.K.Ord.cmp g.C.Part.entries _ _ _ c.place-at.ensures.within c.index-parts-at.is _ c.place-at.ensures.below c.place-at.ensures.above in
    rw (at, ← c.in-None.ensures, drop_all (c.place-at.result + 1) c.args.parts.now c.if-at-parts.false)
