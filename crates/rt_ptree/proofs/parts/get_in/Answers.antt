use Rattle.std.proofs.Common.{◌∙◌, sym}
use Rattle.rt_ptree.proofs.Places.{IsRising-at, value_at-at}
use Rattle.rt_ptree.proofs.parts.get_in.Goals as goal

pub get-requires-clause-rising : goal.get-requires-clause-rising
get-requires-clause-rising g c = IsRising-at g.met.K.Ord.total g.C.Part.entries _ _ _ c.place.ensures.within c.index-parts-place.is c.requires.rising

pub returns : goal.returns
returns g c = c.get.ensures ∙ sym (value_at-at g.K.Ord.cmp g.C.Part.entries _ _ _ c.place.ensures.within c.index-parts-place.is _ c.place.ensures.below c.place.ensures.above)
