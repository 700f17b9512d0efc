use Rattle.std.proofs.Common.{ap, sym, ◌∙◌, Some, None, option_copied}
use Rattle.rt_presence.proofs.Places.{find_nobody, find_is}
use Rattle.rt_presence.proofs.present.Presence.find.Goals as goal

pub returns-in-None : goal.returns-in-None
returns-in-None c = find_nobody _ _ _ c.args.place.now c.self.view_is c.self.invariant (sym c.get.ensures
    ∙ ap option_copied c.in-None.is)

pub returns-in-None-get : goal.returns-in-None-get
returns-in-None-get c =
    find_is _ _ _ c.args.place.now c.self.view_is c.self.invariant c.in-Some.track.now None (sym c.get.ensures
    ∙ ap option_copied c.in-Some.is) (sym c.get-in-Some.ensures ∙ ap option_copied c.in-None-get.is)

pub returns-in-Some-get : goal.returns-in-Some-get
returns-in-Some-get c =
    find_is _ _ _ c.args.place.now c.self.view_is c.self.invariant c.in-Some.track.now (Some c.in-Some-get.tree.now)
    (sym c.get.ensures ∙ ap option_copied c.in-Some.is) (sym c.get-in-Some.ensures
    ∙ ap option_copied c.in-Some-get.is)
