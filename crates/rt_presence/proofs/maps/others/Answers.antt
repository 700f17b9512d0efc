use Rattle.std.proofs.Common.{List, ap, sym, ◌∙◌, option_copied}
use Rattle.rt_ptree.specs.Entries.{without_key}
use Rattle.rt_presence.specs.Tracks.{Tracked, track_cmp}
use Rattle.rt_presence.proofs.Changes.{take_nobody, take_is}
use Rattle.rt_presence.proofs.maps.others.Goals as goal
use Rattle.rt_presence.proofs.maps.others.Goals.{in-Some+in_ok-remove, in_default}

pub returns : goal.returns
returns c = elim c.match-get.branch [
  | in-Some+in_ok-remove w ↦
      let f = w.in-Some.track.now in
      w.others-is ∙ w.in_ok-remove.ensures.ok
      ∙ ap (λ (ts : List Tracked). without_key track_cmp ts f) c.in_ok-others.ensures
      ∙ take_is c.args.tracks.now c.args.places.now c.args.place.now c.requires f
      (sym c.get.ensures ∙ ap option_copied w.in-Some.is) c.len-len.ensures.rising
  | in_default w ↦
      w.others-is ∙ c.in_ok-others.ensures
      ∙ take_nobody c.args.tracks.now c.args.places.now c.args.place.now c.requires
      (sym c.get.ensures ∙ ap option_copied w.in_default.is)
]
