-- The laws of what effects do.
use Rattle.std.proofs.Common.{◌≡◌, ℕ, List, [], ◌∷◌, ◌++◌, Option, Some, None, refl, ap}
use Rattle.std.specs.Prelude.{if◌then◌else◌, option_map}
use Rattle.std.specs.List.{enumerate_from}
use Rattle.rt_value.specs.declared.row.Row.{Row}
use Rattle.rt_value.proofs.Among.{to_contains}
use Rattle.rt_phx.specs.declared.end.EndName.{EndName}
use Rattle.rt_phx.specs.declared.end.EndName.TheVariants as end_name
use Rattle.rt_phx.specs.Frame.{message_of}
use Rattle.rt_catalog.specs.declared.catalog.Catalog.{Catalog}
use Rattle.rt_channel.specs.Effects.{effects_of, end_effects}
use Rattle.rt_entry.specs.declared.input.Settings.{Settings}
use Rattle.rt_entry.specs.declared.story.Opening.{Opening}
use Rattle.rt_entry.specs.declared.story.Part.{Part}
use Rattle.rt_entry.specs.declared.story.Part.TheVariants.{Opens, Ends}
use Rattle.rt_entry.specs.Story.{Now}
use Rattle.rt_entry.specs.Doings.{doings, opening_in, opening_of, frame_parts, end_if_open, tick_parts}
use Rattle.rt_entry.proofs.Once.{topics_apart}
use Rattle.rt_entry.proofs.Shapes.{AreApart}
use Rattle.rt_hub.specs.Sockets.{held_of, socket_of}
use Rattle.rt_hub.specs.Doing.{asked, HasTopicsApart, parts_of_effects, JournalsAreApart, FramesAreDone, TicksAreDone}
use Rattle.rt_hub.specs.Doing.{EndsAreDone, ticked}
use Rattle.rt_hub.proofs.Done.{turn_same, end_done, tick_done, message_done}

apart_of : (now : Now) → HasTopicsApart now.members → AreApart now.members
apart_of now apart g h a b e t = apart g h (to_contains now.members g a) (to_contains now.members h b) e t

module _ (c : Catalog) (s : Settings) where
  pub journals_apart : JournalsAreApart c s
  journals_apart journal = topics_apart c s journal

  module _ (now : Now) (tables : List (List Row)) where
    frame_done : (slot : ℕ) (bytes : List ℕ) → AreApart now.members → (o : Option Opening)
        → frame_parts c s now tables slot bytes o ≡ parts_of_effects c now tables slot []
        (asked (λ held. effects_of s.secret now.number now.moment held bytes) (option_map (held_of c now slot) o))
    unfolding parts_of_effects effects_of
    frame_done slot bytes apart None = refl
    frame_done slot bytes apart (Some o) = message_done c now tables slot s o apart (message_of o.version bytes)

    end_if_done : (slot : ℕ) (name : EndName) → AreApart now.members → (o : Option Opening)
        → end_if_open now slot name o ≡ parts_of_effects c now tables slot []
        (asked (end_effects name) (option_map (held_of c now slot) o))
    unfolding parts_of_effects
    end_if_done slot name apart None = refl
    end_if_done slot name apart (Some o) = end_done c now tables slot apart [] o name

    ticked_done : (moment : ℕ) → AreApart now.members → (gone : List ℕ) (at : ℕ × Option Opening)
        → tick_parts now moment gone at ≡ ticked c s now tables moment gone at
    unfolding parts_of_effects
    ticked_done moment apart gone (slot, None) = refl
    ticked_done moment apart gone (slot, Some o) = tick_done c now tables slot apart moment gone o

  pub frames_done : FramesAreDone c s
  unfolding doings socket_of
  frames_done now tables slot bytes apart =
      frame_done now tables slot bytes (apart_of now apart) (opening_in now slot)

  pub ticks_done : TicksAreDone c s
  unfolding doings
  ticks_done now tables moment apart =
      turn_same (tick_parts now moment) (ticked c s now tables moment)
      (ticked_done now tables moment (apart_of now apart)) [] (enumerate_from 0 now.opens)

  pub ends_done : EndsAreDone c s
  unfolding doings socket_of
  ends_done now tables slot apart =
      let done : (name : EndName) → end_if_open now slot name (opening_in now slot)
      ≡ parts_of_effects c now tables slot []
      (asked (end_effects name) (option_map (held_of c now slot) (opening_in now slot)))
      = λ name. end_if_done now tables slot name (apart_of now apart) (opening_in now slot) in (
        done end_name.Gone,
        λ version claims.
            ap (λ (ps : List Part). ps ++ Opens slot (opening_of now version claims)
            ∷ (if now.stopped then Ends slot end_name.Stopped ∷ [] else [])) (done end_name.Replaced),
      )
