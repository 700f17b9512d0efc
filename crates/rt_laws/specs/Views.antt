-- What a client reads of presence messages.
use Rattle.std.specs.Prelude.{◌==◌, ◌<◌, ◌^◌, Bool, not, ⊤, List, [], ◌∷◌, ◌++◌, map, IsPermutation}
use Rattle.std.specs.List.{filter, list_any}
use Rattle.rt_presence.specs.Trees.{Held}
use Rattle.rt_entry.specs.declared.story.Channel.{Channel}
use Rattle.rt_entry.specs.declared.story.Track.{Track}
use Rattle.rt_entry.specs.Messages.{presence_state, presence_diff, shown_meta}
use Rattle.rt_entry.specs.Presence.{client_view}

-- the tracks that join and those that leave
pub record Difference : Type 0 where
  pub joins : List Track
  pub leaves : List Track

abbrev pub leaves_in : List Track → Track → Bool
leaves_in leaves t = list_any (λ u. u.reference == t.reference) leaves

-- tracks after differences: the joins added, the leaves removed by their reference
abbrev pub after_differences : List Track → List Difference → List Track
after_differences tracks [] = tracks
after_differences tracks (d ∷ ds) = after_differences (filter (λ t. not (leaves_in d.leaves t)) (tracks ++ d.joins)) ds

-- their references are printed as different texts
abbrev pub Fit : List Track → Type 0
Fit [] = ⊤
Fit (t ∷ ts) = (t.reference < 2 ^ 64) × Fit ts

abbrev pub AllFit : List Difference → Type 0
AllFit [] = ⊤
AllFit (d ∷ ds) = Fit d.joins × Fit d.leaves × AllFit ds

-- a client that is told a state and then differences holds, up to order, the metas of the state's tracks after these
-- differences, whatever it held
abbrev pub StatesAreRead : Type 0
StatesAreRead =
    (ch : Channel) (tracks : List Track) (ds : List Difference) (held : List Held) → Fit tracks → AllFit ds
    → IsPermutation (client_view held (presence_state ch tracks ∷ map (λ d. presence_diff ch d.joins d.leaves) ds))
    (map shown_meta (after_differences tracks ds))
