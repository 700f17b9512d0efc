-- Two small runs of two nodes: what each knows, the last operation first, and what it shows.
use Rattle.std.specs.Prelude.{◌≡◌, ℕ, List, [], ◌∷◌, codes}
use Rattle.rt_json.specs.declared.tree.Json.{Json}
use Rattle.rt_json.specs.declared.tree.Json.TheVariants as j
use Rattle.rt_json.specs.Written.{written}
use Rattle.rt_json.specs.Trees.{field}
use Rattle.rt_cluster.specs.Operations.{Operation, tracked, untracked, dropped}
use Rattle.rt_cluster.specs.Shown.{presence}

-- `{"a":1}` and `{"a":2}`
abbrev pub counted : List ℕ → Json
counted digits = j.Object (field (codes "a") (j.Num digits) ∷ [])

abbrev pub track_again : List Operation → Operation
track_again known = tracked 0 (codes "t") (codes "k") (counted (codes "2")) known

abbrev pub track_first : Operation
track_first = tracked 0 (codes "t") (codes "k") (counted (codes "1")) []

-- node 0 tracks, and node 1 hears of it and drops node 0, which tracks anew meanwhile; then each hears of all
abbrev pub drop_heard : Operation
drop_heard = dropped 0 (track_first ∷ [])

abbrev pub all_heard : List Operation
all_heard = drop_heard ∷ track_again (track_first ∷ []) ∷ track_first ∷ []

abbrev pub DroppedTrackIsReplaced : Type 0
DroppedTrackIsReplaced =
    written (presence all_heard (codes "t")) ≡ codes "{\"k\":{\"metas\":[{\"phx_ref\":\"0.2\",\"a\":2}]}}"

-- node 0 tracks and untracks, and node 1 hears of the removal first
abbrev pub removal_first : List Operation
removal_first = track_first ∷ track_first ∷ untracked 0 (codes "t") (codes "k") (track_first ∷ []) ∷ []

abbrev pub RemovalComesFirst : Type 0
RemovalComesFirst = written (presence removal_first (codes "t")) ≡ codes "{}"
