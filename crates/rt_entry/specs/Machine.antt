-- The machine of steps: inputs arrive, the journal takes them, lanes carry what is owed to their workers, and outboxes
-- are given items.
use Rattle.std.specs.Prelude.{◌≡◌, ℕ, ◌==◌, ◌+◌, ◌-◌, ◌%◌, nat_lt, nat_le, Bool, true, false, ◌&&◌, not, List, [], ◌∷◌}
use Rattle.std.specs.Prelude.{◌++◌, length, drop, take, sum_by, count_by, find, Option, Some, None}
use Rattle.std.specs.List.{list_any, filter, flat_map}
use Rattle.rt_phx.specs.declared.end.EndName.TheVariants.{OutboxFull}
use Rattle.rt_catalog.specs.declared.catalog.Catalog.{Catalog}
use Rattle.rt_entry.specs.declared.input.Input.{Input}
use Rattle.rt_entry.specs.declared.input.Input.TheVariants.{Opened, Frame, Gone, Post, Poll, Tick}
use Rattle.rt_entry.specs.declared.input.Settings.{Settings}
use Rattle.rt_entry.specs.declared.input.Step.{Step}
use Rattle.rt_entry.specs.declared.input.Step.TheVariants.{Arrive, Feed, Take, TakeFeed, TakeClock, Send, Work, Push}
use Rattle.rt_entry.specs.declared.input.Step.TheVariants.{Pop}
use Rattle.rt_entry.specs.declared.answer.Item.{Item}
use Rattle.rt_entry.specs.declared.answer.Item.TheVariants.{Message, End}
use Rattle.rt_entry.specs.Story.{tables_left}
use Rattle.rt_entry.specs.Doings.{story}
use Rattle.rt_entry.specs.Answers.{lane_marks, answers_of_marks, items_for}

-- An opening that its own full outbox cut short: its number on the slot, which is how many terminators stand before it,
-- and the place of the first item that the slot wasn't given.
pub record Cut : Type 0 where
  pub opening : ℕ
  pub place : ℕ

pub record Slot : Type 0 where
  pub inlet : List Input
  -- all that the outbox was ever given
  pub given : List Item
  -- the place behind the last item that was taken from what is pending
  pub past : ℕ
  -- how many of the given items were taken away
  pub popped : ℕ
  pub cuts : List Cut

pub record Lane : Type 0 where
  pub sent : ℕ
  pub worked : ℕ

pub record World : Type 0 where
  pub slots : ℕ → Slot
  pub lanes : ℕ → Lane
  pub feed : List Input
  pub clock : List Input
  -- the newest first
  pub journal : List Input

abbrev pub new_slot : Slot
new_slot = record { inlet = []; given = []; past = 0; popped = 0; cuts = [] }

abbrev pub new_lane : Lane
new_lane = record { sent = 0; worked = 0 }

-- the empty world
abbrev pub start : World
start = record { slots = λ _. new_slot; lanes = λ _. new_lane; feed = []; clock = []; journal = [] }

-- an item with its place among all that are due to the slot, and the number of its opening
pub record Placed : Type 0 where
  pub place : ℕ
  pub opening : ℕ
  pub item : Item

abbrev pub opening_after : Item → ℕ → ℕ
opening_after (Message m) opening = opening
opening_after (End name) opening = opening + 1

abbrev pub placed_from : ℕ → ℕ → List Item → List Placed
placed_from place opening [] = []
placed_from place opening (x ∷ xs) = record { place = place; opening = opening; item = x }
    ∷ placed_from (place + 1) (opening_after x opening) xs

abbrev pub placed : List Item → List Placed
placed items = placed_from 0 0 items

abbrev pub is_of_opening : ℕ → Cut → Bool
is_of_opening opening k = k.opening == opening

abbrev pub cut_of : List Cut → ℕ → Option Cut
cut_of cuts opening = find (is_of_opening opening) cuts

abbrev pub is_cut : List Cut → ℕ → Bool
is_cut cuts opening = list_any (is_of_opening opening) cuts

abbrev pub shown_by : Option Cut → Placed → List Item
shown_by None p = p.item ∷ []
shown_by (Some k) p =
    elim (nat_lt p.place k.place) [
      | true ↦ p.item ∷ []
      | false ↦ elim (p.place == k.place) [ true ↦ End OutboxFull ∷ [] | false ↦ [] ]
    ]

abbrev pub shown_at : List Cut → Placed → List Item
shown_at cuts p = shown_by (cut_of cuts p.opening) p

-- each cut opening replaced by its items before the cut and the terminator of a full outbox
unfoldable pub shown : List Item → List Cut → List Item
shown items cuts = flat_map (shown_at cuts) (placed items)

pub data Outcome : Type 0 where
  done empty full spent rows_full : Outcome

abbrev pub with_at : {A : Type 0} → (ℕ → A) → ℕ → A → ℕ → A
with_at f n x m = elim (m == n) [ true ↦ x | false ↦ f m ]

abbrev pub with_slot : World → ℕ → Slot → World
with_slot w slot x = record w { slots = with_at w.slots slot x }

abbrev pub with_lane : World → ℕ → Lane → World
with_lane w l x = record w { lanes = with_at w.lanes l x }

abbrev pub is_message : Item → Bool
is_message (Message m) = true
is_message (End name) = false

-- what was given and not taken away yet
abbrev pub outbox : Slot → List Item
outbox x = drop x.popped x.given

abbrev pub messages_in : List Item → ℕ
messages_in items = count_by is_message items

abbrev pub slot_of : Input → Option ℕ
slot_of (Opened slot version claims) = Some slot
slot_of (Frame slot bytes) = Some slot
slot_of (Gone slot) = Some slot
slot_of (Post slot claims ps) = Some slot
slot_of _ = None

abbrev pub is_tick : Input → Bool
is_tick (Tick m) = true
is_tick _ = false

abbrev pub is_uncut : List Cut → Placed → Bool
is_uncut cuts p = not (is_cut cuts p.opening)

abbrev pub put_inlet : ℕ → List Input → World → World
put_inlet slot inputs w = with_slot w slot (record (w.slots slot) { inlet = inputs })

abbrev pub put_feed : List Input → World → World
put_feed inputs w = record w { feed = inputs }

abbrev pub put_clock : List Input → World → World
put_clock inputs w = record w { clock = inputs }

abbrev pub with_given : Slot → Placed → Slot
with_given x p = record x { given = x.given ++ p.item ∷ []; past = p.place + 1 }

abbrev pub with_cut : Slot → Placed → Slot
with_cut x p =
    record x {
      given = x.given ++ End OutboxFull ∷ [];
      past = p.place + 1;
      cuts = x.cuts ++ record { opening = p.opening; place = p.place } ∷ [];
    }

abbrev pub pop : World → ℕ → Slot → List Item → Outcome × World
pop w slot x [] = (empty, w)
pop w slot x (i ∷ is) = (done, with_slot w slot (record x { popped = x.popped + 1 }))

abbrev pub work : World → ℕ → Lane → Outcome × World
work w l x = elim (x.worked == x.sent) [
  | true ↦ (empty, w)
  | false ↦ (done, with_lane w l (record x { worked = x.worked + 1 }))
]

module _ (c : Catalog) (s : Settings) where
  -- the lane of a slot
  abbrev pub lane_of : ℕ → ℕ
  lane_of slot = slot % s.workers

  abbrev pub lane_in : World → ℕ → Lane
  lane_in w slot = w.lanes (lane_of slot)

  -- the items that the lane's worker has made of a slot
  abbrev pub worked_items : World → ℕ → List Item
  worked_items w slot = items_for slot
      (answers_of_marks c s (take (lane_in w slot).worked (lane_marks c s w.journal (lane_of slot))))

  -- those from the slot's place on whose opening isn't cut
  unfoldable pub pending : World → ℕ → List Placed
  pending w slot = filter (is_uncut (w.slots slot).cuts) (drop (w.slots slot).past (placed (worked_items w slot)))

  -- the rows that the tables hold after a poll
  abbrev pub rows_left : List Input → Input → ℕ
  rows_left before (Poll changes) = sum_by length (tables_left c (story c s before) (Poll changes))
  rows_left before i = 0

  -- the first input of a list goes into the journal, where that has room for it
  abbrev pub take_input : World → (World → World) → Input → Outcome × World
  take_input w rest i =
      elim (nat_le s.inputs (length w.journal)) [
        | true ↦ (spent, w)
        | false ↦ elim (nat_lt s.rows (rows_left w.journal i)) [
          | true ↦ (rows_full, w)
          | false ↦ (done, record (rest w) { journal = i ∷ w.journal })
        ]
      ]

  abbrev pub take_first : World → List Input → (List Input → World → World) → Outcome × World
  take_first w [] put = (empty, w)
  take_first w (i ∷ rest) put = take_input w (put rest) i

  -- an input goes last into a list; where that is full it is lost
  abbrev pub arrive : World → List Input → (List Input → World → World) → Input → Outcome × World
  arrive w inputs put i = elim (nat_lt (length inputs) s.inlet) [
    | true ↦ (done, put (inputs ++ i ∷ []) w)
    | false ↦ (full, w)
  ]

  abbrev pub arrive_at : World → Input → Option ℕ → Outcome × World
  arrive_at w i None = (full, w)
  arrive_at w i (Some slot) = arrive w (w.slots slot).inlet (put_inlet slot) i

  abbrev pub feed_with : World → Input → Outcome × World
  feed_with w i = elim (is_tick i) [ true ↦ arrive w w.clock put_clock i | false ↦ arrive w w.feed put_feed i ]

  abbrev pub send : World → ℕ → Lane → Outcome × World
  send w l x =
      elim (x.sent == length (lane_marks c s w.journal l)) [
        | true ↦ (empty, w)
        | false ↦ elim (x.sent - x.worked == s.lane) [
          | true ↦ (full, w)
          | false ↦ (done, with_lane w l (record x { sent = x.sent + 1 }))
        ]
      ]

  -- a message finds no place where the outbox holds `capacity` messages; a terminator always has its place
  abbrev pub is_full_for : Slot → Item → Bool
  is_full_for x front = is_message front && nat_le s.capacity (messages_in (outbox x))

  abbrev pub push : World → ℕ → Slot → List Placed → Outcome × World
  push w slot x [] = (empty, w)
  push w slot x (p ∷ ps) = elim (is_full_for x p.item) [
    | true ↦ (full, with_slot w slot (with_cut x p))
    | false ↦ (done, with_slot w slot (with_given x p))
  ]

  -- one step: its answer, and the world after it
  unfoldable pub step_of : World → Step → Outcome × World
  step_of w (Arrive i) = arrive_at w i (slot_of i)
  step_of w (Feed i) = feed_with w i
  step_of w (Take slot) = take_first w (w.slots slot).inlet (put_inlet slot)
  step_of w TakeFeed = take_first w w.feed put_feed
  step_of w TakeClock = take_first w w.clock put_clock
  step_of w (Send l) = send w l (w.lanes l)
  step_of w (Work l) = work w l (w.lanes l)
  step_of w (Push slot) = push w slot (w.slots slot) (pending w slot)
  step_of w (Pop slot) = pop w slot (w.slots slot) (outbox (w.slots slot))

  -- the world after steps
  unfoldable pub run : List Step → World → World
  run [] w = w
  run (x ∷ xs) w = run xs (step_of w x).1

  -- the slot's worker has nothing left to do for it
  pub record IsAtRest (w : World) (slot : ℕ) : Type 0 where
    pub sent : (lane_in w slot).sent ≡ length (lane_marks c s w.journal (lane_of slot))
    pub worked : (lane_in w slot).worked ≡ (lane_in w slot).sent
    pub nothing : pending w slot ≡ []
