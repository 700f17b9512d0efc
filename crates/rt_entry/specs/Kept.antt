-- What a lane's worker keeps of a slot, and how answers change it.
use Rattle.std.specs.Prelude.{ℕ, Bool, true, false, List, [], ◌∷◌, ◌++◌, drop}
use Rattle.rt_phx.specs.declared.message.Version.{Version}
use Rattle.rt_phx.specs.Frame.{spelled}
use Rattle.rt_entry.specs.declared.answer.Answer.{Answer}
use Rattle.rt_entry.specs.declared.answer.Answer.TheVariants.{Opened as opened, Says as says, Ended as ended}
use Rattle.rt_entry.specs.declared.answer.Item.{Item}
use Rattle.rt_entry.specs.declared.answer.Item.TheVariants.{Message, End}
use Rattle.rt_entry.specs.Machine.{opening_after}

pub record Kept : Type 0 where
  -- that of the slot's last opening
  pub version : Version
  -- whether the opening that the slot's next item is of is cut
  pub is_cut : Bool
  -- what is pending
  pub items : List Item

abbrev pub keep : Version → Bool → List Item → Kept
keep version is_cut items = record { version = version; is_cut = is_cut; items = items }

-- an item more; of an opening that is cut nothing is pending
abbrev pub item_more : Bool → List Item → Item → List Item
item_more true items x = items
item_more false items x = items ++ x ∷ []

-- a terminator is the last item of its opening, and the next one isn't cut
abbrev pub kept_by : Kept → Answer → Kept
kept_by k (opened version) = keep version k.is_cut k.items
kept_by k (says m) = keep k.version k.is_cut (item_more k.is_cut k.items (Message (spelled k.version m)))
kept_by k (ended name) = keep k.version false (item_more k.is_cut k.items (End name))

abbrev pub kept_after : Kept → List Answer → Kept
kept_after k [] = k
kept_after k (x ∷ xs) = kept_after (kept_by k x) xs

-- the number of the opening that the next item behind items is of
abbrev pub opening_behind : ℕ → List Item → ℕ
opening_behind opening [] = opening
opening_behind opening (x ∷ xs) = opening_behind (opening_after x opening) xs

-- What a push makes of what a worker keeps: the first item goes into the outbox.
abbrev pub kept_pushed : Kept → Kept
kept_pushed k = keep k.version k.is_cut (drop 1 k.items)

-- Where the outbox is full for it, nothing more of its opening is pending: what is behind the opening's terminator is
-- left, and without one the opening that the next item is of is cut.
abbrev pub shut : Version → Bool → List Item → Kept
shut v b [] = keep v true []
shut v b (Message m ∷ items) = shut v b items
shut v b (End name ∷ items) = keep v b items

abbrev pub kept_shut : Kept → Kept
kept_shut k = shut k.version k.is_cut k.items
