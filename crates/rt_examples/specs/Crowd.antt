-- A slot with a hundred channels, as many as it may have: a join of a topic that it is on closes the former channel and
-- is accepted, since the former doesn't count; a join of another topic is refused.
use Rattle.std.specs.Prelude.{◌≡◌, ℕ, zero, suc, List, [], ◌∷◌, ◌++◌, codes}
use Rattle.std.specs.Fmt.{decimal}
use Rattle.rt_phx.specs.declared.message.Version.TheVariants.{V1}
use Rattle.rt_entry.specs.declared.input.Input.{Input}
use Rattle.rt_entry.specs.declared.input.Input.TheVariants.{Opened, Frame}
use Rattle.rt_entry.specs.declared.answer.Item.{Item}
use Rattle.rt_entry.specs.declared.answer.Item.TheVariants.{Message}
use Rattle.rt_entry.specs.Answers.{answers, items_for}
use Rattle.rt_examples.specs.Notes.{notes, settings, authenticated}
use Rattle.rt_examples.specs.Texts.{said, join_of, accepted, refused}

abbrev pub topic : ℕ → List ℕ
topic n = codes "realtime:" ++ decimal n

abbrev pub join : ℕ → List ℕ → Input
join n ref = Frame 0 (join_of (topic n) (codes "{\"presence\":{\"enabled\":false}}") ref)

-- slot 0 opens, and joins the topics of all numbers below one; the newest first
abbrev pub joined : ℕ → List Input
joined zero = Opened 0 V1 authenticated ∷ []
joined (suc n) = join n (codes "\"1\"") ∷ joined n

-- what the slot gets of a join behind a hundred others
abbrev pub given : ℕ → List Item
given n = items_for 0 (answers notes settings (joined 100) (join n (codes "\"2\"")))

abbrev pub FormerIsNotCounted : Type 0
FormerIsNotCounted =
    given 7 ≡
    Message (said (topic 7) (codes "phx_close") (codes "{}") (codes "\"1\""))
    ∷ accepted (topic 7) (codes "{\"postgres_changes\":[]}") (codes "\"2\"") ∷ []

abbrev pub OneMoreIsRefused : Type 0
OneMoreIsRefused = given 100 ≡ refused (topic 100) (codes "too many channels") (codes "\"2\"") ∷ []
