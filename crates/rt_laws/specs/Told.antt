-- Every message that a journal's inputs answer can be read.
use Rattle.std.specs.Prelude.{ℕ, ◌<◌, ◌^◌, List, ◌∷◌, length, Contains}
use Rattle.std.specs.List.{AllByRecursion}
use Rattle.rt_phx.specs.declared.message.Message.{Message}
use Rattle.rt_catalog.specs.declared.catalog.Catalog.{Catalog}
use Rattle.rt_catalog.specs.Names.{HasReadableNames}
use Rattle.rt_entry.specs.declared.input.Input.{Input}
use Rattle.rt_entry.specs.declared.input.Settings.{Settings}
use Rattle.rt_entry.specs.declared.answer.Answer.TheVariants.{Says}
use Rattle.rt_entry.specs.Answers.{answers}
use Rattle.rt_entry.specs.Readable.{payload_levels, IsReadable, IsOfLines}

module _ (c : Catalog) (s : Settings) where
  -- where the catalogue's names are UTF-8 and each change was bound of a line's record; frames may be any bytes
  abbrev pub AnswersAreReadable : Type 0
  AnswersAreReadable =
      HasReadableNames c
      → (before : List Input) (i : Input) (slot : ℕ) (m : Message)
      → length before < 2 ^ 64 → AllByRecursion (IsOfLines c) (i ∷ before)
      → Contains (answers c s before i) (slot, Says m)
      → IsReadable payload_levels m
