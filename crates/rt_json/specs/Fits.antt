-- The trees whose spelling is read again.
use Rattle.std.specs.Prelude.{ℕ, zero, suc, IsUtf8}
use Rattle.std.specs.List.{AllByRecursion}
use Rattle.rt_json.specs.Grammar.{max_levels}
use Rattle.rt_json.specs.Text.{IsNumber}
use Rattle.rt_json.specs.declared.tree.Json.{Json, out-Json}
use Rattle.rt_json.specs.declared.tree.Json.TheOpen.{Json-F}
use Rattle.rt_json.specs.declared.tree.named.Member.{Member}

abbrev pub FitsFlat : Json-F Json Member → Type 0
FitsFlat Json-F.Null = Unit {0}
FitsFlat (Json-F.Bool b) = Unit {0}
FitsFlat (Json-F.Num text) = IsNumber text
FitsFlat (Json-F.Text text) = IsUtf8 text
FitsFlat (Json-F.List items) = ⊥
FitsFlat (Json-F.Object members) = ⊥

abbrev pub FitsOver : (Json → Type 0) → Json-F Json Member → Type 0
FitsOver F (Json-F.List items) = AllByRecursion F items
FitsOver F (Json-F.Object members) = AllByRecursion (λ m. IsUtf8 m.name × F m.value) members
FitsOver F flat = FitsFlat flat

-- lists and objects nest in at most so many levels, numbers are numbers of the grammar, and texts are UTF-8
abbrev pub FitsWithin : ℕ → Json → Type 0
FitsWithin zero tree = FitsFlat (out-Json tree)
FitsWithin (suc levels) tree = FitsOver (FitsWithin levels) (out-Json tree)

abbrev pub NestsFlat : Json-F Json Member → Type 0
NestsFlat (Json-F.Num text) = IsNumber text
NestsFlat (Json-F.List items) = ⊥
NestsFlat (Json-F.Object members) = ⊥
NestsFlat flat = Unit {0}

abbrev pub NestsOver : (Json → Type 0) → Json-F Json Member → Type 0
NestsOver N (Json-F.List items) = AllByRecursion N items
NestsOver N (Json-F.Object members) = AllByRecursion (λ m. N m.value) members
NestsOver N flat = NestsFlat flat

-- as `FitsWithin`, whatever the texts are
abbrev pub NestsWithin : ℕ → Json → Type 0
NestsWithin zero tree = NestsFlat (out-Json tree)
NestsWithin (suc levels) tree = NestsOver (NestsWithin levels) (out-Json tree)

-- lists and objects nest in at most 64 levels, and numbers are numbers of the grammar
unfoldable pub IsWellNested : Json → Type 0
IsWellNested tree = NestsWithin max_levels tree

-- the texts in the tree are UTF-8: wherever it nests it fits
abbrev pub HasUtf8Texts : Json → Type 0
HasUtf8Texts tree = (levels : ℕ) → NestsWithin levels tree → FitsWithin levels tree

abbrev pub HasUtf8Member : Member → Type 0
HasUtf8Member m = IsUtf8 m.name × HasUtf8Texts m.value
