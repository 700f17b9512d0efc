-- What a client can read: a message whose texts are UTF-8, whose numbers are numbers of the grammar, and whose payload
-- nests only so deep.
use Rattle.std.specs.Prelude.{ℕ, All, IsUtf8, ⊤}
use Rattle.rt_json.specs.Fits.{FitsWithin}
use Rattle.rt_phx.specs.declared.message.Message.{Message}
use Rattle.rt_phx.specs.Fits.{IsRef, IsPosted}
use Rattle.rt_catalog.specs.declared.catalog.Catalog.{Catalog}
use Rattle.rt_change.specs.Binding.{IsOfLine}
use Rattle.rt_entry.specs.declared.input.Input.{Input}
use Rattle.rt_entry.specs.declared.input.Input.TheVariants.{Post, Poll}

pub record IsReadable (levels : ℕ) (m : Message) : Type 0 where
  pub join_ref : IsRef m.join_ref
  pub reference : IsRef m.reference
  pub topic : IsUtf8 m.topic
  pub event : IsUtf8 m.event
  pub payload : FitsWithin levels m.payload

-- How deep a payload of the server nests. A tree that is shown of a JSON column nests in 64 levels, whether a line has
-- it or a text of it is read, so the record in 65, the change in 66, and its message's payload in 67. A frame nests in
-- 64 levels, so its payload in 63 and the object that it tracks in 62. The members of that object stand in a meta (62),
-- which stands in a list (63) under `metas` (64) under its key (65) among the joins or the leaves of a difference (66).
-- No other payload nests deeper: that of a posted message nests in 61 levels, and what its channels are told in 62.
abbrev pub payload_levels : ℕ
payload_levels = 67

-- a poll's changes are each that of a line, and a post's messages those of a body of JSON
abbrev pub IsOfLines : Catalog → Input → Type 0
IsOfLines c (Post slot claims ps) = All IsPosted ps
IsOfLines c (Poll changes) = All (IsOfLine c) changes
IsOfLines c _ = ⊤
