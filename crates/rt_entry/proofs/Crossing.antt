-- Inputs and entries may be given to a thread, and shared by threads, since what they hold may.
use mathlib.Core.Path.{refl}
use denote.RattleType.{RattleType}
use denote.Param.Send.{sendable}
use denote.Param.SendFields.{as_row_send, as_row_sync, declared_send, declared_sync}
use Rattle.rt_value.specs.contracts.bytes.Bytes as Bytes
use Rattle.rt_value.specs.contracts.claims.Claims as Claims
use Rattle.rt_value.specs.contracts.list.List as List
use Rattle.rt_value.specs.contracts.text.Text as Text
use Rattle.rt_value.proofs.Crossing.{List-send, List-sync}
use Rattle.rt_json.specs.contracts.tree.Json as Json
use Rattle.rt_phx.specs.contracts.end.EndName as EndName
use Rattle.rt_phx.specs.contracts.message.Posting as Posting
use Rattle.rt_phx.specs.contracts.message.Version as Version
use Rattle.rt_phx.specs.contracts.said.Said as Said
use Rattle.rt_change.specs.contracts.change.Change as Change
use Rattle.rt_registry.proofs.Variants.{Crosses, enum_sends, enum_syncs, shared_send, shared_sync}
use Rattle.rt_registry.specs.contracts.subscriptions.Subscriptions as Subscriptions
use Rattle.rt_replica.specs.contracts.tables.Tables as Tables
use Rattle.rt_entry.specs.contracts.entry.ChannelView as ChannelView
use Rattle.rt_entry.specs.contracts.entry.Entry as Entry
use Rattle.rt_entry.specs.contracts.input.Input as Input
use Rattle.rt_entry.specs.contracts.views.ChannelViews as ChannelViews

-- the changes of a poll
abbrev Changes : RattleType
Changes = List.the_row Change.the_row

pub changes_cross : Crosses Change.the_row → Crosses Changes
changes_cross c = (List-send Change.the_row c.0, List-sync Change.the_row c.1)

ruleset wholes = (sendable, as_row_send, as_row_sync, List-send, List-sync)

module _ (text : Crosses Text.the_row) (json : Crosses Json.the_row) where
  pub ChannelView-crosses : Crosses ChannelView.the_row
  ChannelView-crosses = (
    declared_send ChannelView.the_type (search (wholes, text.0, json.0) depth 10),
    declared_sync ChannelView.the_type (search (wholes, text.1, json.1) depth 10),
  )

module _ (version : Crosses Version.the_row) (claims : Crosses Claims.the_row) (bytes : Crosses Bytes.the_row)
    (posting : Crosses Posting.the_row) (changes : Crosses Changes) where
  pub Input-crosses : Crosses Input.the_row
  Input-crosses = (
    enum_sends Input.the_type _ (λ d. refl)
        (search (wholes, shared_send, version.0, claims.0, bytes.0, posting.0, changes.0, changes.1) depth 10),
    enum_syncs Input.the_type _ (λ d. refl)
        (search (wholes, shared_sync, version.1, claims.1, bytes.1, posting.1, changes.0, changes.1) depth 10),
  )

module _ (version : Crosses Version.the_row) (name : Crosses EndName.the_row) (said : Crosses Said.the_row)
    (changes : Crosses Changes) (tables : Crosses Tables.the_row) (subscriptions : Crosses Subscriptions.the_row)
    (views : Crosses ChannelViews.the_row) where
  pub Entry-crosses : Crosses Entry.the_row
  Entry-crosses = (
    enum_sends Entry.the_type _ (λ d. refl)
        (search (
          wholes,
          shared_send,
          version.0,
          name.0,
          said.0,
          changes.0,
          changes.1,
          tables.0,
          tables.1,
          subscriptions.0,
          views.0,
        ) depth 10),
    enum_syncs Entry.the_type _ (λ d. refl)
        (search (
          wholes,
          shared_sync,
          version.1,
          name.1,
          said.1,
          changes.0,
          changes.1,
          tables.0,
          tables.1,
          subscriptions.1,
          views.1,
        ) depth 10),
  )
