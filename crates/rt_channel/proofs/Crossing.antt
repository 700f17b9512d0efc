-- What a socket asks for may be given to a thread, and shared by threads, since what it holds may.
use mathlib.Core.Path.{refl}
use denote.Param.Send.{sendable}
use denote.Param.SendFields.{as_row_send, as_row_sync, declared_send, declared_sync}
use Rattle.rt_value.specs.contracts.claims.Claims as Claims
use Rattle.rt_value.specs.contracts.text.Text as Text
use Rattle.rt_value.proofs.Crossing.{List-send, List-sync}
use Rattle.rt_json.specs.contracts.tree.Json as Json
use Rattle.rt_phx.specs.contracts.end.EndName as EndName
use Rattle.rt_phx.specs.contracts.message.Message as Message
use Rattle.rt_registry.specs.contracts.binding.Binding as Binding
use Rattle.rt_registry.proofs.Variants.{Crosses, enum_sends, enum_syncs, shared_send, shared_sync}
use Rattle.rt_channel.specs.contracts.effect.Effect as Effect
use Rattle.rt_channel.specs.contracts.effect.Wish as Wish

ruleset wholes = (sendable, as_row_send, as_row_sync, List-send, List-sync, shared_send, shared_sync)

module _ (text : Crosses Text.the_row) (json : Crosses Json.the_row) (claims : Crosses Claims.the_row)
    (binding : Crosses Binding.the_row) where
  Wish-crosses : Crosses Wish.the_row
  Wish-crosses = (
    declared_send Wish.the_type (search (wholes, text.0, json.0, claims.0, claims.1, binding.0) depth 10),
    declared_sync Wish.the_type (search (wholes, text.1, json.1, claims.0, claims.1, binding.1) depth 10),
  )

  pub Effect-crosses : Crosses Message.the_row → Crosses EndName.the_row → Crosses Effect.the_row
  Effect-crosses message name =
      let wish = Wish-crosses in (
        enum_sends Effect.the_type _ (λ d. refl)
            (search (wholes, text.0, json.0, claims.0, claims.1, message.0, name.0, wish.0) depth 10),
        enum_syncs Effect.the_type _ (λ d. refl)
            (search (wholes, text.1, json.1, claims.0, claims.1, message.1, name.1, wish.1) depth 10),
      )
