-- What clients hold at the places of a run, by what they were told and by what their slots were given.
use Rattle.std.proofs.Common.{◌≡◌, ◌+◌, ◌<◌, List, ◌++◌, map, length, sym, ap, subst, ◌∙◌, arith, length-append}
use Rattle.std.specs.Prelude.{◌^◌, IsPermutation}
use Rattle.rt_phx.specs.declared.message.Message.{Message}
use Rattle.rt_catalog.specs.declared.catalog.Catalog.{Catalog}
use Rattle.rt_entry.specs.declared.input.Input.{Input}
use Rattle.rt_entry.specs.declared.input.Settings.{Settings}
use Rattle.rt_entry.specs.declared.input.Step.{Step}
use Rattle.rt_entry.specs.Story.{members_at}
use Rattle.rt_entry.specs.Doings.{story}
use Rattle.rt_entry.specs.Machine.{start, run}
use Rattle.rt_entry.specs.Messages.{shown_meta}
use Rattle.rt_entry.specs.Presence.{client_view, present_behind, last_items, given_after, given_of, IsUpTo}
use Rattle.rt_entry.specs.Presence.{HoldsPresent, TakenClientsAgree, OpeningsAgree, GivenClientsAgree}
use Rattle.rt_entry.specs.declared.story.Opening.{Opening}
use Rattle.rt_entry.specs.declared.story.Channel.{Channel}
use Rattle.rt_entry.specs.declared.answer.Item.{Item}
use Rattle.rt_value.proofs.Among.{from_contains}
use Rattle.rt_value.proofs.Moves.{permuted}
use Rattle.rt_laws.proofs.Agree.{agrees, clients_agree}
use Rattle.rt_laws.proofs.Since.{due_since, since_on}
use Rattle.rt_laws.proofs.Within.{journal_within}

module _ (c : Catalog) (s : Settings) where
  pub short_before : s.inputs < 2 ^ 32 → (steps : List Step) (later before : List Input)
      → (run c s steps start).journal ≡ later ++ before
      → length before < 2 ^ 64
  short_before few steps later before taken =
      let within = journal_within c s steps in
      let long : length (run c s steps start).journal ≡ length later + length before = ap length taken
      ∙ length-append later before in
      omega arith

  pub taken_agree : TakenClientsAgree c s
  taken_agree few steps later before taken = clients_agree c s before (short_before few steps later before taken)

  holds_given : (before : List Input) (ch : Channel) (o : Opening) (given : List Item) → length before < 2 ^ 64
      → IsUpTo c s given before ch o
      → HoldsPresent c s given before ch o
  holds_given before ch o given short u =
      let here = from_contains (members_at (story c s before)) ch u.member in
      let d = due_since c s before ch o here u.opening in
      let present = map shown_meta (present_behind c s before ch.topic) in
      record {
        front = d.0;
        whole = u.items ∙ d.1;
        holds = λ held.
            let P : List Message → Type 0 = λ ms. IsPermutation (client_view held ms) present in
            subst P (sym (since_on c s ch before)) (permuted _ _ (agrees c s before ch held short here u.enabled));
      }

  pub openings_agree : OpeningsAgree c s
  openings_agree few steps later before ch o number place taken u =
      holds_given before ch o (given_of c s steps ch.slot number place) (short_before few steps later before taken) u

  pub given_agree : GivenClientsAgree c s
  given_agree few steps later before ch o taken u =
      holds_given before ch o (last_items (given_after c s steps ch.slot)) (short_before few steps later before taken) u
