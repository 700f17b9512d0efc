-- Two plain runs of the same lines give each slot the same.
use Rattle.std.proofs.Common.{◌≡◌, ℕ, ◌<◌, List, reverse, sym, ap, ◌∙◌}
use Rattle.rt_catalog.specs.declared.catalog.Catalog.{Catalog}
use Rattle.rt_entry.specs.Story.{slot_count}
use Rattle.rt_entry.specs.Answers.{due}
use Rattle.rt_entry.specs.Machine.{World}
use Rattle.rt_script.specs.declared.script.Script.{Script}
use Rattle.rt_script.specs.declared.script.Line.{Line}
use Rattle.rt_script.specs.Running.{ends, IsRun}
use Rattle.rt_plain.specs.Plain.{IsPlain, inputs_of}
use Rattle.rt_plain.proofs.Free.{same_due}
use Rattle.rt_plain.proofs.Taken.{gives_all}

pub same_given : (c : Catalog) (one two : Script) (v w : World) → IsPlain one → IsPlain two → one.steps ≡ two.steps
    → one.settings.secret ≡ two.settings.secret → one.settings.max_record ≡ two.settings.max_record
    → IsRun c one (ends v) → IsRun c two (ends w) → (slot : ℕ) → slot < slot_count
    → (v.slots slot).given ≡ (w.slots slot).given
same_given c one two v w p q e f g r t slot lt =
    (gives_all c one v p r).given slot lt
    ∙ ap (λ (ls : List Line). due c one.settings (reverse (inputs_of ls)) slot) e
    ∙ same_due c one.settings two.settings f g (reverse (inputs_of two.steps)) slot
    ∙ sym ((gives_all c two w q t).given slot lt)
