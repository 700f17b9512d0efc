use Rattle.std.proofs.Common.{◌≡◌, ℕ, ◌-◌, List, ◌++◌, ap, sym, ◌∙◌, take, drop, length, length-drop}
use Rattle.rt_json.specs.Machine as m
use Rattle.rt_json.specs.Machine.{bad}
use Rattle.rt_json.specs.Reads.{past_plain, at_text}
use Rattle.rt_json.proofs.Prefixes.{plain_slice}
use Rattle.rt_json.proofs.Runs.{plain_stops, run_outcome}
use Rattle.rt_json.proofs.Steps.{slice_rest}
use Rattle.rt_json.proofs.text.utf8.Goals as goal

pub broken-requires-clause-plain : goal.broken-requires-clause-plain
broken-requires-clause-plain c = plain_slice c.args.bytes.now c.args.from c.args.to c.requires.order c.requires.within c.requires.run

pub returns-in-Ok : goal.returns-in-Ok
returns-in-Ok c = λ stack slot t.
    let bytes = c.args.bytes.now in
    let from = c.args.from in
    let to = c.args.to in
    let run : List ℕ = take (to - from) (drop from bytes) in
    let plain = plain_slice bytes from to c.requires.order c.requires.within c.requires.run in
    ap (at_text stack slot t m.between) (slice_rest bytes from to c.requires.order)
    ∙ run_outcome stack slot t run (drop to bytes) c.in-Ok.ensures.cases.1 plain
    ∙ ap (λ (xs : List ℕ). at_text stack slot (t ++ xs) m.between (drop to bytes)) (sym c.in-Ok.ensures.cases.0)

pub returns-in-Err : goal.returns-in-Err
returns-in-Err c = λ stack slot t.
    let bytes = c.args.bytes.now in
    let from = c.args.from in
    let to = c.args.to in
    let run : List ℕ = take (to - from) (drop from bytes) in
    let stops : past_plain (drop to bytes) ≡ drop to bytes = ap past_plain c.requires.run ∙ plain_stops (drop from bytes) ∙ sym c.requires.run in
    let whole = slice_rest bytes from to c.requires.order in
    let count : length (run ++ drop to bytes) - c.broken.result ≡ length bytes - from - c.broken.result = ap (λ (n : ℕ). n - c.broken.result) (ap length (sym whole) ∙ length-drop from bytes) in
    ap (at_text stack slot t m.between) whole ∙ c.broken.ensures.1 (drop to bytes) stops stack slot t ∙ ap bad count
