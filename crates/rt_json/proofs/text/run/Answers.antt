use Rattle.std.proofs.Common.{◌≡◌, List, ℕ, ◌-◌, ◌++◌, ◌∙◌, ap, sym, subst, take, drop}
use Rattle.std.specs.Prelude.{IsUtf8}
use Rattle.rt_json.specs.Machine as m
use Rattle.rt_json.specs.Reads.{at_text}
use Rattle.rt_json.proofs.Prefixes.{plain_slice, same_part}
use Rattle.rt_json.proofs.Runs.{run_outcome}
use Rattle.rt_json.proofs.Steps.{slice_rest}
use Rattle.rt_json.proofs.text.run.Goals as goal

pub returns-in-Some : goal.returns-in-Some
returns-in-Some c = λ stack slot t.
    let bytes = c.args.bytes.now in
    let at = c.args.at in
    let to = c.args.to in
    let run : List ℕ = take (to - at) (drop at bytes) in
    let plain = plain_slice bytes at to c.requires.order c.requires.within c.requires.run in
    let is : c.in-Some.text.now ≡ run = c.in-Some.ensures.cases.0 ∙ same_part bytes c.args.known.now c.requires.known.0 c.args.from at to c.requires.from c.requires.order c.in-Some.ensures.cases.2 c.requires.known.1 in
    ap (at_text stack slot t m.between) (slice_rest bytes at to c.requires.order)
    ∙ run_outcome stack slot t run (drop to bytes) (subst IsUtf8 (c.as_bytes-bytes.ensures.value ∙ is) c.as_bytes-bytes.ensures.utf8) plain
    ∙ ap (λ (xs : List ℕ). at_text stack slot (t ++ xs) m.between (drop to bytes)) (sym is)
