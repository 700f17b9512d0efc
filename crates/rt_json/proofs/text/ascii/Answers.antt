use Rattle.std.proofs.Common.{List, ℕ, ◌-◌, ◌++◌, ◌∙◌, ap, sym, take, drop}
use Rattle.rt_json.specs.Machine as m
use Rattle.rt_json.specs.Reads.{at_text}
use Rattle.rt_json.proofs.Prefixes.{ascii_slice, ascii_plain, ascii_utf8}
use Rattle.rt_json.proofs.Runs.{run_outcome}
use Rattle.rt_json.proofs.Steps.{slice_rest}
use Rattle.rt_json.proofs.text.ascii.Goals as goal

pub from_utf8_unchecked-requires : goal.from_utf8_unchecked-requires
from_utf8_unchecked-requires c = ascii_utf8 _ (ascii_slice c.args.bytes.now c.args.from c.args.to c.requires.run)

pub returns : goal.returns
returns c = λ stack slot t.
    let bytes = c.args.bytes.now in
    let from = c.args.from in
    let to = c.args.to in
    let run : List ℕ = take (to - from) (drop from bytes) in
    let each = ascii_slice bytes from to c.requires.run in
    ap (at_text stack slot t m.between) (slice_rest bytes from to c.requires.order)
    ∙ run_outcome stack slot t run (drop to bytes) (ascii_utf8 run each) (ascii_plain run each)
    ∙ ap (λ (xs : List ℕ). at_text stack slot (t ++ xs) m.between (drop to bytes)) (sym c.from_utf8_unchecked.ensures)
