use Rattle.std.specs.Io.BufRead.{FillKeeps}
use Rattle.std.proofs.Common.{List, ℕ, true, false, subst}
use Rattle.json_lines.specs.Parts.{IsWhole, IsPart}
use Rattle.json_lines.proofs.Shown.{shown, ok_is}
use Rattle.json_lines.proofs.lines.read_part.Goals as goal

pub returns : goal.returns
returns g c =
    let left = g.R.Read.remaining in
    let rested = c.fill_buf.follows.lender-at-none in
    let limit = g.R.BufRead.consumable_len rested in
    let bytes = c.in-Ok.bytes.now in
    let end = c.part_end-end in
    let filled = subst (FillKeeps (left c.args.input.now) (left rested) limit) c.in-Ok.is c.fill_buf.follows.holds-at-none in
    let goes = λ (IsTaken : List ℕ → List ℕ → List ℕ → Type 0). shown IsTaken (left c.args.input.now) (left rested) (left c.consume.new.self) limit c.args.line.now.items c.extend_from_slice.new.self.items bytes end.result.0
    end.ensures.within c.in-Ok.ensures.front c.in-Ok.ensures.end filled.0 filled.1 c.consume.ensures.bytes c.in_ok-extend_from_slice.ensures.items in
    record {
      whole = λ e. goes IsWhole (end.ensures.whole (ok_is end.result.1 true e));
      part = λ e. goes IsPart (λ rest _. end.ensures.part (ok_is end.result.1 false e) rest);
    }
