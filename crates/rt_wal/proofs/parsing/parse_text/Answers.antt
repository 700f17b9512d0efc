use Rattle.std.proofs.Common.{sym, ap, ◌∙◌, Some}
use Rattle.rt_wal.proofs.parsing.parse_text.Goals as goal

-- the shape has no commit time yet
pub returns : goal.returns
returns c =
    let shape = c.in-Some.record in
    let untimed = rw c.in-Some.is at c.in_ok-record.ensures.untimed in
    record {
      tree = c.in_ok-tree.tree;
      is_json = c.in_ok-tree.ensures;
      shape = sym c.in_ok-record.ensures.shape ∙ c.in-Some.is ∙ ap (λ m. Some (record shape { moment = m })) untimed;
      time = c.in_ok-moment.ensures;
    }
