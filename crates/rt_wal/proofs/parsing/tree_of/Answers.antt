use Rattle.rt_wal.proofs.parsing.tree_of.Goals as goal

-- a tree of the line would have been answered
pub returns-in-Err-Bad : goal.returns-in-Err-Bad
returns-in-Err-Bad c = rw c.not_json.ensures (λ tree h. rw c.in-Err-Bad.field-0-is at (c.in-Err-Bad.ensures.only tree h))

pub returns-in-Err-TooDeep : goal.returns-in-Err-TooDeep
returns-in-Err-TooDeep c =
    rw c.not_json-in-Err-TooDeep.ensures (λ tree h. rw c.in-Err-TooDeep.field-0-is at (c.in-Err-TooDeep.ensures.only tree h))
