-- What a clause sees of the ends of a queue.
use Rattle.std.specs.Prelude.{ℕ, List}
use Rattle.atomic_table.specs.Seated.{TableId}

-- the sending end: the queue that it is of, how many items that one may hold, and what was sent, oldest first
pub record Sender (T : Type 0) : Type 0 where
  pub queue : TableId
  pub capacity : ℕ
  pub sent : List T

-- the receiving end: the queue that it is of, and what was received, oldest first
pub record Receiver (T : Type 0) : Type 0 where
  pub queue : TableId
  pub received : List T

-- the joined ends: what was sent, and what of it was received
pub record Joined (T : Type 0) : Type 0 where
  pub sent : List T
  pub received : List T
