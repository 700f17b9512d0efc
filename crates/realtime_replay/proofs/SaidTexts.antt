-- What the error stream is given by one text behind another.
use Rattle.std.proofs.Common.{◌≡◌, ◌∙◌, ◌++◌, ◌+◌, ℕ, List, Option, Some, None, length, take, ap, sym, subst}
use Rattle.std.proofs.Common.{append_assoc, arith, codes, inl, inr}
use Rattle.std.proofs.lemmas.List.{length-append, take-append-le}
use Rattle.std.proofs.Math.Seq.{take-append-add}
use Rattle.rt_io.specs.Streams.{Puts, Rose}
use Rattle.rt_io.specs.Whole.{PutsFront}
use Rattle.realtime_replay.specs.Flows.{flow}
use Rattle.realtime_replay.specs.Lines.{Said}

puts_both : (old mid new : Option (List ℕ)) (a b : List ℕ) → Puts old mid a → Puts mid new b → Puts old new (a ++ b)
puts_both None mid new a b p q = tt
puts_both (Some held) mid new a b p q =
    let e : new ≡ Some ((held ++ a) ++ b) = subst (λ m. Puts m new b) p q in
    e ∙ ap Some (append_assoc held a b)

-- some first bytes of a text are some of a longer one
front_longer : (old new : Option (List ℕ)) (a b : List ℕ) → PutsFront old new a → PutsFront old new (a ++ b)
front_longer old new a b (n, le, put) = (
  n,
  omega (arith, le, length-append a b),
  subst (Puts old new) (sym (take-append-le n a b le)) put,
)

front_behind : (old mid new : Option (List ℕ)) (a b : List ℕ) → Puts old mid a → PutsFront mid new b
    → PutsFront old new (a ++ b)
front_behind old mid new a b p (n, le, put) = (
  length a + n,
  omega (arith, le, length-append a b),
  subst (Puts old new) (sym (take-append-add a b n)) (puts_both old mid new a (take n b) p put),
)

-- where the first text can't be said, nothing is said behind it
pub said_in_part : (old new : Option (List ℕ)) (failed failed_after : ℕ) (a b : List ℕ) → Rose failed failed_after
    → PutsFront old new a → Said (flow old new failed failed_after) (a ++ b)
said_in_part old new failed failed_after a b rose front = inr (rose, front_longer old new a b front)

pub said_behind : (old mid new : Option (List ℕ)) (failed between failed_after : ℕ) (a b : List ℕ) → Puts old mid a
    → between ≡ failed → Said (flow mid new between failed_after) b → Said (flow old new failed failed_after) (a ++ b)
said_behind old mid new failed between failed_after a b put same (inl more) = inl (puts_both old mid new a b put more)
said_behind old mid new failed between failed_after a b put same (inr (rose, front)) =
    inr (subst (λ n. Rose n failed_after) same rose, front_behind old mid new a b put front)

-- the line of a refused line, whose number is written in these digits
pub line_said : (old new : Option (List ℕ)) (failed failed_after : ℕ) (digits number : List ℕ) → digits ≡ number
    → Said (flow old new failed failed_after) (codes "script: line " ++ digits ++ codes ": form\n")
    → Said (flow old new failed failed_after) (codes "script: line " ++ number ++ codes ": form\n")
line_said old new failed failed_after digits number same said =
    subst (λ t. Said (flow old new failed failed_after) (codes "script: line " ++ t ++ codes ": form\n")) same said
