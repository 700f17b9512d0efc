use Rattle.std.proofs.Common.{◌≡◌, ◌++◌, ◌∷◌, drop}
use Rattle.std.specs.Prelude.{IsUtf8}
use Rattle.std.specs.List.{AllByRecursion}
use Rattle.rt_json.specs.Fits.{HasUtf8Texts, HasUtf8Member}
use Rattle.rt_json.specs.Written.{written, written_member, listed}
use Rattle.rt_json.proofs.Spelled.{left_listed}
use Rattle.rt_json.proofs.writing.+write.Given as goal

-- what is written and what is left to write are the whole
abbrev pub invariant-write_items-loop-i : goal.invariant-write_items-loop-i
invariant-write_items-loop-i l = record {
  spelling : l.out.items ++ left_listed written l.i (drop l.i l.items) ≡ l.fn.out.items ++ 91 ∷ listed written l.items;
  utf8 : IsUtf8 l.fn.out.items → IsUtf8 l.out.items;
  texts : AllByRecursion HasUtf8Texts (drop l.i l.items) → AllByRecursion HasUtf8Texts l.items;
}

abbrev pub invariant-write_members-loop-i : goal.invariant-write_members-loop-i
invariant-write_members-loop-i l = record {
  spelling : l.out.items ++ left_listed written_member l.i (drop l.i l.members) ≡ l.fn.out.items ++ 123 ∷ listed written_member l.members;
  utf8 : IsUtf8 l.fn.out.items → IsUtf8 l.out.items;
  texts : AllByRecursion HasUtf8Member (drop l.i l.members) → AllByRecursion HasUtf8Member l.members;
}
