use Rattle.std.proofs.Common.{◌≡◌, ◌&&◌, true, length, drop}
use Rattle.std.specs.Str.{bytes_eq}
use Rattle.rt_token.proofs.comparing.is_same_tag.Given as goal

-- what was compared and what is left to compare decide it
abbrev pub invariant-loop-a : goal.invariant-loop-a
invariant-loop-a l = record {
  long : l.same ≡ true → length l.tag ≡ length l.wanted;
  left : (l.same && bytes_eq (drop (length l.yielded) l.tag) (drop (length l.yielded) l.wanted)) ≡ bytes_eq l.tag l.wanted;
}
