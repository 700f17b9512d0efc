use Rattle.std.proofs.Common.{sym, subst}
use Rattle.std.specs.Str.{IsUtf8}
use Rattle.std.proofs.lemmas.Bool.{false≢true}
use Rattle.rt_token.proofs.claims.spelling.Goals as goal

pub unreachable-requires : goal.unreachable-requires
unreachable-requires c = false≢true (c.in-Err.ensures.succeeds (subst IsUtf8 (sym c.into_inner.ensures) c.in_ok-bytes.ensures.utf8))
