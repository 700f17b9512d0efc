use Rattle.std.proofs.Common.{FitsSigned, w32}
use Rattle.std.proofs.lemmas.Int.{to_z-of_z}
use Rattle.rt_wal.proofs.Instants.{some_weaker, none_weaker, same_utc}
use Rattle.rt_wal.proofs.Offsets.{offset_fits}
use Rattle.rt_wal.proofs.times.instant_of.Goals as goal

pub returns-in_err-local-clause-none : goal.returns-in_err-local-clause-none
returns-in_err-local-clause-none c = rw c.from_residual.ensures (λ utc h. c.in_err-local.ensures.none h.local h.is_civil)

pub returns-in_err-seconds-clause-none : goal.returns-in_err-seconds-clause-none
returns-in_err-seconds-clause-none c = rw c.from_residual-in_err-seconds.ensures (λ utc h. c.in_err-seconds.ensures.none h.seconds h.is_offset)

pub returns-clause-some : goal.returns-clause-some
returns-clause-some c =
    let fits : FitsSigned w32 c.in_ok-seconds.seconds = offset_fits c.args.offset.now c.in_ok-seconds.seconds c.in_ok-seconds.ensures.some in
    let some = simp to_z-of_z at c.to_utc.ensures.some in
    some_weaker c.to_utc.result _ _
    (λ utc u. record { local = c.in_ok-local.local; seconds = c.in_ok-seconds.seconds; is_civil = c.in_ok-local.ensures.some; is_offset = c.in_ok-seconds.ensures.some; is_utc = u })
    some

pub returns-clause-none : goal.returns-clause-none
returns-clause-none c =
    let fits : FitsSigned w32 c.in_ok-seconds.seconds = offset_fits c.args.offset.now c.in_ok-seconds.seconds c.in_ok-seconds.ensures.some in
    let none = simp to_z-of_z at c.to_utc.ensures.none in
    none_weaker c.to_utc.result _ _
    (λ no utc h. no utc (same_utc c.args.civil.now c.args.offset.now c.in_ok-local.local c.in_ok-seconds.seconds utc c.in_ok-local.ensures.some c.in_ok-seconds.ensures.some h))
    none
