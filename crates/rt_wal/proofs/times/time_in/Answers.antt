use Rattle.std.proofs.Common.{◌≡◌, List, ℕ, subst, sym, rules}
use Rattle.rt_wal.specs.Times.{IsInstant}
use Rattle.rt_wal.proofs.Stamps.{is_stamp, no_stamp}
use Rattle.rt_wal.proofs.times.time_in.Goals as goal

pub returns-in_ok-print_utc-in-Some-instant_in : goal.returns-in_ok-print_utc-in-Some-instant_in
returns-in_ok-print_utc-in-Some-instant_in c =
    let utc = c.in-Some-instant_in.utc in
    let bytes : c.as_bytes.result.now ≡ c.in-Some-Text.text = search rules in
    is_stamp c.args.tree.now c.in-Some-Text.field-0.now c.in-Some-Text.text _ utc (sym c.in-Some-Text.ensures) c.in-Some-Text.field-0-is
    (subst (λ (t : List ℕ). IsInstant t utc) bytes c.in-Some-instant_in.ensures.some) c.in_ok-print_utc-in-Some-instant_in.ensures

pub returns-in-None-instant_in : goal.returns-in-None-instant_in
returns-in-None-instant_in c =
    let bytes : c.as_bytes.result.now ≡ c.in-Some-Text.text = search rules in
    no_stamp c.args.tree.now c.in-Some-Text.field-0.now c.in-Some-Text.text (sym c.in-Some-Text.ensures) c.in-Some-Text.field-0-is
    (λ utc h. c.in-None-instant_in.ensures.none utc (subst (λ (t : List ℕ). IsInstant t utc) (sym bytes) h))
