use Rattle.std.proofs.Common.{◌≡◌, ◌+◌, ◌<◌, ◌≤◌, length, vec_len, slice_set, [], true, false, refl, ap, sym, ◌∙◌, arith}
use Rattle.rt_value.specs.Edits.{edited_rows}
use Rattle.rt_replica.specs.Changed.{changed_at}
use Rattle.rt_replica.proofs.Changed.{changed-set, changed-past, counted-set, rising-set}
use Rattle.rt_replica.proofs.Edited.{edited_len}
use Rattle.rt_replica.proofs.tables.Tables.apply.Goals as goal

pub overflow_add-self : goal.overflow_add-self
overflow_add-self c =
    let place = c.in-Some.ensures.variant.0 refl in
    let len = c.self.inside.tables.ok in
    let within : c.args.table < length c.self.inside.tables.items = omega (arith, place, len) in
    let old = c.in-Some.rows.now in
    let before = c.len.ensures.len in
    let after = c.len-in-Some.ensures.len in
    let longer : length c.apply.new.self ≤ length old + 1 = rw c.in_ok-apply-in-Some.ensures.ok
    (edited_len c.args.edit.now old) in
    let all = c.self.invariant.counted in
    let cleared = counted-set c.args.table c.self.inside.tables.items old [] within c.in-Some.ensures.value in
    let range = c.self.ranges in
    omega (arith, before, after, longer, all, cleared)

pub invariant_of-self-in-Some : goal.invariant_of-self-in-Some
invariant_of-self-in-Some c =
    let place = c.in-Some.ensures.variant.0 refl in
    let len = c.self.inside.tables.ok in
    let within : c.args.table < length c.self.inside.tables.items = omega (arith, place, len) in
    let old = c.in-Some.rows.now in
    let before = c.len.ensures.len in
    let after = c.len-in-Some.ensures.len in
    let all = c.self.invariant.counted in
    let cleared = counted-set c.args.table c.self.inside.tables.items old [] within c.in-Some.ensures.value in
    let set = counted-set c.args.table c.self.inside.tables.items old c.apply.new.self within c.in-Some.ensures.value in
    record {
      rising = rising-set c.args.table c.self.inside.tables.items c.apply.new.self c.self.invariant.rising
          c.len-in-Some.ensures.rising;
      counted = omega (arith, before, after, all, cleared, set);
    }

pub returns-in_ok-apply-in-Some-clause-ok : goal.returns-in_ok-apply-in-Some-clause-ok
returns-in_ok-apply-in-Some-clause-ok c =
    let place = c.in-Some.ensures.variant.0 refl in
    let len = c.self.inside.tables.ok in
    let within : c.args.table < length c.self.inside.tables.items = omega (arith, place, len) in
    ap (λ r. slice_set c.self.inside.tables.items c.args.table r) c.in_ok-apply-in-Some.ensures.ok
    ∙ changed-set (edited_rows c.args.edit.now) c.args.table c.self.inside.tables.items c.in-Some.rows.now within
    c.in-Some.ensures.value
    ∙ ap (λ l. changed_at c.args.table (edited_rows c.args.edit.now) l) c.self.view_is

pub returns-in-None-clause-ok : goal.returns-in-None-clause-ok
returns-in-None-clause-ok c =
    sym (changed-past (edited_rows c.args.edit.now) c.args.table c.self.inside.tables.items
    (λ within. let len = c.self.inside.tables.ok in
    let place : c.args.table < vec_len c.self.inside.tables = omega (arith, within, len) in
    let w : false ≡ true = c.in-None.ensures.variant.1 place in absurd (cc)))
    ∙ ap (λ l. changed_at c.args.table (edited_rows c.args.edit.now) l) c.self.view_is
