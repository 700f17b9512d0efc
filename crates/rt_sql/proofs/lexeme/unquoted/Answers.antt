use Rattle.std.proofs.Common.{◌≡◌, ℕ, List, [], ◌∷◌, ◌++◌, string_bytes, subst, sym, ◌∙◌}
use Rattle.rt_sql.proofs.Unquoting.{IsReadOf, opening_border, second_border, nothing_read, part_read_on, all_read}
use Rattle.rt_sql.proofs.lexeme.unquoted.Goals as goal

pub range-rest-requires-clause-start_boundary : goal.range-rest-requires-clause-start_boundary
range-rest-requires-clause-start_boundary c = λ lt. opening_border c.args.quote c.args.quoted.now c.requires.ascii c.utf8.quoted c.requires.in_quotes

pub loop-before-init : goal.loop-before-init
loop-before-init c =
    (c.range-rest.utf8, nothing_read c.args.quote c.args.quoted.now (string_bytes c.new-inner.result) c.range-rest.result.now c.requires.in_quotes c.new-inner.ensures.bytes c.range-rest.ensures.value)

pub range_from-rest-requires : goal.range_from-rest-requires
range_from-rest-requires c =
    let split = c.in-Some.ensures.byte c.requires.ascii (λ w o found. found) in
    λ lt. second_border c.args.quote c.args.quoted.now (string_bytes c.loop-before.inner) c.loop-before.rest.now c.in-Some.before.now c.in-Some.after.now c.requires.ascii
    c.loop-before.invariant.0 c.loop-before.invariant.1 split.2 split.0 split.1

pub loop-before-preserved : goal.loop-before-preserved
loop-before-preserved c =
    let split = c.in-Some.ensures.byte c.requires.ascii (λ w o found. found) in
    let inner : string_bytes c.push.new.self ≡ (string_bytes c.loop-before.inner ++ c.in-Some.before.now) ++ c.args.quote ∷ [] =
    cc (c.in_ok-push.ensures.bytes, c.in_ok-push_str.ensures.bytes, c.in_ok-push.ensures.ascii c.requires.ascii) in (
      c.range_from-rest.utf8,
      subst (λ (xs : List ℕ). IsReadOf c.args.quote c.args.quoted.now xs c.range_from-rest.result.now) (sym inner) (
          part_read_on c.args.quote c.args.quoted.now (string_bytes c.loop-before.inner) c.loop-before.rest.now c.in-Some.before.now c.in-Some.after.now c.range_from-rest.result.now
          c.loop-before.invariant.1 split.2 split.0 split.1 c.range_from-rest.ensures.value),
    )

pub returns : goal.returns
returns c =
    c.in_ok-push_str-2.ensures.bytes
    ∙ all_read c.args.quote c.args.quoted.now (string_bytes c.loop-before.inner) c.loop-before.rest.now c.loop-before.invariant.1
    (c.in_default.ensures.byte c.requires.ascii (λ w o found. found))
