use Rattle.std.proofs.Common.{◌≡◌, true, false, sym, ◌∙◌}
use Rattle.rt_change.specs.Verdicts.{lacks_key, hides_key}
use Rattle.rt_walrus.proofs.Shaped as cases
use Rattle.rt_walrus.proofs.shaping.shape.Goals as goal

pub returns-then-lacks_key : goal.returns-then-lacks_key
returns-then-lacks_key c =
    let lacks : lacks_key c.args.change.now ≡ true =
    sym c.lacks_key.ensures ∙ c.if-lacks_key.true in
    cases.told c.refused.result _ _
    (sym (cases.no_key c.args.catalog.now c.args.role c.args.max_record c.args.change.now lacks)) c.refused.ensures

pub returns-then-hides_key : goal.returns-then-hides_key
returns-then-hides_key c =
    let has : lacks_key c.args.change.now ≡ false =
    sym c.lacks_key.ensures ∙ c.if-lacks_key.false in
    let hides : hides_key c.args.catalog.now c.args.role c.args.change.now ≡ true =
    sym c.hides_key.ensures ∙ c.if-hides_key.true in
    cases.told c.refused-then-hides_key.result _ _
    (sym (cases.hidden c.args.catalog.now c.args.role c.args.max_record c.args.change.now has hides))
    c.refused-then-hides_key.ensures

pub returns-else-hides_key : goal.returns-else-hides_key
returns-else-hides_key c =
    let has : lacks_key c.args.change.now ≡ false =
    sym c.lacks_key.ensures ∙ c.if-lacks_key.false in
    let shown : hides_key c.args.catalog.now c.args.role c.args.change.now ≡ false =
    sym c.hides_key.ensures ∙ c.if-hides_key.false in
    cases.told c.whole.result _ _
    (sym (cases.shown c.args.catalog.now c.args.role c.args.max_record c.args.change.now has shown)) c.whole.ensures
