use Rattle.std.proofs.Common.{◌≡◌, true, false, not, ◌&&◌, sym, ap, ◌∙◌}
use Rattle.rt_catalog.specs.Access.{is_secured}
use Rattle.rt_change.specs.Verdicts.{asks_for, lacks_key, hides_key, passes_filter, writes}
use Rattle.rt_walrus.proofs.Cases as cases
use Rattle.rt_walrus.proofs.deciding.decided.Goals as goal

pub returns-then-not-asks_for : goal.returns-then-not-asks_for
returns-then-not-asks_for c =
    let e : asks_for c.args.subscription.now.wanted c.args.change.now.verb ≡ false = cc in
    sym (cases.event _ _ _ _ e)

pub returns-then-lacks_key : goal.returns-then-lacks_key
returns-then-lacks_key c =
    let asks : asks_for c.args.subscription.now.wanted c.args.change.now.verb ≡ true = cc in
    let e : lacks_key c.args.change.now ≡ true = cc in
    sym (cases.no_key _ _ _ _ asks e)

pub returns-then-hides_key : goal.returns-then-hides_key
returns-then-hides_key c =
    let asks : asks_for c.args.subscription.now.wanted c.args.change.now.verb ≡ true = cc in
    let has : lacks_key c.args.change.now ≡ false = cc in
    let e : hides_key c.args.catalog.now c.args.subscription.now.role c.args.change.now ≡ true =
    sym (c.hides_key.ensures ∙ ap (λ b. writes c.args.change.now.verb && not b) c.requires) ∙ c.if-hides_key.true in
    sym (cases.hidden _ _ _ _ asks has e)

pub returns-then-not-passes_filter : goal.returns-then-not-passes_filter
returns-then-not-passes_filter c =
    let asks : asks_for c.args.subscription.now.wanted c.args.change.now.verb ≡ true = cc in
    let has : lacks_key c.args.change.now ≡ false = cc in
    let shown : hides_key c.args.catalog.now c.args.subscription.now.role c.args.change.now ≡ false =
    sym (c.hides_key.ensures ∙ ap (λ b. writes c.args.change.now.verb && not b) c.requires) ∙ c.if-hides_key.false in
    let e : passes_filter c.args.subscription.now c.args.change.now ≡ false = cc in
    sym (cases.filtered _ _ _ _ asks has shown e)

pub returns-then-is_judged : goal.returns-then-is_judged
returns-then-is_judged c =
    let asks : asks_for c.args.subscription.now.wanted c.args.change.now.verb ≡ true = cc in
    let has : lacks_key c.args.change.now ≡ false = cc in
    let shown : hides_key c.args.catalog.now c.args.subscription.now.role c.args.change.now ≡ false =
    sym (c.hides_key.ensures ∙ ap (λ b. writes c.args.change.now.verb && not b) c.requires) ∙ c.if-hides_key.false in
    let passes : passes_filter c.args.subscription.now c.args.change.now ≡ true = cc in
    let e : (writes c.args.change.now.verb && is_secured c.args.catalog.now c.args.change.now.table) ≡ true = cc in
    c.judged.ensures ∙ sym (cases.secured _ _ _ _ asks has shown passes e)

pub returns : goal.returns
returns c =
    let asks : asks_for c.args.subscription.now.wanted c.args.change.now.verb ≡ true = cc in
    let has : lacks_key c.args.change.now ≡ false = cc in
    let shown : hides_key c.args.catalog.now c.args.subscription.now.role c.args.change.now ≡ false =
    sym (c.hides_key.ensures ∙ ap (λ b. writes c.args.change.now.verb && not b) c.requires) ∙ c.if-hides_key.false in
    let passes : passes_filter c.args.subscription.now c.args.change.now ≡ true = cc in
    let e : (writes c.args.change.now.verb && is_secured c.args.catalog.now c.args.change.now.table) ≡ false = cc in
    sym (cases.open_to_all _ _ _ _ asks has shown passes e)
