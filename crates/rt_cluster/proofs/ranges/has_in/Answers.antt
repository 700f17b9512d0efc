use Rattle.std.proofs.Common.{◌≡◌, ℕ, true, false, Option, Some, None, is_some, option_copied, Bor, refl, sym, ap, ◌∙◌}
use Rattle.rt_ptree.specs.Entries.{entry_lent}
use Rattle.rt_cluster.proofs.RangeLists.{last_has, none_has, next_has}
use Rattle.rt_cluster.proofs.ranges.has_in.Goals as goal

a_number : (o : Option (Bor ℕ)) → is_some o ≡ true → (n : ℕ) × (option_copied o ≡ Some n)
a_number None h = absurd (cc)
a_number (Some b) h = (b.now, refl)

no_number : (o : Option (Bor ℕ)) → is_some o ≡ false → option_copied o ≡ None
no_number None h = refl
no_number (Some b) h = absurd (cc)

pub returns-then-is_some : goal.returns-then-is_some
returns-then-is_some c =
    let there = a_number c.get.result (sym c.is_some.ensures ∙ c.if-is_some.true) in
    sym (last_has c.args.ranges.now c.requires c.args.dot.now there.0 (sym c.get.ensures ∙ there.1))

pub returns-in-None : goal.returns-in-None
returns-in-None c =
    let none = no_number c.get.result (sym c.is_some.ensures ∙ c.if-is_some.false) in
    sym (none_has c.args.ranges.now c.requires c.args.dot.now (sym c.get.ensures ∙ none)
    (sym c.after.ensures ∙ ap entry_lent c.in-None.is))

pub returns-in-Some : goal.returns-in-Some
returns-in-Some c =
    let none = no_number c.get.result (sym c.is_some.ensures ∙ c.if-is_some.false) in
    c.is_in.ensures
    ∙ sym (next_has c.args.ranges.now c.requires c.args.dot.now (sym c.get.ensures ∙ none)
    (c.in-Some.last.now, c.in-Some.first.now) (sym c.after.ensures ∙ ap entry_lent c.in-Some.is))
