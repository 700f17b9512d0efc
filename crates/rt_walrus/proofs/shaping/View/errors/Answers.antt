use Rattle.std.proofs.Common.{◌≡◌, true, nat_lt, sym, ap, ◌∙◌}
use Rattle.std.specs.Prelude.{codes, if◌then◌else◌}
use Rattle.rt_json.specs.declared.tree.Json.TheVariants as json
use Rattle.rt_change.specs.Shape.{error_list}
use Rattle.rt_walrus.proofs.Shaped.{told}
use Rattle.rt_walrus.proofs.shaping.View.errors.Goals as goal

pub returns-then-is_large : goal.returns-then-is_large
returns-then-is_large c =
    let v = c.args.self.now in
    let large : nat_lt v.max v.change.now.size ≡ true = sym c.is_large.ensures ∙ c.if-is_large.true in
    told c.error_tree.result _ _
    (ap (λ b. if b then error_list (codes "Error 413: Payload Too Large") else json.Null) (sym large))
    c.error_tree.ensures
