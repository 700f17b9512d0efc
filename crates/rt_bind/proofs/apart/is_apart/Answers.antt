use Rattle.std.proofs.Common.{sym, ◌∙◌}
use Rattle.rt_bind.proofs.Columns.{is_apart, apart_is}
use Rattle.rt_bind.proofs.apart.is_apart.Goals as goal

pub returns : goal.returns
returns c = (
  (λ t. is_apart c.args.catalog.now (sym c.tables_are_apart.ensures ∙ t)),
  (λ h. c.tables_are_apart.ensures ∙ apart_is c.args.catalog.now h),
)
