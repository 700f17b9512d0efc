use Rattle.std.proofs.Common.{ap, sym, ◌∙◌}
use Rattle.rt_phx.specs.Frame.{ref_of}
use Rattle.rt_phx.proofs.parts.ref_in.Goals as goal

pub returns-in-Num : goal.returns-in-Num
returns-in-Num c = sym (ap ref_of (sym c.unwrap_or.ensures ∙ c.in-Num.is))
