use Rattle.std.proofs.Common.{All, sym, subst}
use Rattle.rt_ptree.specs.Parts.{IsFitLimb}
use Rattle.rt_ptree.proofs.Settled.{All-one}
use Rattle.rt_ptree.proofs.tree.single.Goals as goal

pub returns-clause-fits : goal.returns-clause-fits
returns-clause-fits g c = subst (All IsFitLimb) (sym c.in_ok-vec-4.ensures.items) (All-one IsFitLimb c.in_ok-limb.limb c.in_ok-limb.ensures.fit)
