use Rattle.rt_examples.proofs.IdentitiesComputed.{identity_is_bound_holds, no_identity_is_bound_holds}
use Rattle.rt_examples.proofs.IdentitiesComputed.{identity_is_shown_holds, row_is_kept_holds}
use Rattle.rt_examples.proofs.identities.Goals as goal

pub returns : goal.returns
returns c =
    record {
      bound = identity_is_bound_holds;
      bound_alone = no_identity_is_bound_holds;
      shown = identity_is_shown_holds;
      kept = row_is_kept_holds;
    }
