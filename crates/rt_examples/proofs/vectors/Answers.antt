use Rattle.rt_examples.proofs.VectorsComputed.{tag_is_known_holds, token_has_no_role_holds}
use Rattle.rt_examples.proofs.VectorsComputed.{token_expires_holds, unsigned_is_refused_holds}
use Rattle.rt_examples.proofs.VectorsComputed.{two_parts_are_no_token_holds}
use Rattle.rt_examples.proofs.vectors.Goals as goal

pub returns : goal.returns
returns c =
    record {
      tag = tag_is_known_holds;
      role = token_has_no_role_holds;
      expires = token_expires_holds;
      unsigned = unsigned_is_refused_holds;
      parts = two_parts_are_no_token_holds;
    }
