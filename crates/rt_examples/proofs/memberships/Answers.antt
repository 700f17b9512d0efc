use Rattle.rt_examples.proofs.MembershipsComputed.{members_select_holds, member_ring_is_refused_holds}
use Rattle.rt_examples.proofs.MembershipsComputed.{own_member_is_refused_holds, public_is_no_member_holds}
use Rattle.rt_examples.proofs.MembershipsComputed.{bypass_stays_holds, quoted_is_a_group_holds}
use Rattle.rt_examples.proofs.memberships.Goals as goal

pub returns : goal.returns
returns c =
    record {
      select = members_select_holds;
      ring = member_ring_is_refused_holds;
      own = own_member_is_refused_holds;
      public_role = public_is_no_member_holds;
      bypass = bypass_stays_holds;
      quoted = quoted_is_a_group_holds;
    }
