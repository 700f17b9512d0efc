-- Computed.
use Rattle.std.proofs.Common.{refl, inl, inr}
use Rattle.std.specs.Fmt.{digits}
use Rattle.rt_policy.specs.Grammar as g
use Rattle.rt_catalog.specs.Grammar as c
use Rattle.rt_catalog.specs.Refusals.{lists_of}
use Rattle.rt_examples.specs.Statements.{lists_in}
use Rattle.rt_examples.specs.Memberships.{members_file, bypass_file, MembersSelect, MemberRingIsRefused}
use Rattle.rt_examples.specs.Memberships.{OwnMemberIsRefused, PublicIsNoMember, BypassStays, QuotedIsAGroup}

pub members_select_holds : MembersSelect
unfolding lists_of digits
members_select_holds = (lists_in (lists_of members_file), refl, (refl, refl, refl, refl))

pub member_ring_is_refused_holds : MemberRingIsRefused
unfolding lists_of
member_ring_is_refused_holds = refl

pub own_member_is_refused_holds : OwnMemberIsRefused
unfolding lists_of
own_member_is_refused_holds = refl

pub public_is_no_member_holds : PublicIsNoMember
unfolding lists_of
public_is_no_member_holds = refl

pub bypass_stays_holds : BypassStays
unfolding lists_of
bypass_stays_holds = (lists_in (lists_of bypass_file), refl, refl, refl)

pub quoted_is_a_group_holds : QuotedIsAGroup
quoted_is_a_group_holds =
    c.member (g.keyword (refl, refl) g.no_keyword) (λ is. absurd (let z = is.0 in cc)) (c.name_last (inr refl, refl))
    (g.keyword (refl, refl) g.no_keyword) (c.name_last (inl refl, refl))
