-- Computed.
use Rattle.std.proofs.Common.{refl}
use Rattle.rt_catalog.specs.Refusals.{lists_of}
use Rattle.rt_examples.specs.Statements.{StatementsMeanLists, OpaqueKeyIsRefused, SecondRoleIsRefused}
use Rattle.rt_examples.specs.Statements.{PublicIsNoRole, UnknownColumnIsRefused}

pub statements_mean_lists_holds : StatementsMeanLists
unfolding lists_of
statements_mean_lists_holds = refl

pub opaque_key_is_refused_holds : OpaqueKeyIsRefused
unfolding lists_of
opaque_key_is_refused_holds = refl

pub second_role_is_refused_holds : SecondRoleIsRefused
unfolding lists_of
second_role_is_refused_holds = refl

pub public_is_no_role_holds : PublicIsNoRole
unfolding lists_of
public_is_no_role_holds = refl

pub unknown_column_is_refused_holds : UnknownColumnIsRefused
unfolding lists_of
unknown_column_is_refused_holds = refl
