-- Computed.
use Rattle.std.proofs.Common.{refl}
use Rattle.rt_examples.specs.Computes.{token_computes}
use Rattle.rt_json.specs.Computes.{json_computes}
use Rattle.rt_examples.specs.Vectors.{TagIsKnown, TokenHasNoRole, TokenExpires, UnsignedIsRefused, TwoPartsAreNoToken}

pub tag_is_known_holds : TagIsKnown
unfolding json_computes token_computes
tag_is_known_holds = refl

pub token_has_no_role_holds : TokenHasNoRole
unfolding json_computes token_computes
token_has_no_role_holds = refl

pub token_expires_holds : TokenExpires
unfolding json_computes token_computes
token_expires_holds = refl

pub unsigned_is_refused_holds : UnsignedIsRefused
unfolding json_computes token_computes
unsigned_is_refused_holds = refl

pub two_parts_are_no_token_holds : TwoPartsAreNoToken
unfolding json_computes token_computes
two_parts_are_no_token_holds = refl
