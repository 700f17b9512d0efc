-- Read and computed.
use Rattle.std.proofs.Common.{◌≡◌, ℕ, ◌+◌, refl, ap, ◌∙◌, inl, inr, Option, None, Result}
use Rattle.std.specs.Prelude.{nat_le, codes}
use Rattle.rt_policy.specs.declared.fault.ExprFault.{ExprFault}
use Rattle.rt_policy.specs.declared.judge.Judge.{Judge}
use Rattle.rt_policy.specs.declared.meaning.Meaning.{Meaning}
use Rattle.rt_policy.specs.declared.scope.Scope.{Scope}
use Rattle.rt_policy.specs.Grammar as g
use Rattle.rt_policy.specs.Resolution.{Reading, meaning_step, as_condition, resolved}
use Rattle.rt_policy.specs.Sizes.{depth, enclosing_step, is_shallow, depth_limit}
use Rattle.rt_examples.specs.Forms.{Form, expr_of, folded, fold_is}
use Rattle.rt_examples.specs.Conditions.{members_read, shared, hidden, of_both, not_in, cast_of, not_unknown, nots}
use Rattle.rt_examples.specs.Conditions.{rooms_scope, notes_scope}
use Rattle.rt_examples.specs.Conditions.{MembersReadIsWritten, MembersReadIsResolved, SharedIsResolved}
use Rattle.rt_examples.specs.Conditions.{AliasHidesTheName}
use Rattle.rt_examples.specs.Conditions.{InnerColumnComesFirst, NotInIsNegated, CastIsRead, CastOutOfRange}
use Rattle.rt_examples.specs.Conditions.{IsNotUnknown, DepthIsCounted}

pub members_read_is_written_holds : MembersReadIsWritten
members_read_is_written_holds =
    g.ors
    (g.ands
    (g.plain
    (g.exists (refl, refl) (refl, refl) (refl, refl) (g.the_one (refl, refl)) (refl, refl) (g.in_public
    ((inl refl, refl), inr refl))
    (g.alias ((inl refl, refl), inr refl))
    (g.where_ (refl, refl)
    (g.ors
    (g.ands
    (g.plain (g.own_column (g.qualified ((inl refl, refl), inr refl) (refl, refl) ((inl refl, refl), inr refl)))
    (g.compare (g.equal (refl, refl)) (g.own_column (g.qualified ((inl refl, refl), inr refl) (refl, refl)
    ((inl refl, refl), inr refl)))) g.no_test)
    (g.and_more (refl, refl)
    (g.plain (g.own_column (g.qualified ((inl refl, refl), inr refl) (refl, refl) ((inl refl, refl), inr refl)))
    (g.compare (g.equal (refl, refl))
    (g.selected_call (refl, refl) (refl, refl) (g.uid (g.auth (refl, refl) (refl, refl) (refl, refl) (refl, refl)
    (refl, refl))) (refl, refl)))
    g.no_test)
    g.and_end))
    g.or_end))
    (refl, refl))
    g.alone g.no_test)
    g.and_end)
    g.or_end

-- what a form means, by its levels
abbrev meant : Form → Scope → Result Judge ExprFault
meant f scope = as_condition (folded (Option Reading → Meaning) (meaning_step scope) f None)

meant_is : (f : Form) (scope : Scope) → resolved scope (expr_of f) ≡ meant f scope
unfolding resolved
meant_is f scope =
    ap (λ (m : Option Reading → Meaning). as_condition (m None)) (fold_is (Option Reading →
    Meaning) (meaning_step scope) f)

pub members_read_is_resolved_holds : MembersReadIsResolved
members_read_is_resolved_holds = meant_is members_read rooms_scope ∙ refl

pub shared_is_resolved_holds : SharedIsResolved
shared_is_resolved_holds = meant_is shared rooms_scope ∙ refl

pub alias_hides_the_name_holds : AliasHidesTheName
alias_hides_the_name_holds = meant_is hidden rooms_scope ∙ refl

pub inner_column_comes_first_holds : InnerColumnComesFirst
inner_column_comes_first_holds = meant_is of_both notes_scope ∙ refl

pub not_in_is_negated_holds : NotInIsNegated
not_in_is_negated_holds = meant_is not_in notes_scope ∙ refl

pub cast_is_read_holds : CastIsRead
cast_is_read_holds = meant_is (cast_of (codes "5")) notes_scope ∙ refl

pub cast_out_of_range_holds : CastOutOfRange
cast_out_of_range_holds = meant_is (cast_of (codes "32768")) notes_scope ∙ refl

pub is_not_unknown_holds : IsNotUnknown
is_not_unknown_holds = meant_is not_unknown notes_scope ∙ refl

depth_is : (f : Form) → depth (expr_of f) ≡ folded ℕ enclosing_step f + 1
depth_is f = ap (λ n. n + 1) (fold_is ℕ enclosing_step f)

shallow_is : (f : Form) → is_shallow (expr_of f) ≡ nat_le (folded ℕ enclosing_step f + 1) depth_limit
shallow_is f = ap (λ n. nat_le (n + 1) depth_limit) (fold_is ℕ enclosing_step f)

pub depth_is_counted_holds : DepthIsCounted
depth_is_counted_holds = (depth_is (nots 31) ∙ refl, shallow_is (nots 31) ∙ refl, shallow_is (nots 32) ∙ refl)
