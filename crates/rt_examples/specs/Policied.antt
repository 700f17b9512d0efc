-- What a statement of a policy does to the lists, where what it judges is given level by level.
use Rattle.std.specs.Prelude.{◌≡◌, ℕ, ◌+◌, nat_le, false, ◌||◌, not, List, [], ◌∷◌, ◌++◌, length, Option}
use Rattle.std.specs.Prelude.{Some, None, option_map, option_to_list, is_none, Result}
use Rattle.std.proofs.Common.{ap, ◌∙◌}
use Rattle.std.specs.Result.{result_ok}
use Rattle.rt_value.specs.Choice.{is_at}
use Rattle.rt_policy.specs.declared.judge.Judge.{Judge}
use Rattle.rt_policy.specs.declared.scope.Scope.{Scope}
use Rattle.rt_policy.specs.declared.fault.ExprFault.{ExprFault}
use Rattle.rt_policy.specs.declared.meaning.Meaning.{Meaning}
use Rattle.rt_policy.specs.Resolution.{Reading, meaning_step, as_condition, resolved}
use Rattle.rt_policy.specs.Readings.{TableReading, Named, named_step, readings_of}
use Rattle.rt_policy.specs.Sizes.{names_step, enclosing_step, depth_limit}
use Rattle.rt_catalog.specs.declared.fault.Why.{Why}
use Rattle.rt_catalog.specs.declared.fault.Why.TheVariants as why
use Rattle.rt_catalog.specs.declared.statement.Command.{Command}
use Rattle.rt_catalog.specs.declared.statement.PolicyText.{PolicyText}
use Rattle.rt_catalog.specs.Grammar.{Placed, selects}
use Rattle.rt_catalog.specs.Lists.{Lists, TablePolicy, table_number, scope_of, policy_roles}
use Rattle.rt_catalog.specs.Refusals.{Refusal, first_why, over, long_names, policy_limit, names_of_table, is_unknown}
use Rattle.rt_catalog.specs.Refusals.{is_mistyped, has_unknown_role, has_policy, refused_policy, refused_at}
use Rattle.rt_catalog.specs.Refusals.{lists_after}
use Rattle.rt_examples.specs.Statements.{in_public, at}
use Rattle.rt_examples.specs.UsualSet.{policy_on}
use Rattle.rt_examples.specs.Forms.{Form, expr_of, folded, fold_is}

abbrev pub names_of : Form → List (List ℕ)
names_of f = folded (List (List ℕ)) names_step f

abbrev pub deep : Form → ℕ
deep f = folded ℕ enclosing_step f

abbrev pub meant : Form → Scope → Result Judge ExprFault
meant f scope = as_condition (folded (Option Reading → Meaning) (meaning_step scope) f None)

abbrev pub read_by : Form → Scope → List TableReading
read_by f scope = (folded Named (named_step scope) f).readings

pub meant_is : (f : Form) (scope : Scope) → resolved scope (expr_of f) ≡ meant f scope
unfolding resolved
meant_is f scope = ap (λ (m : Option Reading → Meaning). as_condition (m None))
    (fold_is (Option Reading → Meaning) (meaning_step scope) f)

pub read_is : (f : Form) (scope : Scope) → readings_of scope (expr_of f) ≡ read_by f scope
unfolding readings_of
read_is f scope = ap (λ (n : Named). n.readings) (fold_is Named (named_step scope) f)

module _ (name table : List ℕ) (for : Command) (to : List (List ℕ)) (f : Form) where
  abbrev text : PolicyText
  text = record {
    name = name;
    table = in_public table;
    restrictive = false;
    command = for;
    roles = to;
    using =
        Some (expr_of f);
    check = None;
  }

  abbrev refused_by : Lists → List (List ℕ) → ℕ → (Scope → Result Judge ExprFault) → Option Why
  refused_by l names n resolves =
      first_why (
      over (length l.policies + 1) policy_limit
      ∷ long_names (name ∷ names_of_table (in_public table) ++ to ++ (names ++ []))
      ∷ (not (nat_le (n + 1) depth_limit) || false, why.Limit depth_limit)
      ∷ (
        is_none (table_number l (in_public table)) || has_unknown_role l to
            || is_at (λ t. is_unknown (resolves (scope_of l t)) || false) (table_number l (in_public table)),
        why.UnknownName,
      )
      ∷ (has_policy l (in_public table) name, why.Twice)
      ∷ (is_at (λ t. is_mistyped (resolves (scope_of l t)) || false) (table_number l (in_public table)), why.BadType)
      ∷ [])

  pub refused_is : (l : Lists) → refused_policy l text ≡ refused_by l (names_of f) (deep f) (meant f)
  refused_is l =
      λ i. refused_by l (fold_is (List (List ℕ)) names_step f i) (fold_is ℕ enclosing_step f i)
      (λ scope. meant_is f scope i)

  abbrev policy_by : Lists → ℕ → ℕ → (Scope → Result Judge ExprFault) → (Scope → List TableReading) → TablePolicy
  policy_by l t n resolves reads =
      record {
        table = t;
        policy = record {
          name = name;
          restrictive = false;
          selects = selects for;
          roles = policy_roles l to;
          judge =
              result_ok (resolves (scope_of l t));
        };
        readings = reads (scope_of l t) ++ [];
        at = n;
      }

  abbrev next_by : Lists → ℕ → (Scope → Result Judge ExprFault) → (Scope → List TableReading) → Lists
  next_by l n resolves reads =
      record l {
        policies = l.policies
            ++ option_to_list (option_map (λ t. policy_by l t n resolves reads) (table_number l (in_public table)));
      }

  abbrev pub next : Lists → ℕ → Lists
  next l n = next_by l n (meant f) (read_by f)

  abbrev after_or : Option Why → Lists → ℕ → List Placed → Result Lists Refusal
  after_or refused l n more = elim refused [ Some reason ↦ refused_at n reason | None ↦ lists_after l more ]

  pub step : (l : Lists) (n : ℕ) (more : List Placed) → refused_by l (names_of f) (deep f) (meant f) ≡ None
      → lists_after l (at n (policy_on name table for to (expr_of f)) ∷ more) ≡ lists_after (next l n) more
  step l n more free =
      (λ i. after_or (refused_is l i) (next_by l n (λ scope. meant_is f scope i) (λ scope. read_is f scope i)) n more)
      ∙ ap (λ refused. after_or refused (next l n) n more) free
