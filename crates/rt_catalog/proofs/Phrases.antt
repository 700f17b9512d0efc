-- The phrases of an expression leave an end of their tokens: where every token keeps a name in UTF-8, so does every token that is left.
use Rattle.std.proofs.Common.{ℕ, Bool, List, Option}
use Rattle.std.specs.List.{AllByRecursion}
use Rattle.rt_sql.specs.Lexeme.{Lexeme}
use Rattle.rt_sql.proofs.Kept.{KeepsText}
use Rattle.rt_policy.specs.declared.expr.Literal.{Literal}
use Rattle.rt_policy.specs.declared.expr.TypeName.{TypeName}
use Rattle.rt_policy.specs.declared.expr.Selected.{Selected}
use Rattle.rt_policy.specs.declared.expr.Expr.{Expr}
use Rattle.rt_policy.specs.Grammar as g
use Rattle.rt_policy.specs.Grammar.{Keywords, Length, Lengths, Brackets, IsType, IsLiteral, IsAuth, IsCall, IsColumn}
use Rattle.rt_policy.specs.Grammar.{IsTableName, IsSelected, IsAlias, IsExpr, Ors, IsConjunction, Ands, IsNegation}
use Rattle.rt_policy.specs.Grammar.{TestedBy, Related, Items, IsOperand, Where}

abbrev pub KeepTexts : List Lexeme → Type 0
KeepTexts xs = AllByRecursion KeepsText xs

pub behind_keywords : {words : List (List ℕ)} {xs ys : List Lexeme} → Keywords words xs ys → KeepTexts xs → KeepTexts ys
behind_keywords g.no_keyword keep = keep
behind_keywords (g.keyword word more) keep = behind_keywords more keep.1

behind_length : {xs ys : List Lexeme} → Length xs ys → KeepTexts xs → KeepTexts ys
behind_length g.no_length keep = keep
behind_length (g.length left n right) keep = keep.1.1.1

behind_lengths : {xs ys : List Lexeme} → Lengths xs ys → KeepTexts xs → KeepTexts ys
behind_lengths (g.one_length one) keep = behind_length one keep
behind_lengths (g.two_lengths left n comma m right) keep = keep.1.1.1.1.1

behind_brackets : {array : Bool} {xs ys : List Lexeme} → Brackets array xs ys → KeepTexts xs → KeepTexts ys
behind_brackets g.no_brackets keep = keep
behind_brackets (g.brackets left right) keep = keep.1.1

pub behind_type : {IsOne : List ℕ → Lexeme → Type 0} {t : TypeName} {xs ys : List Lexeme} → IsType IsOne t xs ys → KeepTexts xs → KeepTexts ys
behind_type (g.with_zone words) keep = behind_keywords words keep
behind_type (g.without_zone words) keep = behind_keywords words keep
behind_type (g.double words) keep = behind_keywords words keep
behind_type (g.varying words one) keep = behind_length one (behind_keywords words keep)
behind_type (g.named name lengths ends) keep = behind_brackets ends (behind_lengths lengths keep.1)

behind_literal : {l : Literal} {xs ys : List Lexeme} → IsLiteral l xs ys → KeepTexts xs → KeepTexts ys
behind_literal (g.text one) keep = keep.1
behind_literal (g.number one) keep = keep.1
behind_literal (g.minus sign one) keep = keep.1.1
behind_literal (g.yes_literal word) keep = keep.1
behind_literal (g.no_literal word) keep = keep.1
behind_literal (g.null word) keep = keep.1

behind_auth : {name : List ℕ} {xs ys : List Lexeme} → IsAuth name xs ys → KeepTexts xs → KeepTexts ys
behind_auth (g.auth a dot f left right) keep = keep.1.1.1.1.1

behind_call : {e : Expr} {xs ys : List Lexeme} → IsCall e xs ys → KeepTexts xs → KeepTexts ys
behind_call (g.uid one) keep = behind_auth one keep
behind_call (g.role one) keep = behind_auth one keep
behind_call (g.jwt one arrow name) keep = (behind_auth one keep).1.1

behind_column : {qualifier : Option (List ℕ)} {name : List ℕ} {xs ys : List Lexeme} → IsColumn qualifier name xs ys → KeepTexts xs → KeepTexts ys
behind_column (g.bare name) keep = keep.1
behind_column (g.qualified qualifier dot name) keep = keep.1.1.1

pub behind_table : {IsOne : List ℕ → Lexeme → Type 0} {schema name : List ℕ} {xs ys : List Lexeme}
    → IsTableName IsOne schema name xs ys → KeepTexts xs → KeepTexts ys
behind_table (g.in_public name) keep = keep.1
behind_table (g.in_schema schema dot name) keep = keep.1.1.1

behind_selected : {s : Selected} {xs ys : List Lexeme} → IsSelected s xs ys → KeepTexts xs → KeepTexts ys
behind_selected (g.the_one one) keep = keep.1
behind_selected (g.all_columns star) keep = keep.1
behind_selected (g.the_column one) keep = behind_column one keep

behind_alias : {name : Option (List ℕ)} {xs ys : List Lexeme} → IsAlias name xs ys → KeepTexts xs → KeepTexts ys
behind_alias g.no_alias keep = keep
behind_alias (g.alias name) keep = keep.1
behind_alias (g.as_alias word name) keep = keep.1.1

mutual
  pub behind_expr : {inside : Bool} {e : Expr} {xs ys : List Lexeme} → IsExpr inside e xs ys → KeepTexts xs → KeepTexts ys
  behind_expr (g.ors first more) keep = behind_ors more (behind_conjunction first keep)

  behind_ors : {inside : Bool} {before : List Expr} {e : Expr} {xs ys : List Lexeme} → Ors inside before e xs ys → KeepTexts xs → KeepTexts ys
  behind_ors g.or_end keep = keep
  behind_ors (g.or_more word one more) keep = behind_ors more (behind_conjunction one keep.1)

  behind_conjunction : {inside : Bool} {e : Expr} {xs ys : List Lexeme} → IsConjunction inside e xs ys → KeepTexts xs → KeepTexts ys
  behind_conjunction (g.ands first more) keep = behind_ands more (behind_negation first keep)

  behind_ands : {inside : Bool} {before : List Expr} {e : Expr} {xs ys : List Lexeme} → Ands inside before e xs ys → KeepTexts xs → KeepTexts ys
  behind_ands g.and_end keep = keep
  behind_ands (g.and_more word one more) keep = behind_ands more (behind_negation one keep.1)

  behind_negation : {inside : Bool} {e : Expr} {xs ys : List Lexeme} → IsNegation inside e xs ys → KeepTexts xs → KeepTexts ys
  behind_negation (g.negated word one) keep = behind_negation one keep.1
  behind_negation (g.plain one related tested) keep = behind_test tested (behind_related related (behind_operand one keep))

  behind_test : {e tested : Expr} {xs ys : List Lexeme} → TestedBy e tested xs ys → KeepTexts xs → KeepTexts ys
  behind_test g.no_test keep = keep
  behind_test (g.is word asked) keep = keep.1.1
  behind_test (g.is_not word inverts asked) keep = keep.1.1.1

  behind_related : {inside : Bool} {e related : Expr} {xs ys : List Lexeme} → Related inside e related xs ys → KeepTexts xs → KeepTexts ys
  behind_related g.alone keep = keep
  behind_related (g.compare sign one) keep = behind_operand one keep.1
  behind_related (g.among word left one more) keep = behind_items more (behind_operand one keep.1.1)
  behind_related (g.not_among inverts word left one more) keep = behind_items more (behind_operand one keep.1.1.1)

  behind_items : {inside : Bool} {before all : List Expr} {xs ys : List Lexeme} → Items inside before all xs ys → KeepTexts xs → KeepTexts ys
  behind_items (g.item_end right) keep = keep.1
  behind_items (g.item_more comma one more) keep = behind_items more (behind_operand one keep.1)

  behind_operand : {inside : Bool} {e : Expr} {xs ys : List Lexeme} → IsOperand inside e xs ys → KeepTexts xs → KeepTexts ys
  behind_operand (g.constant one) keep = behind_literal one keep
  behind_operand (g.cast one sign type) keep = behind_type type (behind_literal one keep).1
  behind_operand (g.call one) keep = behind_call one keep
  behind_operand (g.selected_call left word one right) keep = (behind_call one keep.1.1).1
  behind_operand (g.own_column one) keep = behind_column one keep
  behind_operand (g.group left one right) keep = (behind_expr one keep.1).1
  behind_operand (g.exists word left select selected from table name condition right) keep =
      (behind_where condition (behind_alias name (behind_table table (behind_selected selected keep.1.1.1).1))).1

  behind_where : {condition : Option Expr} {xs ys : List Lexeme} → Where condition xs ys → KeepTexts xs → KeepTexts ys
  behind_where g.no_where keep = keep
  behind_where (g.where_ word one) keep = behind_expr one keep.1
