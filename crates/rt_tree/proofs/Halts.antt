-- What a step that isn't the last shows.
use Rattle.std.proofs.Common.{◌≡◌, ℕ, List, Option, Some, None, Err, take, subst, sym, ap, ◌∙◌, length}
use Rattle.std.proofs.lemmas.List.{length-map}
use Rattle.std.specs.List.{slice_get}
use Rattle.rt_value.specs.Places.{run, ended, ends, Ends, Breaks}
use Rattle.rt_sql.specs.declared.lexeme.Token.{Token}
use Rattle.rt_sql.specs.Lexeme.{Lexeme, lexeme_of, lexemes}
use Rattle.rt_policy.specs.Grammar.{Written}
use Rattle.rt_policy.specs.Machine.{step, start}
use Rattle.rt_policy.proofs.One.{element_ends, element_breaks, end_ends, end_breaks}
use Rattle.rt_policy.specs.declared.building.State.{State}
use Rattle.rt_policy.specs.declared.expr.Expr.{Expr}
use Rattle.rt_tree.specs.Answers.{Advances, Ran}
use Rattle.rt_tree.specs.declared.building.Halt.{Halt}
use Rattle.rt_tree.specs.declared.building.Halt.TheVariants as halt

pub ran_err : (xs : List Lexeme) (n : ℕ) (s : State) (x : Lexeme) (h : Halt) → slice_get xs n ≡ Some x
    → run step (take n xs) start ≡ Some s → Advances n (Err h) (step s (Some x)) → Ran xs (Err h)
ran_err xs n s x (halt.End e at) found so_far (is, here) =
    subst (λ (k : ℕ). Ends Written xs k e) (sym here) (element_ends xs n s x e found so_far is)
ran_err xs n s x (halt.Bad at) found so_far (is, here) =
    subst (λ (k : ℕ). Breaks Written xs k) (sym here) (element_breaks xs n s x found so_far is)
ran_err xs n s x halt.NoMemory found so_far is = tt

-- at the end, whose number is that of the tokens

pub whole_ends : (text : List ℕ) (ts : List Token) (s : State) (look : Option Lexeme) (e : Expr)
    → run step (lexemes text ts) start ≡ Some s → look ≡ None → step s look ≡ ends e
    → Ends Written (lexemes text ts) (length ts) e
whole_ends text ts s look e h none is =
    subst (λ (n : ℕ). Ends Written (lexemes text ts) n e) (length-map ts (lexeme_of text))
    (end_ends (lexemes text ts) s e h (ap (step s) (sym none) ∙ is))

pub whole_breaks : (text : List ℕ) (ts : List Token) (s : State) (look : Option Lexeme)
    → run step (lexemes text ts) start ≡ Some s → look ≡ None → ended (step s look) ≡ None
    → Breaks Written (lexemes text ts) (length ts)
whole_breaks text ts s look h none is =
    subst (λ (n : ℕ). Breaks Written (lexemes text ts) n) (length-map ts (lexeme_of text))
    (end_breaks (lexemes text ts) s h (ap (λ (o : Option Lexeme). ended (step s o)) (sym none) ∙ is))
