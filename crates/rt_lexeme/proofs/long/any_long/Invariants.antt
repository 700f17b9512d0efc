use Rattle.std.proofs.Common.{◌≡◌, drop}
use Rattle.std.specs.List.{list_any}
use Rattle.rt_sql.specs.Lexeme.{lexemes}
use Rattle.rt_lexeme.specs.Long.{is_long_token}
use Rattle.rt_lexeme.proofs.long.any_long.Given as goal

abbrev pub invariant-loop-token : goal.invariant-loop-token
invariant-loop-token l =
    list_any is_long_token (lexemes l.text (drop l.token-index l.tokens))
    ≡ list_any is_long_token (lexemes l.text l.tokens)
