use Rattle.std.proofs.Common.{List, ℕ, subst, sym}
use Rattle.std.specs.Prelude.{MatchOption}
use Rattle.realtime_replay.specs.Words.{IsCommand, NoCommand}
use Rattle.realtime_replay.proofs.WordLists.{three_words}
use Rattle.realtime_replay.proofs.words.command_of.Goals as goal

pub returns-in-len3 : goal.returns-in-len3
returns-in-len3 c =
    let P : List (List ℕ) → Type 0 = λ words. MatchOption c.of_two.result (NoCommand words) (IsCommand words) in
    subst P (sym (three_words c.args.words.now _ c.in-len3.len_at_least c.in-len3.len_below)) c.of_two.ensures
