use Rattle.std.proofs.Common.{◌≡◌, map, take, true}
use Rattle.std.specs.List.{list_all}
use Rattle.rt_form.specs.Lexing.{is_plain, word_of}
use Rattle.rt_form.proofs.lexing.words_in.Given as goal

abbrev pub invariant-loop-token : goal.invariant-loop-token
invariant-loop-token l = record {
  are : l.words.items ≡ map (word_of l.text) (take l.token-index l.tokens);
  plain : list_all (λ t. is_plain t.kind) (take l.token-index l.tokens) ≡ true;
}
