-- The words of the grammar.
use Rattle.std.specs.Prelude.{ℕ, true, false, List, codes}
use Rattle.rt_json.specs.declared.tree.Json.{Json}
use Rattle.rt_json.specs.declared.tree.Json.TheVariants as j
use Rattle.rt_json.specs.declared.bytes.Word.{Word}
use Rattle.rt_json.specs.declared.bytes.Word.TheVariants as w

-- without the first letter
abbrev pub word_rest : Word → List ℕ
word_rest w.Null = codes "ull"
word_rest w.True = codes "rue"
word_rest w.False = codes "alse"

abbrev pub word_tree : Word → Json
word_tree w.Null = j.Null
word_tree w.True = j.Bool true
word_tree w.False = j.Bool false
