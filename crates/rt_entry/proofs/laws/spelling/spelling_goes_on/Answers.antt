use Rattle.rt_entry.proofs.Marks.{told_append}
use Rattle.rt_entry.proofs.Spelling.{spell_append, version_append}
use Rattle.rt_entry.proofs.laws.spelling.spelling_goes_on.Goals as goal

pub returns : goal.returns
returns c = record { spelled = spell_append; versions = version_append; told = told_append }
