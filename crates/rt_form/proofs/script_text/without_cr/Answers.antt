use Rattle.std.proofs.Common.{◌∙◌, ap, lit<, sym}
use Rattle.std.proofs.lemmas.Str.Pattern.{strip_suffix_char}
use Rattle.rt_wal.specs.Records.{without_last}
use Rattle.rt_wal.proofs.Ends.{last_kept, last_taken}
use Rattle.rt_form.proofs.script_text.without_cr.Goals as goal

pub returns-in-Some : goal.returns-in-Some
returns-in-Some c =
    let cut = strip_suffix_char 13 c.args.line.now c.strip_suffix.result c.strip_suffix.ensures.cases (lit< tt) in
    sym (ap (without_last 13) (rw c.in-Some.is at cut) ∙ last_taken c.in-Some.rest.now 13)

pub returns-in-None : goal.returns-in-None
returns-in-None c =
    let cut = strip_suffix_char 13 c.args.line.now c.strip_suffix.result c.strip_suffix.ensures.cases (lit< tt) in
    sym (last_kept 13 c.args.line.now (rw c.in-None.is at cut))
