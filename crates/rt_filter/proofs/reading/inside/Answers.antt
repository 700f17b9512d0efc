use Rattle.std.proofs.Common.{Some, None, lit<, refl}
use Rattle.std.proofs.lemmas.Str.Pattern.{strip_prefix_char, strip_suffix_char}
use Rattle.rt_filter.proofs.Parentheses.{inside-no_front, inside-no_end}
use Rattle.rt_filter.proofs.reading.inside.Goals as goal

pub returns-in_err-strip_prefix : goal.returns-in_err-strip_prefix
returns-in_err-strip_prefix c =
    let e = inside-no_front c.args.value.now (strip_prefix_char 40 c.args.value.now None c.in_err-strip_prefix.ensures.cases (lit< tt)) in
    rw (c.from_residual.ensures, e) refl

pub returns-in_err-texts : goal.returns-in_err-texts
returns-in_err-texts c =
    let e =
    inside-no_end c.args.value.now c.in_ok-strip_prefix.field-0.now
    (strip_prefix_char 40 c.args.value.now (Some c.in_ok-strip_prefix.field-0) c.in_ok-strip_prefix.ensures.cases (lit< tt))
    (strip_suffix_char 41 c.in_ok-strip_prefix.field-0.now None c.in_err-texts.ensures.cases (lit< tt)) in
    rw (c.from_residual-in_err-texts.ensures, e) refl
