use Rattle.std.proofs.Common.{ℕ, List, ◌++◌, IsUtf8, subst, sym, ap, ◌∙◌}
use Rattle.std.proofs.lemmas.Str.{IsUtf8-append}
use Rattle.rt_phx.proofs.encoding.with_str.Goals as goal

pub returns-clause-utf8 : goal.returns-clause-utf8
returns-clause-utf8 c = λ u.
    subst IsUtf8 (sym (c.in_ok-extend_from_slice.ensures.items
    ∙ ap (λ (xs : List ℕ). c.args.out.items ++ xs) c.as_bytes.ensures.value))
    (IsUtf8-append c.args.out.items c.args.text.now u c.utf8.text)
