use Rattle.std.proofs.Common.{refl, ap, ◌∙◌, sym, List, ℕ, ◌++◌, drop}
use Rattle.rt_json.proofs.Steps.{slice_rest}
use Rattle.rt_json.proofs.text.known.Goals as goal

pub returns-in-Ok : goal.returns-in-Ok
returns-in-Ok c =
    let bytes = c.args.bytes.now in
    let rest : List ℕ = drop c.args.to bytes in
    (rest, slice_rest bytes c.args.from c.args.to c.requires.order ∙ ap (λ (xs : List ℕ). xs ++ rest) (sym c.in-Ok.ensures.cases.0))

pub returns-in-Err : goal.returns-in-Err
returns-in-Err c = (drop c.args.from c.args.bytes.now, refl)
