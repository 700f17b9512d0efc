use Rattle.std.proofs.Common.{List, ℕ, sym, subst}
use Rattle.std.proofs.lemmas.Result.{err_from_is_err_and}
use Rattle.rt_form.specs.Script.{IsClaims, IsJoin}
use Rattle.rt_form.proofs.Equal.{same_script}
use Rattle.rt_form.proofs.script_text.script_of.Goals as goal

pub returns-in_err-are_claims-clause-only : goal.returns-in_err-are_claims-clause-only
returns-in_err-are_claims-clause-only c = λ script h.
    let P : List ℕ → Type 0 = λ r. IsClaims r c.args.parts.claims.now in
    let here = subst P (sym c.get.ensures.bytes) h.claimed in
    let p = err_from_is_err_and c.from_residual.result c.from_residual.ensures.1 in
    rw (p.1, p.2) (c.in_err-are_claims.ensures.only here)

pub returns-in_err-join-clause-only : goal.returns-in_err-join-clause-only
returns-in_err-join-clause-only c = λ script h.
    let P : List ℕ → Type 0 = λ t. IsJoin t c.args.parts.frame.now script.join in
    let here = subst P (sym c.get-2.ensures.bytes) h.joined in
    let p = err_from_is_err_and c.from_residual-in_err-join.result c.from_residual-in_err-join.ensures.1 in
    rw (p.1, p.2) (c.in_err-join.ensures.only script.join here)

pub returns-in_err-row-clause-only : goal.returns-in_err-row-clause-only
returns-in_err-row-clause-only c = λ script h.
    let p = err_from_is_err_and c.from_residual-in_err-row.result c.from_residual-in_err-row.ensures.1 in
    rw (p.1, p.2) (c.in_err-row.ensures.only _ h.inserted)

pub returns-clause-only : goal.returns-clause-only
returns-clause-only c = λ script h.
    let P : List ℕ → Type 0 = λ t. IsJoin t c.args.parts.frame.now script.join in
    same_script _ script h.slot_is (c.in_ok-join.ensures.only script.join
    (subst P (sym c.get-2.ensures.bytes) h.joined)) (c.in_ok-row.ensures.only _ h.inserted)
