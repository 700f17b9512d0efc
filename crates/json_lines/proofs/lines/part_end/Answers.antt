use Rattle.std.proofs.Common.{◌≡◌, ◌+◌, ◌++◌, ℕ, suc, length, take, drop, arith, sym, subst, ◌∙◌, true≢false}
use Rattle.std.proofs.lemmas.Bool.{eqb-true}
use Rattle.json_lines.specs.Parts.{IsWhole}
use Rattle.json_lines.proofs.Shown.{through_feed, all_part, nothing_whole}
use Rattle.json_lines.proofs.lines.part_end.Goals as goal

pub returns-in-Some : goal.returns-in-Some
returns-in-Some c =
    let bytes = c.args.bytes.now in
    let at = c.in-Some.at in
    let high = c.in-Some.ensures.0.high in
    let plus : at + 1 ≡ suc at = omega arith in
    record {
      within = omega (arith, high);
      whole = λ _ rest _. subst (λ (n : ℕ). IsWhole (bytes ++ rest) (take n bytes) (drop n bytes ++ rest)) (sym plus)
          (through_feed bytes rest at (λ j lt h. c.in-Some.ensures.0.before j (omega arith) lt h) high c.in-Some.ensures.1);
      part = λ e. absurd (true≢false e);
    }

pub returns-in-None : goal.returns-in-None
returns-in-None c =
    let bytes = c.args.bytes.now in
    record {
      within = omega arith;
      whole = λ e rest last. let none = eqb-true _ _ (sym c.is_empty.ensures ∙ e) in nothing_whole bytes rest (length bytes) none (last none);
      part = λ _ rest. all_part bytes rest (λ j lt h. c.in-None.ensures j (omega arith) lt h);
    }
