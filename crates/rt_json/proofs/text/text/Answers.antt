use Rattle.std.proofs.Common.{◌≡◌, List, ℕ, [], ◌++◌, ◌∙◌, ap, refl, arith}
use Rattle.std.specs.Prelude.{string_bytes}
use Rattle.rt_json.proofs.Texts.{piece_leads, more_from}
use Rattle.rt_json.proofs.text.text.Goals as goal

pub returns : goal.returns
returns c =
    let bytes = c.args.bytes.now in
    let front = c.ascii-front.result.now in
    let is : string_bytes c.push_str.new.self ≡ [] ++ front = c.in_ok-push_str.ensures.bytes ∙ ap (λ (xs : List ℕ). xs ++ front) c.in_ok-text-2.ensures.bytes in
    more_from bytes c.args.at c.past_ascii-to.result [] (string_bytes c.push_str.new.self) c.more.result (omega (arith, c.past_ascii-to.ensures.run))
    (piece_leads bytes c.args.at c.args.at c.past_ascii-to.result [] [] front (string_bytes c.push_str.new.self) (λ stack slot. refl) c.ascii-front.ensures is) c.more.ensures
