use Rattle.std.proofs.Common.{ℕ, List, ◌≡◌, IfOk, subst}
use Rattle.rt_phx.proofs.Spelling.{list_out, no_bytes, utf8_behind}
use Rattle.rt_phx.proofs.encoding.encode_list.Goals as goal

pub returns : goal.returns
returns c =
    let e0 = c.new-out.ensures.items in
    let e1 = c.in_ok-out.ensures in
    let e2 = c.in_ok-out-2.ensures in
    let e3 = c.in_ok-out-3.ensures in
    let e4 = c.in_ok-out-4.ensures in
    let e5 = c.in_ok-out-5.ensures in
    record {
      spelling =
          subst (λ (xs : List ℕ). IfOk c.with_str.result (λ all. all.items ≡ xs))
          (list_out _ _ _ _ _ _ _ e0 e1.spelling e2.spelling e3.spelling e4.spelling e5.spelling)
          c.with_str.ensures.spelling;
      utf8 = utf8_behind c.with_str.result (λ all. all.items) _
          (e5.utf8 (e4.utf8 (e3.utf8 (e2.utf8 (e1.utf8 (no_bytes _ e0)))))) c.with_str.ensures.utf8;
    }
