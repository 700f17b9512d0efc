use Rattle.std.proofs.Common.{ℕ, List, ◌≡◌, IfOk, subst}
use Rattle.rt_json.specs.declared.tree.Json.{Null}
use Rattle.rt_phx.specs.Frame.{message}
use Rattle.rt_phx.proofs.Spelling.{object_out, no_bytes, utf8_behind}
use Rattle.rt_phx.proofs.encoding.encode_object.Goals as goal

pub returns : goal.returns
returns c =
    let e0 = c.new-out.ensures.items in
    let e1 = c.in_ok-out.ensures in
    let e2 = c.in_ok-out-2.ensures in
    let e3 = c.in_ok-out-3.ensures in
    let e4 = c.in_ok-out-4.ensures in
    let said = message Null c.args.reference.now c.args.topic.now c.args.event.now c.args.payload.now in
    record {
      spelling =
          subst (λ (xs : List ℕ). IfOk c.with_str.result (λ all. all.items ≡ xs))
          (object_out said _ _ _ _ _ e0 e1.spelling e2.spelling e3.spelling e4.spelling)
          c.with_str.ensures.spelling;
      utf8 = utf8_behind c.with_str.result (λ all. all.items) _
          (e4.utf8 (e3.utf8 (e2.utf8 (e1.utf8 (no_bytes _ e0))))) c.with_str.ensures.utf8;
    }
