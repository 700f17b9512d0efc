use Rattle.std.proofs.Common.{ℕ, cond, List, Some, ap, ◌∙◌}
use Rattle.std.specs.Prelude.{string_bytes}
use Rattle.std.specs.Str.{bytes_eq}
use Rattle.std.specs.HashMap.{get_by_text}
use Rattle.std.proofs.lemmas.Map.Text.{hash_map_updates_text}
use Rattle.rt_names.proofs.Within.{put_within}
use Rattle.rt_names.proofs.numbers.Numbers.put.Goals as goal

pub returns : goal.returns
returns c = λ s q.
    let rest = c.taken-within.new.schemas in
    let taken = c.taken-within.result in
    let named = c.insert.new.self in
    let number = c.args.number in
    let name = c.in_ok-from_str.field-0 in
    let schema = c.in_ok-from_str-2.field-0 in
    let put =
    hash_map_updates_text (string_bytes name) taken named (Some number) c.in_ok-insert.ensures.updates q
    ∙ ap (λ (t : List ℕ). cond (bytes_eq t q) (Some number) (get_by_text taken q)) c.in_ok-from_str.ensures.ok in
    let back =
    hash_map_updates_text (string_bytes schema) rest c.insert-2.new.self (Some named) c.in_ok-insert-2.ensures.updates s
    ∙ ap (λ (t : List ℕ). cond (bytes_eq t s) (Some named) (get_by_text rest s)) c.in_ok-from_str-2.ensures.ok in
    put_within c.args.schema.now s c.args.name.now q number taken named (get_by_text c.args.self.now.schemas)
    (get_by_text rest) (get_by_text c.insert-2.new.self) (c.taken-within.ensures.taken q)
    (c.taken-within.ensures.others s) put back
