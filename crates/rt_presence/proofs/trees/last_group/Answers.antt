use Rattle.std.proofs.Common.{◌≡◌, ◌++◌, ◌∷◌, [], ℕ, List, ap, sym, ◌∙◌, true, false}
use Rattle.std.specs.Str.{bytes_eq}
use Rattle.rt_json.specs.declared.tree.Json.{Json}
use Rattle.rt_presence.specs.Trees.{Groups, put_last}
use Rattle.rt_presence.proofs.Neighbours.{put_same, put_other}
use Rattle.rt_presence.proofs.trees.last_group.Goals as goal

pub returns-then-eq : goal.returns-then-eq
returns-then-eq c =
    let key = c.args.key.now in
    let rest = c.pop.new.self.items in
    let same : bytes_eq c.in-Some.last key ≡ true =
    ap (λ (xs : List ℕ). bytes_eq xs key) (sym c.get.ensures.bytes)
    ∙ ap (bytes_eq c.get.result.now) (sym c.get-in-Some.ensures.bytes) ∙ sym c.eq.ensures ∙ c.if-eq.true in
    λ (meta : Json).
    ap (λ (ms : List Json). rest ++ (c.in-Some.last, ms ++ meta ∷ []) ∷ []) c.into_inner.ensures
    ∙ put_same key meta rest c.in-Some.last c.in-Some.metas same
    ∙ ap (λ (gs : Groups). put_last (key, meta) gs) (sym c.in-Some.ensures.items)

pub returns-in_ok-copy-in-Some : goal.returns-in_ok-copy-in-Some
returns-in_ok-copy-in-Some c =
    let key = c.args.key.now in
    let rest = c.pop.new.self.items in
    let other : bytes_eq c.in-Some.last key ≡ false =
    ap (λ (xs : List ℕ). bytes_eq xs key) (sym c.get.ensures.bytes)
    ∙ ap (bytes_eq c.get.result.now) (sym c.get-in-Some.ensures.bytes) ∙ sym c.eq.ensures ∙ c.if-eq.false in
    λ (meta : Json).
    ap (λ (gs : Groups). gs ++ (c.in_ok-copy-in-Some.field-0, c.new-in-Some.result.items ++ meta ∷ []) ∷ [])
    c.in_ok-push-in-Some.ensures.items
    ∙ ap (λ (k : List ℕ). (rest ++ (c.in-Some.last, c.in-Some.metas) ∷ [])
    ++ (k, c.new-in-Some.result.items ++ meta ∷ []) ∷ []) c.in_ok-copy-in-Some.ensures
    ∙ ap (λ (ms : List Json). (rest ++ (c.in-Some.last, c.in-Some.metas) ∷ []) ++ (key, ms ++ meta ∷ []) ∷ [])
    c.new-in-Some.ensures.items
    ∙ put_other key meta rest c.in-Some.last c.in-Some.metas other
    ∙ ap (λ (gs : Groups). put_last (key, meta) gs) (sym c.in-Some.ensures.items)
