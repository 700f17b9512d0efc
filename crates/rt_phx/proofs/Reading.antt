-- The message of a tree, from its parts.
use Rattle.std.proofs.Common.{◌≡◌, ℕ, List, [], ◌∷◌, ◌++◌, Option, Some, None, refl, ap, sym, ◌∙◌}
use Rattle.std.specs.Prelude.{codes, unwrap_or, option_map}
use Rattle.std.specs.Option.{option_zip, option_or}
use Rattle.rt_value.specs.Choice.{◌>>=◌}
use Rattle.rt_json.specs.declared.tree.Json.{Json, Null}
use Rattle.rt_json.specs.declared.tree.Json.TheVariants as j
use Rattle.rt_json.specs.declared.tree.named.Member.{Member}
use Rattle.rt_json.specs.Lookup.{last_named}
use Rattle.rt_json.specs.Trees.{text_of, list_of}
use Rattle.rt_json.proofs.Lookups.{object_members, list_items}
use Rattle.rt_phx.specs.declared.message.Message.{Message}
use Rattle.rt_phx.specs.declared.parts.Parts.{Parts}
use Rattle.rt_phx.specs.Frame.{message, message_of_object, message_of_five, ref_of, no_members}
use Rattle.rt_phx.specs.Parts.{value_under, parts_among, parts_with, parts_in_five, message_of_parts}

-- a member more at the end of an object
option_or_assoc : (a b c : Option Json) → option_or (option_or a b) c ≡ option_or a (option_or b c)
option_or_assoc None b c = refl
option_or_assoc (Some x) b c = refl

pub last_more : (name : List ℕ) (ms : List Member) (m : Member)
    → last_named name (ms ++ m ∷ []) ≡ option_or (value_under name m) (last_named name ms)
last_more name [] m = at_end (value_under name m)
  where
    at_end : (o : Option Json) → option_or None o ≡ option_or o None
    at_end None = refl
    at_end (Some x) = refl
last_more name (x ∷ xs) m =
    ap (λ (o : Option Json). option_or o (value_under name x)) (last_more name xs m)
    ∙ option_or_assoc (value_under name m) (last_named name xs) (value_under name x)

pub among_more : (ms : List Member) (m : Member) → parts_among (ms ++ m ∷ []) ≡ parts_with (parts_among ms) m
among_more ms m =
    let of : (name : List ℕ) → last_named name (ms ++ m ∷ [])
    ≡ option_or (value_under name m) (last_named name ms) = λ name. last_more name ms m in
    cong5 _ _ _ _ _ _ _ _ _ _ (of (codes "topic")) (of (codes "event")) (of (codes "payload")) (of (codes "ref"))
    (of (codes "join_ref"))
  where
    cong5 : (t t2 e e2 p p2 r r2 j j2 : Option Json) → t ≡ t2 → e ≡ e2 → p ≡ p2 → r ≡ r2 → j ≡ j2
        → (let a : Parts = record { topic = t; event = e; payload = p; reference = r; join_ref = j } in
        let b : Parts = record { topic = t2; event = e2; payload = p2; reference = r2; join_ref = j2 } in a ≡ b)
    cong5 t t2 e e2 p p2 r r2 j j2 h1 h2 h3 h4 h5 = cc

-- an object's message is that of its parts
pub object_says : (ms : List Member) → message_of_object (j.Object ms) ≡ message_of_parts (parts_among ms)
object_says ms = ap (λ (xs : List Member). message_of_parts (parts_among xs)) (object_members ms)

-- the four forms may be asked in whatever order
in_order : (join_ref reference : Option Json) (topic event : Option (List ℕ)) (payload : Json)
    → (join_ref >>= λ j. reference >>= λ r. topic >>= λ t. event >>= λ e. Some (message j r t e payload))
    ≡ (topic >>= λ t. event >>= λ e. join_ref >>= λ j. reference >>= λ r. Some (message j r t e payload))
in_order (Some j) (Some r) (Some t) (Some e) payload = refl
in_order (Some j) (Some r) (Some t) None payload = refl
in_order (Some j) (Some r) None (Some e) payload = refl
in_order (Some j) (Some r) None None payload = refl
in_order (Some j) None (Some t) (Some e) payload = refl
in_order (Some j) None (Some t) None payload = refl
in_order (Some j) None None e payload = refl
in_order None r (Some t) (Some e) payload = refl
in_order None r (Some t) None payload = refl
in_order None r None e payload = refl

pub five_says : (xs : List Json) → message_of_five xs ≡ (parts_in_five xs >>= message_of_parts)
five_says (join_ref ∷ reference ∷ topic ∷ event ∷ payload ∷ []) = in_order (ref_of join_ref) (ref_of reference)
    (text_of topic) (text_of event) payload
five_says _ = refl

-- the message of texts and refs, where all are there
abbrev pub of_both : Json → Option ((List ℕ × List ℕ) × (Json × Json)) → Option Message
of_both payload both = option_map (λ (b : (List ℕ × List ℕ)
    × (Json × Json)). message b.1.0 b.1.1 b.0.0 b.0.1 payload) both

in_turn : (topic event : Option (List ℕ)) (join_ref reference : Option Json) (payload : Json)
    → of_both payload (option_zip (option_zip topic event) (option_zip join_ref reference))
    ≡ (topic >>= λ t. event >>= λ e. join_ref >>= λ j. reference >>= λ r. Some (message j r t e payload))
in_turn (Some t) (Some e) (Some j) (Some r) payload = refl
in_turn (Some t) (Some e) (Some j) None payload = refl
in_turn (Some t) (Some e) None r payload = refl
in_turn (Some t) None j r payload = refl
in_turn None e j r payload = refl

pub parts_say : (p : Parts) (payload : Json) (topic event : Option (List ℕ)) (join_ref reference : Option Json)
    (texts : Option (List ℕ × List ℕ)) (refs : Option (Json × Json)) (both : Option ((List ℕ × List ℕ) × (Json × Json)))
    → topic ≡ (p.topic >>= text_of) → event ≡ (p.event >>= text_of)
    → join_ref ≡ ref_of (unwrap_or p.join_ref Null) → reference ≡ ref_of (unwrap_or p.reference Null)
    → payload ≡ unwrap_or p.payload no_members
    → texts ≡ option_zip topic event → refs ≡ option_zip join_ref reference → both ≡ option_zip texts refs
    → of_both payload both ≡ message_of_parts p
parts_say p payload topic event join_ref reference texts refs both t e j r y ts rs b =
    ap (of_both payload) (b ∙ ap (λ (o : Option (List ℕ × List ℕ)). option_zip o refs) ts
    ∙ ap (option_zip (option_zip topic event)) rs)
    ∙ in_turn topic event join_ref reference payload ∙ rw (t, e, j, r, y)

pub object_result : (r : Option Message) (tree : Json) (ms ns : List Member) (p : Parts) → tree ≡ j.Object ms
    → ns ≡ ms → p ≡ parts_among ns → r ≡ message_of_parts p → r ≡ message_of_object tree
object_result r tree ms ns p e f g h =
    h ∙ ap message_of_parts g ∙ ap (λ (xs : List Member). message_of_parts (parts_among xs)) f ∙ sym (object_says ms)
    ∙ ap message_of_object (sym e)

pub list_result : (r : Option Message) (tree : Json) (xs ys : List Json) (p : Option Parts) → tree ≡ j.List xs
    → ys ≡ xs → p ≡ parts_in_five ys → r ≡ (p >>= message_of_parts)
    → r ≡ (list_of tree >>= message_of_five)
list_result r tree xs ys p e f g h =
    h ∙ ap (λ (o : Option Parts). o >>= message_of_parts) (g ∙ ap parts_in_five f) ∙ sym (five_says xs)
    ∙ ap (λ (o : Option (List Json)). o >>= message_of_five) (sym (ap list_of e ∙ list_items xs))
