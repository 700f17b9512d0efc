-- What a client reads of trees of metas is what was written, up to order.
use Rattle.std.proofs.Common.{◌≡◌, ℕ, ◌<◌, Bool, true, false, not, cond, List, [], ◌∷◌, ◌++◌, map, Option, Some, None}
use Rattle.std.proofs.Common.{refl, sym, ap, ◌∙◌, inl, inr}
use Rattle.std.specs.Prelude.{◌==◌, ◌^◌, codes, unwrap_or}
use Rattle.std.specs.Fmt.{decimal}
use Rattle.std.specs.List.{filter, flat_map}
use Rattle.std.specs.Str.{bytes_eq}
use Rattle.std.proofs.lemmas.Bool.Decides.{eqb_tells}
use Rattle.std.proofs.lemmas.Fmt.{decimal_injective}
use Rattle.std.proofs.lemmas.Slice.Eq.{bytes_eq-Decides}
use Rattle.std.specs.Option.{option_or}
use Rattle.rt_value.specs.Choice.{◌>>=◌}
use Rattle.rt_value.proofs.Plain.{filter_alike, all_every}
use Rattle.rt_value.proofs.Moves.{Moves, then_to, moves_same, moves_filter, moves_left, moves_right, moves_any}
use Rattle.rt_value.proofs.Keys.{IsIn, ordered_rises, ordered_has, of_key, group, grouped}
use Rattle.rt_json.specs.declared.tree.Json.{Json, Text}
use Rattle.rt_json.specs.declared.tree.Json.TheVariants as j
use Rattle.rt_json.specs.declared.tree.named.Member.{Member}
use Rattle.rt_json.specs.Lookup.{last_named, members_of}
use Rattle.rt_json.specs.Trees.{field, list_of, text_of}
use Rattle.rt_json.proofs.Lookups.{object_members, object_at, list_items}
use Rattle.rt_presence.specs.Trees.{Held, is_kept, meta_object, under_key, metas_of, metas_tree, joins_and_leaves}
use Rattle.rt_presence.specs.Reading.{metas_under, metas_in, reference_of, part_of, is_among, after_difference}
use Rattle.rt_presence.proofs.Groups.{all_unmap, keys}

flat_of_map : {A B C : Type 0} (f : B → List C) (g : A → B) (xs : List A)
    → flat_map f (map g xs) ≡ flat_map (λ x. f (g x)) xs
flat_of_map f g [] = refl
flat_of_map f g (x ∷ xs) = ap (λ ys. f (g x) ++ ys) (flat_of_map f g xs)

flat_same : {A B : Type 0} (f g : A → List B) (xs : List A) → ((x : A) → f x ≡ g x) → flat_map f xs ≡ flat_map g xs
flat_same f g [] e = refl
flat_same f g (x ∷ xs) e = ap (λ ys. ys ++ flat_map f xs) (e x) ∙ ap (λ ys. g x ++ ys) (flat_same f g xs e)

-- the metas under a key
abbrev key_of : Held → List ℕ
key_of h = h.0

abbrev paired : List ℕ → Json → Held
paired k meta = (k, meta)

own_pair : (k : List ℕ) (h : Held) (hs : List Held) (b : Bool) → of_key key_of k h ≡ b
    → map (paired k) (map (λ (x : Held). x.1) (group key_of hs k)) ≡ group key_of hs k
    → map (paired k) (map (λ (x : Held). x.1) (cond b (h ∷ group key_of hs k) (group key_of hs k)))
    ≡ cond b (h ∷ group key_of hs k) (group key_of hs k)
own_pair k h hs true e more =
    ap (λ (x : List ℕ). paired x h.1 ∷ map (paired k) (map (λ (y : Held). y.1) (group key_of hs k)))
    (sym ((bytes_eq-Decides h.0 k).0 e)) ∙ ap (λ ys. h ∷ ys) more
own_pair k h hs false e more = more

pairs_again : (k : List ℕ) (hs : List Held) → map (paired k) (map (λ (x : Held). x.1) (group key_of hs k))
    ≡ group key_of hs k
pairs_again k [] = refl
pairs_again k (h ∷ hs) = own_pair k h hs (of_key key_of k h) refl (pairs_again k hs)

under_again : (hs : List Held) (k : List ℕ) → metas_under (metas_of hs k) ≡ group key_of hs k
under_again hs k =
    let ms = under_key hs k in
    let put : List Json → List Held = λ xs. map (paired k) xs in
    ap (λ (o : Option Json). put (unwrap_or (o >>= list_of) []))
    (object_at (field (codes "metas") (j.List ms) ∷ []) (codes "metas"))
    ∙ ap (λ (o : Option (List Json)). put (unwrap_or o [])) (list_items ms)
    ∙ pairs_again k hs

pub read_again : (hs : List Held) → Moves (metas_in (metas_tree hs)) hs
read_again hs =
    let all = flat_map (group key_of hs) (keys hs) in
    let is : metas_in (metas_tree hs) ≡ all =
    ap (flat_map metas_under) (object_members (map (metas_of hs) (keys hs)))
    ∙ flat_of_map metas_under (metas_of hs) (keys hs)
    ∙ flat_same (λ k. metas_under (metas_of hs k)) (group key_of hs) (keys hs) (under_again hs) in
    then_to (metas_in (metas_tree hs)) all hs (moves_same (metas_in (metas_tree hs)) all is)
    (grouped key_of (keys hs) hs (ordered_rises (map key_of hs))
    (all_unmap (IsIn (keys hs)) key_of hs (ordered_has (map key_of hs))))

-- references

left_out : (name : List ℕ) (m : Member) (ms : List Member) (b : Bool) → bytes_eq m.name name ≡ b
    → last_named name ms ≡ None → last_named name (cond (not b) (m ∷ ms) ms) ≡ None
left_out name m ms true e h = h
left_out name m ms false e h = ap (λ (o : Option Json). option_or o (cond (bytes_eq m.name name) (Some m.value) None)) h
    ∙ ap (λ (b : Bool). cond b (Some m.value) None) e

none_left : (name : List ℕ) (ms : List Member)
    → last_named name (filter (λ (m : Member). not (bytes_eq m.name name)) ms) ≡ None
none_left name [] = refl
none_left name (m ∷ ms) = left_out name m (filter (λ (x : Member). not (bytes_eq x.name name)) ms)
    (bytes_eq m.name name) refl (none_left name ms)

pub reference_is : (key : List ℕ) (reference : ℕ) (tree : Json) → reference_of (key, meta_object reference tree)
    ≡ decimal reference
reference_is key reference tree =
    ap (λ (o : Option Json). unwrap_or (o >>= text_of) [])
    (object_at (field (codes "phx_ref") (Text (decimal reference)) ∷ filter is_kept (members_of tree)) (codes "phx_ref")
    ∙ ap (λ (o : Option Json). option_or o (Some (Text (decimal reference))))
    (none_left (codes "phx_ref") (members_of tree)))

differ : (m n : ℕ) (x : Bool) → m < 2 ^ 64 → n < 2 ^ 64 → bytes_eq (decimal m) (decimal n) ≡ x → (m ≡ n → ⊥)
    → bytes_eq (decimal m) (decimal n) ≡ false
differ m n true a b e ne = absurd (ne (decimal_injective m n a b ((bytes_eq-Decides (decimal m) (decimal n)).0 e)))
differ m n false a b e ne = e

pub same_text : (m n : ℕ) → m < 2 ^ 64 → n < 2 ^ 64 → bytes_eq (decimal m) (decimal n) ≡ (m == n)
same_text m n a b = elim (eqb_tells m n) [
  | inl t ↦ (bytes_eq-Decides (decimal m) (decimal n)).1 (ap decimal t.1) ∙ sym t.0
  | inr t ↦ differ m n (bytes_eq (decimal m) (decimal n)) a b refl t.1 ∙ sym t.0
]

-- one difference
pub difference_read : (held seen joins leaves : List Held) → Moves held seen
    → Moves (after_difference held (joins_and_leaves joins leaves))
    (filter (λ h. not (is_among leaves h)) (seen ++ joins))
difference_read held seen joins leaves m =
    let ms : List Member = field (codes "joins") (metas_tree joins) ∷ field (codes "leaves") (metas_tree leaves) ∷ [] in
    let tree = j.Object ms in
    let js = metas_in (metas_tree joins) in
    let ls = metas_in (metas_tree leaves) in
    let stays : List Held → Held → Bool = λ gone h. not (is_among gone h) in
    let joined : part_of (codes "joins") tree ≡ js =
    ap (λ (o : Option Json). metas_in (unwrap_or o (j.Object []))) (object_at ms (codes "joins")) in
    let left : part_of (codes "leaves") tree ≡ ls =
    ap (λ (o : Option Json). metas_in (unwrap_or o (j.Object []))) (object_at ms (codes "leaves")) in
    let is : after_difference held tree ≡ filter (stays ls) (held ++ js) =
    ap (λ (x : List Held). filter (stays x) (held ++ part_of (codes "joins") tree)) left
    ∙ ap (λ (x : List Held). filter (stays ls) (held ++ x)) joined in
    let alike : (h : Held) → stays ls h ≡ stays leaves h =
    λ h. ap not (moves_any (λ g. bytes_eq (reference_of g) (reference_of h)) ls leaves (read_again leaves)) in
    let all = seen ++ joins in
    let both : Moves (held ++ js) all =
    then_to (held ++ js) (seen ++ js) all (moves_left js held seen m) (moves_right seen js joins (read_again joins)) in
    then_to (after_difference held tree) (filter (stays ls) (held ++ js)) (filter (stays leaves) all)
    (moves_same (after_difference held tree) (filter (stays ls) (held ++ js)) is)
    (then_to (filter (stays ls) (held ++ js)) (filter (stays ls) all) (filter (stays leaves) all)
    (moves_filter (stays ls) (held ++ js) all both)
    (moves_same (filter (stays ls) all) (filter (stays leaves) all)
    (filter_alike (stays ls) (stays leaves) all (all_every (λ h. stays ls h ≡ stays leaves h) all alike))))
