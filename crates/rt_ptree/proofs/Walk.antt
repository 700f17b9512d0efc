-- The entries from a key on, of entries in three pieces and of a list of parts.
use Rattle.std.proofs.Common.{◌≡◌, ℕ, ◌+◌, ◌<◌, true, false, List, [], ◌∷◌, ◌++◌, length, take, drop, get_or, refl, ap, sym, ◌∙◌, append_assoc, flat_map}
use Rattle.std.specs.Prelude.{cond}
use Rattle.std.specs.Arc.{arc_value}
use Rattle.std.specs.declared.cmp.Ordering.{Ordering}
use Rattle.std.specs.declared.cmp.Ordering.TheVariants.{Less, Equal, Greater}
use Rattle.std.specs.Ordering.{is_le}
use Rattle.rt_ptree.specs.declared.entry.Entry.{Entry}
use Rattle.rt_ptree.specs.Entries.{IsBelow, IsAbove}
use Rattle.rt_ptree.specs.Parts.{Leaf, Branch, Limb, entry_list, leaf_list, branch_list, limb_list}
use Rattle.rt_ptree.specs.Walk.{entries_from, level_list, behind_list, left_list}
use Rattle.rt_ptree.proofs.Places.{drop-at, flat_map-at}

module _ {K V : Type 0} (cmp : K → K → Ordering) (k : K) where
  entries_from-above : (c : List (K × V)) → IsAbove cmp c k → entries_from cmp c k ≡ c
  entries_from-above [] above = refl
  entries_from-above (e ∷ c) above = rw above.0 (ap (λ z. e ∷ z) (entries_from-above c above.1))

  entries_from-front : (m c : List (K × V)) → IsAbove cmp c k → entries_from cmp (m ++ c) k ≡ entries_from cmp m k ++ c
  entries_from-front [] c above = entries_from-above c above
  entries_from-front (e ∷ m) c above =
      elim (cmp k e.0) as (λ r. cond (is_le r) (e ∷ entries_from cmp (m ++ c) k) (entries_from cmp (m ++ c) k) ≡ cond (is_le r) (e ∷ entries_from cmp m k) (entries_from cmp m k) ++ c) [
        | Less ↦ ap (λ z. e ∷ z) (entries_from-front m c above)
        | Equal ↦ ap (λ z. e ∷ z) (entries_from-front m c above)
        | Greater ↦ entries_from-front m c above
      ]

  entries_from-middle : (a m c : List (K × V)) → IsBelow cmp a k → IsAbove cmp c k → entries_from cmp (a ++ (m ++ c)) k ≡ entries_from cmp m k ++ c
  entries_from-middle [] m c below above = entries_from-front m c above
  entries_from-middle (e ∷ a) m c below above = rw below.0 (entries_from-middle a m c below.1 above)

  -- they are those of the part at the key's place, and all of the parts behind it
  pub entries_from-at : {C : Type 0} (f : C → List (K × V)) (parts : List C) (i : ℕ) (x : C) → i < length parts → x ≡ get_or parts i x → IsBelow cmp (flat_map f (take i parts)) k → IsAbove cmp (flat_map f (drop (i + 1) parts)) k
      → entries_from cmp (flat_map f parts) k ≡ entries_from cmp (f x) k ++ flat_map f (drop (i + 1) parts)
  entries_from-at f parts i x within read below above =
      ap (λ es. entries_from cmp es k) (flat_map-at f parts i x within read) ∙ entries_from-middle _ (f x) _ below above

  module _ (entries : List (Entry K V)) (i : ℕ) (x : Entry K V) (within : i < length entries) (read : x ≡ get_or entries i x) (below : IsBelow cmp (flat_map entry_list (take i entries)) k) (above : IsAbove cmp (flat_map entry_list (drop (i + 1) entries)) k) where
    -- the entry at the key's place is one of them, or they begin behind it
    pub leaf_from-here : is_le (cmp k (arc_value x.key)) ≡ true → flat_map entry_list (drop i entries) ≡ entries_from cmp (flat_map entry_list entries) k
    leaf_from-here le =
        ap (flat_map entry_list) (drop-at entry_list entries i x within read)
        ∙ ap (λ b. cond b (entry_list x) [] ++ flat_map entry_list (drop (i + 1) entries)) (sym le)
        ∙ sym (entries_from-at entry_list entries i x within read below above)

    pub leaf_from-behind : is_le (cmp k (arc_value x.key)) ≡ false → flat_map entry_list (drop (i + 1) entries) ≡ entries_from cmp (flat_map entry_list entries) k
    leaf_from-behind above_it =
        ap (λ b. cond b (entry_list x) [] ++ flat_map entry_list (drop (i + 1) entries)) (sym above_it)
        ∙ sym (entries_from-at entry_list entries i x within read below above)

-- what is left, where the branches and limbs are moved on, and then the leaves and branches
pub behind-moved : {K V : Type 0} (ls ls' : List (Leaf K V)) (bs bs' bs'' : List (Branch K V)) (ms ms' : List (Limb K V)) → level_list branch_list bs' ms' ≡ level_list branch_list bs ms → level_list leaf_list ls' bs'' ≡ level_list leaf_list ls bs'
    → behind_list ls' bs'' ms' ≡ behind_list ls bs ms
behind-moved {K} {V} ls ls' bs bs' bs'' ms ms' upper lower =
    let behind : List (K × V) = flat_map limb_list ms' in
    ap (λ (xs : List (K × V)). xs ++ behind) lower
    ∙ append_assoc (flat_map leaf_list ls) (flat_map branch_list bs') behind
    ∙ ap (λ (xs : List (K × V)). flat_map leaf_list ls ++ xs) upper
    ∙ sym (append_assoc (flat_map leaf_list ls) (flat_map branch_list bs) (flat_map limb_list ms))

-- and then the entries and leaves
pub left-moved : {K V : Type 0} (es es' : List (Entry K V)) (ls ls' ls'' : List (Leaf K V)) (bs bs' : List (Branch K V)) (ms ms' : List (Limb K V)) → behind_list ls' bs' ms' ≡ behind_list ls bs ms → level_list entry_list es' ls'' ≡ level_list entry_list es ls'
    → left_list es' ls'' bs' ms' ≡ left_list es ls bs ms
left-moved {K} {V} es es' ls ls' ls'' bs bs' ms ms' moved same =
    let behind : List (K × V) = level_list branch_list bs' ms' in
    ap (λ (xs : List (K × V)). flat_map entry_list es' ++ xs) (append_assoc (flat_map leaf_list ls'') (flat_map branch_list bs') (flat_map limb_list ms'))
    ∙ sym (append_assoc (flat_map entry_list es') (flat_map leaf_list ls'') behind)
    ∙ ap (λ (xs : List (K × V)). xs ++ behind) same
    ∙ append_assoc (flat_map entry_list es) (flat_map leaf_list ls') behind
    ∙ ap (λ (xs : List (K × V)). flat_map entry_list es ++ xs) (sym (append_assoc (flat_map leaf_list ls') (flat_map branch_list bs') (flat_map limb_list ms')) ∙ moved)
