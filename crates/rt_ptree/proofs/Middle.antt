-- Entries in three pieces, the keys of the first below k and those of the last above it: what is sought at k, or
-- changed there, is sought and changed in the middle one.
use Rattle.std.proofs.Common.{◌≡◌, Some, List, [], ◌∷◌, ◌++◌, slice_get, is_some, refl, ap, None, false}
use Rattle.std.specs.declared.cmp.Ordering.{Ordering}
use Rattle.std.specs.declared.cmp.Ordering.TheVariants.{Less, Equal, Greater}
use Rattle.std.specs.BTreeMap.{insert_entry}
use Rattle.std.specs.Option.{option_or}
use Rattle.std.specs.Ordering.{match_ordering, is_eq, is_lt}
use Rattle.std.specs.Prelude.{cond}
use Rattle.rt_ptree.specs.Entries.{IsBelow, IsAbove, value_at, entry_after, without_key}

module _ {K V : Type 0} (cmp : K → K → Ordering) (k : K) where
  insert_entry-front : (v : V) (m c : List (K × V)) → IsAbove cmp c k → insert_entry cmp (m ++ c) k v ≡ insert_entry cmp m k v ++ c
  insert_entry-front v [] [] above = refl
  insert_entry-front v [] (e ∷ c) above = rw above.0
  insert_entry-front v (e ∷ m) c above =
      elim (cmp k e.0) as (λ r. match_ordering r ((k, v) ∷ e ∷ (m ++ c)) ((e.0, v) ∷ (m ++ c)) (e ∷ insert_entry cmp (m ++ c) k v) ≡ match_ordering r ((k, v) ∷ e ∷ m) ((e.0, v) ∷ m) (e ∷ insert_entry cmp m k v) ++ c) [
        | Less ↦ refl
        | Equal ↦ refl
        | Greater ↦ ap (λ z. e ∷ z) (insert_entry-front v m c above)
      ]

  pub insert_entry-middle : (v : V) (a m c : List (K × V)) → IsBelow cmp a k → IsAbove cmp c k → insert_entry cmp (a ++ (m ++ c)) k v ≡ a ++ (insert_entry cmp m k v ++ c)
  insert_entry-middle v [] m c below above = insert_entry-front v m c above
  insert_entry-middle v (e ∷ a) m c below above = rw below.0 (ap (λ z. e ∷ z) (insert_entry-middle v a m c below.1 above))

  without_key-above : (c : List (K × V)) → IsAbove cmp c k → without_key cmp c k ≡ c
  without_key-above [] above = refl
  without_key-above (e ∷ c) above = rw above.0 (ap (λ z. e ∷ z) (without_key-above c above.1))

  without_key-front : (m c : List (K × V)) → IsAbove cmp c k → without_key cmp (m ++ c) k ≡ without_key cmp m k ++ c
  without_key-front [] c above = without_key-above c above
  without_key-front (e ∷ m) c above =
      elim (cmp k e.0) as (λ r. cond (is_eq r) (m ++ c) (e ∷ without_key cmp (m ++ c) k) ≡ cond (is_eq r) m (e ∷ without_key cmp m k) ++ c) [
        | Less ↦ ap (λ z. e ∷ z) (without_key-front m c above)
        | Equal ↦ refl
        | Greater ↦ ap (λ z. e ∷ z) (without_key-front m c above)
      ]

  pub without_key-middle : (a m c : List (K × V)) → IsBelow cmp a k → IsAbove cmp c k → without_key cmp (a ++ (m ++ c)) k ≡ a ++ (without_key cmp m k ++ c)
  without_key-middle [] m c below above = without_key-front m c above
  without_key-middle (e ∷ a) m c below above = rw below.0 (ap (λ z. e ∷ z) (without_key-middle a m c below.1 above))

  pub value_at-above : (c : List (K × V)) → IsAbove cmp c k → value_at cmp c k ≡ None
  value_at-above [] above = refl
  value_at-above (e ∷ c) above = rw above.0 (value_at-above c above.1)

  value_at-front : (m c : List (K × V)) → IsAbove cmp c k → value_at cmp (m ++ c) k ≡ value_at cmp m k
  value_at-front [] c above = value_at-above c above
  value_at-front (e ∷ m) c above =
      elim (cmp k e.0) as (λ r. cond (is_eq r) (Some e.1) (value_at cmp (m ++ c) k) ≡ cond (is_eq r) (Some e.1) (value_at cmp m k)) [
        | Less ↦ value_at-front m c above
        | Equal ↦ refl
        | Greater ↦ value_at-front m c above
      ]

  pub value_at-middle : (a m c : List (K × V)) → IsBelow cmp a k → IsAbove cmp c k → value_at cmp (a ++ (m ++ c)) k ≡ value_at cmp m k
  value_at-middle [] m c below above = value_at-front m c above
  value_at-middle (e ∷ a) m c below above = rw below.0 (value_at-middle a m c below.1 above)

  entry_after-front : (m c : List (K × V)) → IsAbove cmp c k → entry_after cmp (m ++ c) k ≡ option_or (entry_after cmp m k) (slice_get c 0)
  entry_after-front [] [] above = refl
  entry_after-front [] (e ∷ c) above = rw above.0
  entry_after-front (e ∷ m) c above =
      elim (cmp k e.0) as (λ r. cond (is_lt r) (Some e) (entry_after cmp (m ++ c) k) ≡ option_or (cond (is_lt r) (Some e) (entry_after cmp m k)) (slice_get c 0)) [
        | Less ↦ refl
        | Equal ↦ entry_after-front m c above
        | Greater ↦ entry_after-front m c above
      ]

  -- an entry after k is in the middle piece, or else the first of the last piece
  pub entry_after-middle : (a m c : List (K × V)) → IsBelow cmp a k → IsAbove cmp c k → entry_after cmp (a ++ (m ++ c)) k ≡ option_or (entry_after cmp m k) (slice_get c 0)
  entry_after-middle [] m c below above = entry_after-front m c above
  entry_after-middle (e ∷ a) m c below above = rw below.0 (entry_after-middle a m c below.1 above)

  -- a key that is not there takes nothing away
  pub without_key-absent : (es : List (K × V)) → is_some (value_at cmp es k) ≡ false → without_key cmp es k ≡ es
  without_key-absent [] absent = refl
  without_key-absent (e ∷ es) absent =
      elim (cmp k e.0) as (λ r. is_some (cond (is_eq r) (Some e.1) (value_at cmp es k)) ≡ false → cond (is_eq r) es (e ∷ without_key cmp es k) ≡ e ∷ es) [
        | Less ↦ λ h. ap (λ z. e ∷ z) (without_key-absent es h)
        | Equal ↦ λ h. cc
        | Greater ↦ λ h. ap (λ z. e ∷ z) (without_key-absent es h)
      ] absent
