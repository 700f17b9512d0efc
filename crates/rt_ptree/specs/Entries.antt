-- An ordered map as the list of its entries, each a key and its value.
use Rattle.std.specs.Prelude.{◌≡◌, List, Option, find, option_map, slice_get, if◌then◌else◌}
use Rattle.std.specs.declared.cmp.Ordering.{Ordering}
use Rattle.std.specs.declared.cmp.Ordering.TheVariants.{Less, Greater}
use Rattle.std.specs.BTreeMap.{is_at}
use Rattle.std.specs.List.{AllByRecursion}
use Rattle.std.specs.List.Sorted.{IsStrictlySortedBy}
use Rattle.std.specs.Map.{keys_of, lookup, remove_entry}
use Rattle.std.specs.Ordering.{is_lt}
use denote.Ref.{Bor}

module _ {K V : Type 0} (cmp : K → K → Ordering) where
  -- each key is below those after it
  abbrev pub IsRising : List (K × V) → Type 0
  IsRising es = IsStrictlySortedBy cmp (keys_of es)

  -- the value at the key k
  abbrev pub value_at : List (K × V) → K → Option V
  value_at es k = lookup (is_at (cmp k)) es

  -- the first entry whose key is above k
  abbrev pub entry_after : List (K × V) → K → Option (K × V)
  entry_after es k = find (λ e. is_lt (cmp k e.0)) es

  -- the entries but for that at the key k
  abbrev pub without_key : List (K × V) → K → List (K × V)
  without_key es k = remove_entry (is_at (cmp k)) es

  -- new has at the key k what w says, and at each other key what old has
  abbrev pub Updates : List (K × V) → List (K × V) → K → Option V → Type 0
  Updates old new k w = (q : K) → value_at new q ≡ (if is_at (cmp k) q then w else value_at old q)

  -- each key is below k
  abbrev pub IsBelow : List (K × V) → K → Type 0
  IsBelow es k = AllByRecursion (λ e. cmp k e.0 ≡ Greater) es

  -- each key is above k
  abbrev pub IsAbove : List (K × V) → K → Type 0
  IsAbove es k = AllByRecursion (λ e. cmp k e.0 ≡ Less) es

-- the least key, where keys rise
abbrev pub least_key : {K V : Type 0} → List (K × V) → Option K
least_key es = option_map (λ e. e.0) (slice_get es 0)

-- the entry that is lent as a pair of references
abbrev pub entry_lent : {K V : Type 0} → Option (Bor K × Bor V) → Option (K × V)
entry_lent o = option_map (λ e. (e.0.now, e.1.now)) o
