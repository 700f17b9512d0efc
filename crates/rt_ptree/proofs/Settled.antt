-- A list in which pieces stand for one part.
use Rattle.std.proofs.Common.{◌≡◌, ℕ, ◌+◌, ◌<◌, ◌≤◌, Some, Result, Ok, Err, OnErr, zero, suc, List, [], ◌∷◌, ◌++◌, All, length, take, drop, get_or, slice_set, sym, subst, ap, ◌∙◌, flat_map, arith}
use Rattle.std.specs.declared.cmp.Ordering.{Ordering}
use Rattle.std.proofs.lemmas.List.{take-set, drop-set-lt, get_or-set_same, length-set}
use Rattle.std.proofs.lemmas.List.Concat.{flat_map-append}
use Rattle.std.proofs.lemmas.List.Elements.{All-append, All-take, All-drop}
use Rattle.std.specs.Arc.{arc_value}
use Rattle.std.specs.declared.alloc.Global.{Global}
use Rattle.std.specs.declared.sync.Arc.{Arc}
use Rattle.rt_ptree.specs.declared.node.Node.{Node}
use Rattle.rt_ptree.specs.Parts.{node_parts, IsFitNode}
use Rattle.rt_ptree.specs.declared.change.Change.{Change}
use Rattle.rt_ptree.specs.declared.part.Pieces.{Pieces}
use Rattle.rt_ptree.specs.Change.{change_key, changed}
use Rattle.rt_ptree.specs.Entries.{IsBelow, IsAbove, least_key}
use Rattle.rt_ptree.specs.Pieces.{pieces_list}
use Rattle.rt_ptree.proofs.Places.{flat_map-at, changed-at}

-- what holds whatever the result
pub on_err : {A E : Type 0} {P : Type 0} (r : Result A E) → P → OnErr r P
on_err (Ok a) h = tt
on_err (Err e) h = h

-- what holds of an element holds of all of its list
pub All-one : {C : Type 0} (P : C → Type 0) (x : C) → P x → All P (x ∷ [])
All-one P x h zero d within = h
All-one P x h (suc k) d within = absurd (omega (arith, within))

-- a node with these parts, and their least key beside them
pub IsFitNode-from : {K V C : Type 0} (most : ℕ) (entries : C → List (K × V)) (fit : C → Type 0) (a : Arc (Node K C) Global) (parts : List C) (l : K) → node_parts a ≡ parts → arc_value (arc_value a).least ≡ l
    → 0 < length parts → length parts ≤ most → All fit parts → least_key (flat_map entries parts) ≡ Some l → IsFitNode most entries fit a
IsFitNode-from most entries fit a parts l is beside some within fits least =
    record {
      some = subst (λ ps. 0 < length ps) (sym is) some;
      within = subst (λ ps. length ps ≤ most) (sym is) within;
      fits = subst (All fit) (sym is) fits;
      least = ap (λ ps. least_key (flat_map entries ps)) is ∙ least ∙ ap (λ k. Some k) (sym beside);
    }

module _ {C : Type 0} (parts : List C) (i : ℕ) (y : C) (within : i < length parts) where
  -- the pieces that stand for y, which was put at i
  pub settled : (new : List C) (p : Pieces C) → ((a : C) → a ≡ get_or (slice_set parts i y) i a → new ≡ take i (slice_set parts i y) ++ (pieces_list a p ++ drop (i + 1) (slice_set parts i y)))
      → new ≡ take i parts ++ (pieces_list y p ++ drop (i + 1) parts)
  settled new p h =
      h y (sym (get_or-set_same parts i y y within))
      ∙ ap (λ ys. ys ++ (pieces_list y p ++ drop (i + 1) (slice_set parts i y))) (take-set parts i y)
      ∙ ap (λ ys. take i parts ++ (pieces_list y p ++ ys)) (drop-set-lt (i + 1) parts i y (omega arith))

  pub All-settled : (P : C → Type 0) (new : List C) (p : Pieces C) → new ≡ take i parts ++ (pieces_list y p ++ drop (i + 1) parts) → All P parts → All P (pieces_list y p) → All P new
  All-settled P new p is all pieces =
      subst (All P) (sym is) (All-append P _ _ (All-take P i parts all) (All-append P _ _ pieces (All-drop P (i + 1) parts all)))

  -- a part with the same entries
  pub flat_map-set : {E : Type 0} (f : C → List E) (x : C) → x ≡ get_or parts i x → f y ≡ f x → flat_map f (slice_set parts i y) ≡ flat_map f parts
  flat_map-set f x read same =
      flat_map-at f (slice_set parts i y) i y (rw (length-set parts i y) within) (sym (get_or-set_same parts i y y within))
      ∙ ap (λ ys. flat_map f ys ++ (f y ++ flat_map f (drop (i + 1) (slice_set parts i y)))) (take-set parts i y)
      ∙ ap (λ ys. flat_map f (take i parts) ++ (f y ++ flat_map f ys)) (drop-set-lt (i + 1) parts i y (omega arith))
      ∙ ap (λ es. flat_map f (take i parts) ++ (es ++ flat_map f (drop (i + 1) parts))) same
      ∙ sym (flat_map-at f parts i x within read)

  -- pieces with the entries of x after the change
  pub changed-settled : {K V : Type 0} (cmp : K → K → Ordering) (f : C → List (K × V)) (x : C) → x ≡ get_or parts i x → (new : List C) (p : Pieces C) (c : Change K V)
      → IsBelow cmp (flat_map f (take i parts)) (change_key c) → IsAbove cmp (flat_map f (drop (i + 1) parts)) (change_key c)
      → new ≡ take i parts ++ (pieces_list y p ++ drop (i + 1) parts) → flat_map f (pieces_list y p) ≡ changed cmp c (f x) → flat_map f new ≡ changed cmp c (flat_map f parts)
  changed-settled cmp f x read new p c below above is entries =
      ap (flat_map f) is
      ∙ flat_map-append f (take i parts) (pieces_list y p ++ drop (i + 1) parts)
      ∙ ap (λ es. flat_map f (take i parts) ++ es) (flat_map-append f (pieces_list y p) (drop (i + 1) parts))
      ∙ ap (λ es. flat_map f (take i parts) ++ (es ++ flat_map f (drop (i + 1) parts))) entries
      ∙ sym (changed-at cmp f parts i x within read c below above)
