-- What a push leaves pending.
use Rattle.std.proofs.Common.{◌≡◌, ℕ, zero, suc, ◌+◌, ◌<◌, Bool, true, false, ◌||◌, not, cond, List, [], ◌∷◌, ◌++◌}
use Rattle.std.proofs.Common.{map, drop, refl, sym, ap, subst, ◌∙◌, arith}
use Rattle.std.specs.Prelude.{◌==◌}
use Rattle.std.specs.List.{filter}
use Rattle.std.proofs.lemmas.Bool.{not-true}
use Rattle.std.proofs.lemmas.Bool.Decides.{nat_tests}
use Rattle.rt_value.proofs.Plain.{AllOf, any_append, filter_alike}
use Rattle.rt_phx.specs.declared.message.Version.{Version}
use Rattle.rt_catalog.specs.declared.catalog.Catalog.{Catalog}
use Rattle.rt_entry.specs.declared.input.Settings.{Settings}
use Rattle.rt_entry.specs.declared.input.Step.TheVariants.{Push}
use Rattle.rt_entry.specs.declared.answer.Item.{Item}
use Rattle.rt_entry.specs.declared.answer.Item.TheVariants.{Message, End}
use Rattle.rt_entry.specs.Kept.{Kept, keep, kept_pushed, shut, kept_shut, opening_behind}
use Rattle.rt_entry.specs.Machine.{Cut, Slot, World, Outcome, done, full, Placed, placed_from, placed, opening_after}
use Rattle.rt_entry.specs.Machine.{is_cut, is_uncut}
use Rattle.rt_entry.specs.Machine.{is_of_opening, with_slot, with_given, with_cut, push, pending}
use Rattle.rt_entry.specs.Machine.{worked_items, step_of}
use Rattle.rt_entry.proofs.Shapes.{eqb_same}
use Rattle.rt_laws.specs.Working.{worked_version}
use Rattle.rt_laws.specs.Keeping.{kept_in, IsPushed, PushesTake}
use Rattle.rt_laws.proofs.Lists.{drop_add}
use Rattle.rt_laws.proofs.Kept.{item_of, uncut_items, behind_more}
use Rattle.rt_laws.proofs.WorkersKeep.{kept_of, kept_is_of}

-- the first that passes stands at a place, and behind it is the rest of what passes
record First {A : Type 0} (q : A → Bool) (xs : List A) (p : A) (more : List A) : Type 0 where
  count : ℕ
  rest : List A
  here : drop count xs ≡ p ∷ rest
  behind : filter q rest ≡ more
  passes : q p ≡ true

first_case : {A : Type 0} (q : A → Bool) (x : A) (xs : List A) (p : A) (more : List A) (b : Bool) → q x ≡ b
    → cond b (x ∷ filter q xs) (filter q xs) ≡ p ∷ more
    → (filter q xs ≡ p ∷ more → First q xs p more) → First q (x ∷ xs) p more
first_case q x xs p more true e h f =
    let head : x ≡ p = cc in
    let tail : filter q xs ≡ more = cc in
    record {
      count = 0;
      rest = xs;
      here = ap (λ y. y ∷ xs) head;
      behind = tail;
      passes = ap q (sym head) ∙ e;
    }
first_case q x xs p more false e h f =
    let g = f h in
    record { count = suc g.count; rest = g.rest; here = g.here; behind = g.behind; passes = g.passes }

first : {A : Type 0} (q : A → Bool) (xs : List A) (p : A) (more : List A) → filter q xs ≡ p ∷ more → First q xs p more
first q [] p more e = absurd (cc)
first q (x ∷ xs) p more e = first_case q x xs p more (q x) refl e (first q xs p more)

-- placed items from a place on are those of the items from there on
record DroppedTo (n o count : ℕ) (xs : List Item) (p : Placed) (rest : List Placed) : Type 0 where
  place : p.place ≡ n + count
  items : List Item
  same : placed_from p.place p.opening items ≡ p ∷ rest
  behind : opening_behind p.opening items ≡ opening_behind o xs

dropped_to : (n o count : ℕ) (xs : List Item) (p : Placed) (rest : List Placed)
    → drop count (placed_from n o xs) ≡ p ∷ rest → DroppedTo n o count xs p rest
dropped_to n o zero [] p rest e = absurd (cc)
dropped_to n o (suc count) [] p rest e = absurd (cc)
dropped_to n o zero (x ∷ xs) p rest e =
    let q : Placed = record { place = n; opening = o; item = x } in
    let head : q ≡ p = cc in
    let P : Placed → Type 0 = λ r. DroppedTo n o 0 (x ∷ xs) r rest in
    let tail : placed_from (n + 1) (opening_after x o) xs ≡ rest = cc in
    let z : n ≡ n + 0 = omega arith in
    subst P head (record { place = z; items = x ∷ xs; same = ap (λ ps. q ∷ ps) tail; behind = refl })
dropped_to n o (suc count) (x ∷ xs) p rest e =
    let d = dropped_to (n + 1) (opening_after x o) count xs p rest e in
    let z : (n + 1) + count ≡ n + suc count = omega arith in
    record { place = d.place ∙ z; items = d.items; same = d.same; behind = d.behind }

-- a cut more cuts one opening more
cut_more : (cuts : List Cut) (k : Cut) (o : ℕ) → is_cut (cuts ++ k ∷ []) o
    ≡ (is_cut cuts o || (k.opening == o || false))
cut_more cuts k o = any_append (is_of_opening o) cuts (k ∷ [])

or_last : (b : Bool) → (b || true) ≡ true
or_last true = refl
or_last false = refl

or_none_more : (b : Bool) → (b || false) ≡ b
or_none_more true = refl
or_none_more false = refl

cut_own : (cuts : List Cut) (k : Cut) (o : ℕ) → k.opening ≡ o → is_cut (cuts ++ k ∷ []) o ≡ true
cut_own cuts k o e =
    let same : (k.opening == o) ≡ true = ap (λ m. m == o) e ∙ eqb_same o in
    cut_more cuts k o ∙ ap (λ b. is_cut cuts o || (b || false)) same ∙ or_last (is_cut cuts o)

cut_other : (cuts : List Cut) (k : Cut) (o : ℕ) → k.opening < o → is_cut (cuts ++ k ∷ []) o ≡ is_cut cuts o
cut_other cuts k o lt =
    let apart : (k.opening == o) ≡ false = grind (arith, nat_tests) in
    cut_more cuts k o ∙ ap (λ b. is_cut cuts o || (b || false)) apart ∙ or_none_more (is_cut cuts o)

others_alike : (cuts : List Cut) (k : Cut) (n o : ℕ) (items : List Item) → k.opening < o
    → AllOf (λ (p : Placed). is_uncut (cuts ++ k ∷ []) p ≡ is_uncut cuts p) (placed_from n o items)
others_alike cuts k n o [] lt = tt
others_alike cuts k n o (x ∷ xs) lt =
    let one = behind_more o (x ∷ []) in (
      ap not (cut_other cuts k o lt),
      others_alike cuts k (n + 1) (opening_after x o) xs (omega arith),
    )

-- what is pending behind a cut
shut_is : (cuts : List Cut) (k : Cut) (v : Version) (n o : ℕ) (items : List Item)
    → k.opening ≡ o → is_cut cuts o ≡ false
    → keep v (is_cut (cuts ++ k ∷ []) (opening_behind o items)) (uncut_items (cuts ++ k ∷ []) n o items)
    ≡ shut v (is_cut cuts (opening_behind o items)) (uncut_items cuts n o items)
shut_is cuts k v n o [] e f = ap (λ b. keep v b []) (cut_own cuts k o e)
shut_is cuts k v n o (Message m ∷ xs) e f =
    let p : Placed = record { place = n; opening = o; item = Message m } in
    let news = filter (is_uncut (cuts ++ k ∷ [])) (placed_from (n + 1) o xs) in
    let olds = filter (is_uncut cuts) (placed_from (n + 1) o xs) in
    ap (λ (b : Bool). keep v (is_cut (cuts ++ k ∷ []) (opening_behind o xs)) (map item_of (cond (not b)
    (p ∷ news) news)))
    (cut_own cuts k o e)
    ∙ shut_is cuts k v (n + 1) o xs e f
    ∙ sym (ap (λ (b : Bool). shut v (is_cut cuts (opening_behind o xs)) (map item_of (cond (not b) (p ∷ olds) olds))) f)
shut_is cuts k v n o (End name ∷ xs) e f =
    let p : Placed = record { place = n; opening = o; item = End name } in
    let news = filter (is_uncut (cuts ++ k ∷ [])) (placed_from (n + 1) (o + 1) xs) in
    let olds = filter (is_uncut cuts) (placed_from (n + 1) (o + 1) xs) in
    let last = opening_behind (o + 1) xs in
    let more = behind_more (o + 1) xs in
    ap (λ (b : Bool). keep v (is_cut (cuts ++ k ∷ []) last) (map item_of (cond (not b) (p ∷ news) news)))
    (cut_own cuts k o e)
    ∙ ap (λ (b : Bool). keep v b (map item_of news)) (cut_other cuts k last (omega arith))
    ∙ ap (λ ps. keep v (is_cut cuts last) (map item_of ps))
    (filter_alike (is_uncut (cuts ++ k ∷ [])) (is_uncut cuts) (placed_from (n + 1) (o + 1) xs)
    (others_alike cuts k (n + 1) (o + 1) xs (omega arith)))
    ∙ sym (ap (λ (b : Bool). shut v (is_cut cuts last) (map item_of (cond (not b) (p ∷ olds) olds))) f)

module _ (c : Catalog) (s : Settings) (w : World) (slot : ℕ) (p : Placed) (ps : List Placed) where
  abbrev x : Slot
  x = w.slots slot

  abbrev made : List Item
  made = worked_items c s w slot

  abbrev v : Version
  v = worked_version c s w slot

  -- where the front stands
  record Stands : Type 0 where
    rest : List Placed
    left : List Item
    behind : filter (is_uncut x.cuts) rest ≡ ps
    passes : is_cut x.cuts p.opening ≡ false
    same : placed_from p.place p.opening left ≡ p ∷ rest
    last : opening_behind p.opening left ≡ opening_behind 0 made
    dropped : drop (p.place + 1) (placed made) ≡ rest

  stands : pending c s w slot ≡ p ∷ ps → Stands
  unfolding pending
  stands e =
      let f = first (is_uncut x.cuts) (drop x.past (placed made)) p ps e in
      let at : drop (x.past + f.count) (placed made) ≡ p ∷ f.rest = drop_add x.past f.count (placed made) ∙ f.here in
      let d = dropped_to 0 0 (x.past + f.count) made p f.rest at in
      let place : x.past + f.count ≡ p.place = let z = d.place in omega arith in
      record {
        rest = f.rest;
        left = d.items;
        behind = f.behind;
        passes = not-true (is_cut x.cuts p.opening) f.passes;
        same = d.same;
        last = d.behind;
        dropped = drop_add p.place 1 (placed made)
            ∙ ap (drop 1) (ap (λ n. drop n (placed made)) (sym place) ∙ at);
      }

  kept_front : pending c s w slot ≡ p ∷ ps
      → kept_in c s w slot ≡ keep v (is_cut x.cuts (opening_behind 0 made)) (map item_of (p ∷ ps))
  kept_front e = ap (λ qs. keep v (is_cut x.cuts (opening_behind 0 made)) (map item_of qs)) e

  -- the slot as it is put
  kept_put : (y : Slot) → kept_in c s (with_slot w slot y) slot ≡ kept_of c s v y made
  kept_put y =
      kept_is_of c s (with_slot w slot y) slot
      ∙ ap (λ (z : Slot). kept_of c s v z made)
      (ap (λ (b : Bool). elim b as (λ t. Slot) [ true ↦ y | false ↦ x ]) (eqb_same slot))

  given_keeps : Stands → pending c s w slot ≡ p ∷ ps
      → kept_of c s v (with_given x p) made ≡ kept_pushed (kept_in c s w slot)
  given_keeps st e =
      ap (λ qs. keep v (is_cut x.cuts (opening_behind 0 made)) (map item_of (filter (is_uncut x.cuts) qs))) st.dropped
      ∙ ap (λ qs. keep v (is_cut x.cuts (opening_behind 0 made)) (map item_of qs)) st.behind
      ∙ sym (ap kept_pushed (kept_front e))

  cut_keeps : Stands → pending c s w slot ≡ p ∷ ps
      → kept_of c s v (with_cut x p) made ≡ kept_shut (kept_in c s w slot)
  cut_keeps st e =
      let k : Cut = record { opening = p.opening; place = p.place } in
      let cuts = x.cuts ++ k ∷ [] in
      let news = filter (is_uncut cuts) st.rest in
      let olds = filter (is_uncut x.cuts) st.rest in
      ap (λ qs. keep v (is_cut cuts (opening_behind 0 made)) (map item_of (filter (is_uncut cuts) qs))) st.dropped
      ∙ ap (λ o. keep v (is_cut cuts o) (map item_of news)) (sym st.last)
      ∙ sym (ap (λ qs. keep v (is_cut cuts (opening_behind p.opening st.left)) (map item_of (filter
      (is_uncut cuts) qs)))
      st.same
      ∙ ap (λ (b : Bool). keep v (is_cut cuts (opening_behind p.opening st.left))
      (map item_of (cond (not b) (p ∷ news) news))) (cut_own x.cuts k p.opening refl))
      ∙ shut_is x.cuts k v p.place p.opening st.left refl st.passes
      ∙ ap (λ o. shut v (is_cut x.cuts o) (uncut_items x.cuts p.place p.opening st.left)) st.last
      ∙ ap (λ qs. shut v (is_cut x.cuts (opening_behind 0 made)) (map item_of (filter (is_uncut x.cuts) qs))) st.same
      ∙ ap (λ (b : Bool). shut v (is_cut x.cuts (opening_behind 0 made)) (map item_of (cond (not b) (p ∷ olds) olds)))
      st.passes
      ∙ ap (λ qs. shut v (is_cut x.cuts (opening_behind 0 made)) (map item_of (p ∷ qs))) st.behind
      ∙ sym (ap kept_shut (kept_front e))

  stepped : pending c s w slot ≡ p ∷ ps → step_of c s w (Push slot) ≡ push c s w slot x (p ∷ ps)
  unfolding step_of
  stepped e = ap (push c s w slot x) e

  pub pushes : pending c s w slot ≡ p ∷ ps → IsPushed c s w slot p
  pushes e =
      let st = stands e in
      let world : Outcome × World → Kept = λ r. kept_in c s r.1 slot in
      let chosen : Bool → Outcome × World = λ b. elim b as (λ t. Outcome × World) [
        | true ↦ (full, with_slot w slot (with_cut x p))
        | false ↦ (done, with_slot w slot (with_given x p))
      ] in
      record {
        given = λ room. ap world (stepped e) ∙ ap (λ b. world (chosen b)) room ∙ kept_put (with_given x p)
            ∙ given_keeps st e;
        cut = λ none. ap world (stepped e) ∙ ap (λ b. world (chosen b)) none ∙ kept_put (with_cut x p)
            ∙ cut_keeps st e;
      }

pub pushes_take : (c : Catalog) (s : Settings) → PushesTake c s
pushes_take c s w slot p ps e = pushes c s w slot p ps e
