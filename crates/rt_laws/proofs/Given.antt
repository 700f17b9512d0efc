-- What a slot was given, one push after another.
use Rattle.std.proofs.Common.{◌≡◌, ◌⊎◌, ℕ, zero, suc, ◌+◌, ◌<◌, ◌≤◌, Bool, true, false, List, [], ◌∷◌, ◌++◌, length}
use Rattle.std.proofs.Common.{take, drop, Some, None, refl, sym, ap, subst, ◌∙◌, arith, append-nil, inl, inr, ltb, eqb}
use Rattle.std.specs.Prelude.{⊤, ◌≢◌}
use Rattle.std.specs.List.{filter, flat_map}
use Rattle.std.proofs.lemmas.List.Concat.{flat_map-append}
use Rattle.std.proofs.lemmas.List.{take-append-le, take-append-drop, length-take, length-append}
use Rattle.std.proofs.lemmas.Bool.Decides.{nat_tests, eqb_tells}
use Rattle.rt_phx.specs.declared.end.EndName.TheVariants.{OutboxFull}
use Rattle.rt_entry.specs.declared.answer.Item.{Item}
use Rattle.rt_entry.specs.declared.answer.Item.TheVariants.{End}
use Rattle.rt_entry.specs.Machine.{Cut, Placed, opening_after, placed_from, placed, cut_of, is_cut, shown_by, shown_at}
use Rattle.rt_entry.specs.Machine.{shown, is_uncut}
use Rattle.rt_laws.proofs.Lists.{take_add, drop_add, take_step, drop_within}

abbrev pub Numbered : ℕ → List Placed → Type 0
Numbered n [] = ⊤
Numbered n (p ∷ ps) = (p.place ≡ n) × Numbered (n + 1) ps

abbrev pub AllBefore : ℕ → List Cut → Type 0
AllBefore n [] = ⊤
AllBefore n (k ∷ ks) = (k.place < n) × AllBefore n ks

pub numbered : (n o : ℕ) (xs : List Item) → Numbered n (placed_from n o xs)
numbered n o [] = tt
numbered n o (x ∷ xs) = (refl, numbered (n + 1) (opening_after x o) xs)

pub numbered_take : (n k : ℕ) (ps : List Placed) → Numbered n ps → Numbered n (take k ps)
numbered_take n zero ps h = tt
numbered_take n (suc k) [] h = tt
numbered_take n (suc k) (p ∷ ps) h = (h.0, numbered_take (n + 1) k ps h.1)

pub numbered_drop : (n k : ℕ) (ps : List Placed) → Numbered n ps → Numbered (n + k) (drop k ps)
numbered_drop n zero ps h = let e : n ≡ n + 0 = omega arith in let P : ℕ → Type 0 = λ m. Numbered m ps in subst P e h
numbered_drop n (suc k) [] h = tt
numbered_drop n (suc k) (p ∷ ps) h = let e : (n + 1) + k ≡ n + suc k = omega arith in let P : ℕ
    → Type 0 = λ m. Numbered m (drop k ps) in
    subst P e (numbered_drop (n + 1) k ps h.1)

pub before_more : (n m : ℕ) (ks : List Cut) → n ≤ m → AllBefore n ks → AllBefore m ks
before_more n m [] le h = tt
before_more n m (k ∷ ks) le h = let lt = h.0 in (omega arith, before_more n m ks le h.1)

pub before_push : (n : ℕ) (ks : List Cut) (k : Cut) → AllBefore n ks → k.place < n → AllBefore n (ks ++ k ∷ [])
before_push n [] k h lt = (lt, tt)
before_push n (j ∷ ks) k h lt = (h.0, before_push n ks k h.1 lt)

-- whether an opening is cut, and where
pub data Cutting (n : ℕ) (ks : List Cut) (o : ℕ) : Type 0 where
  uncut : is_cut ks o ≡ false → cut_of ks o ≡ None → Cutting n ks o
  cut_at : (k : Cut) → is_cut ks o ≡ true → cut_of ks o ≡ Some k → k.place < n → Cutting n ks o

later : (n : ℕ) (k : Cut) (ks : List Cut) (o : ℕ) → eqb k.opening o ≡ false → Cutting n ks o → Cutting n (k ∷ ks) o
later n k ks o e (uncut a b) = uncut (rw e a) (rw e b)
later n k ks o e (cut_at j a b c) = cut_at j (rw e a) (rw e b) c

pub cutting : (n : ℕ) (ks : List Cut) (o : ℕ) → AllBefore n ks → Cutting n ks o
cutting n [] o h = uncut refl refl
cutting n (k ∷ ks) o h =
    elim (eqb_tells k.opening o) [
      | inl t ↦ let e = t.0 in cut_at k (rw e refl) (rw e refl) h.0
      | inr t ↦ later n k ks o t.0 (cutting n ks o h.1)
    ]

shows : (k : Cut) (p : Placed) (a b : Bool) → ltb p.place k.place ≡ a → eqb p.place k.place ≡ b
    → shown_by (Some k) p ≡ elim a as (λ t. List Item) [
      | true ↦ p.item ∷ []
      | false ↦ elim b as
          (λ t. List Item) [ true ↦ End OutboxFull ∷ [] | false ↦ [] ]
    ]
shows k p a b e f =
    ap (λ (t : Bool). elim t as (λ u. List Item) [
      | true ↦ p.item ∷ []
      | false ↦ elim (eqb p.place k.place) as
          (λ u. List Item) [ true ↦ End OutboxFull ∷ [] | false ↦ [] ]
    ]) e
    ∙ ap (λ (t : Bool). elim a as (λ u. List Item) [
      | true ↦ p.item ∷ []
      | false ↦ elim t as
          (λ u. List Item) [ true ↦ End OutboxFull ∷ [] | false ↦ [] ]
    ]) f

shows_none : (k : Cut) (p : Placed) → k.place < p.place → shown_by (Some k) p ≡ []
shows_none k p h =
    let a : ltb p.place k.place ≡ false = grind (arith, nat_tests) in
    let b : eqb p.place k.place ≡ false = grind (arith, nat_tests) in
    shows k p false false a b

shows_item : (k : Cut) (p : Placed) → p.place < k.place → shown_by (Some k) p ≡ p.item ∷ []
shows_item k p h = let a : ltb p.place k.place ≡ true = grind (arith, nat_tests) in
    shows k p true (eqb p.place k.place) a refl

shows_end : (k : Cut) (p : Placed) → p.place ≡ k.place → shown_by (Some k) p ≡ End OutboxFull ∷ []
shows_end k p h =
    let a : ltb p.place k.place ≡ false = grind (arith, nat_tests) in
    let b : eqb p.place k.place ≡ true = grind (arith, nat_tests) in
    shows k p false true a b

-- nothing is shown of what is cut
pub quiet : (n : ℕ) (ks : List Cut) (ps : List Placed) → AllBefore n ks → Numbered n ps → filter (is_uncut ks) ps ≡ []
    → flat_map (shown_at ks) ps ≡ []
quiet n ks [] b h e = refl
quiet n ks (p ∷ ps) b h e =
    elim (cutting n ks p.opening b) [
      | uncut i c ↦ absurd (no_cons (rw i at e))
      | cut_at k i c lt ↦
          ap (λ o. shown_by o p ++ flat_map (shown_at ks) ps) c
          ∙ ap (λ xs. xs ++ flat_map (shown_at ks) ps) (shows_none k p (omega (arith, h.0)))
          ∙ quiet (n + 1) ks ps (before_more n (n + 1) ks (omega arith) b) h.1 (rw i at e)
    ] where
      no_cons : {p : Placed} {ps : List Placed} → p ∷ ps ≡ [] → ⊥
      no_cons h = cc

-- the first of what is pending
pub record Front (n : ℕ) (ks : List Cut) (ps : List Placed) (p : Placed) : Type 0 where
  pub count : ℕ
  pub rest : List Placed
  pub at : p.place ≡ n + count
  pub quiet : flat_map (shown_at ks) (take count ps) ≡ []
  pub here : drop count ps ≡ p ∷ rest
  pub none : cut_of ks p.opening ≡ None

front_here : (n : ℕ) (ks : List Cut) (x : Placed) (xs : List Placed) (p : Placed) → x.place ≡ n
    → cut_of ks x.opening ≡ None → x ≡ p
    → Front n ks (x ∷ xs) p
front_here n ks x xs p h c e = record {
  count = 0;
  rest = xs;
  at = ap (λ (q : Placed). q.place) (sym e) ∙ h
      ∙ (let z : n ≡ n + 0 = omega arith in z);
  quiet = refl;
  here = ap (λ q. q ∷ xs) e;
  none = ap (λ (q : Placed). cut_of ks q.opening) (sym e) ∙ c;
}

front_later : (n : ℕ) (ks : List Cut) (x : Placed) (xs : List Placed) (p : Placed) → shown_at ks x ≡ []
    → Front (n + 1) ks xs p
    → Front n ks (x ∷ xs) p
front_later n ks x xs p s f = record {
  count = suc f.count;
  rest = f.rest;
  at = f.at ∙ (let e : (n + 1) + f.count ≡ n + suc f.count = omega arith in e);
  quiet = ap (λ ys. ys ++ flat_map (shown_at ks) (take f.count xs)) s ∙ f.quiet;
  here = f.here;
  none = f.none;
}

pub front_of : (n : ℕ) (ks : List Cut) (ps : List Placed) (p : Placed) (more : List Placed) → AllBefore n ks
    → Numbered n ps
    → filter (is_uncut ks) ps ≡ p ∷ more → Front n ks ps p
front_of n ks [] p more b h e = absurd (cc)
front_of n ks (x ∷ xs) p more b h e =
    elim (cutting n ks x.opening b) [
      | uncut i c ↦ front_here n ks x xs p h.0 c (let same = rw i at e in cc)
      | cut_at k i c lt ↦ front_later n ks x xs p (ap (λ o. shown_by o x) c ∙ shows_none k x (omega (arith, h.0)))
          (front_of (n + 1) ks xs p more (before_more n (n + 1) ks (omega arith) b) h.1 (rw i at e))
    ]

push_other : (j : Cut) (ks : List Cut) (k : Cut) (p : Placed) → shown_at (ks ++ k ∷ []) p ≡ shown_at ks p
    → ((eqb j.opening p.opening ≡ true) × (j.opening ≡ p.opening))
    ⊎ ((eqb j.opening p.opening ≡ false) × (j.opening ≢ p.opening))
    → shown_at ((j ∷ ks) ++ k ∷ []) p ≡ shown_at (j ∷ ks) p
push_other j ks k p h (inl t) = let e = t.0 in rw e refl
push_other j ks k p h (inr t) = let e = t.0 in rw e h

cut_of_push : (n : ℕ) (ks : List Cut) (k : Cut) (p : Placed) → AllBefore n ks → p.place < k.place
    → shown_at (ks ++ k ∷ []) p ≡ shown_at ks p
cut_of_push n [] k p b h = elim (eqb_tells k.opening p.opening) [
  | inl t ↦ let e = t.0 in rw e (shows_item k p h)
  | inr t ↦ let e = t.0 in rw e refl
]
cut_of_push n (j ∷ ks) k p b h = push_other j ks k p (cut_of_push n ks k p b.1 h) (eqb_tells j.opening p.opening)

cuts_push : (n m : ℕ) (ks : List Cut) (k : Cut) (ps : List Placed) → AllBefore m ks → Numbered n ps
    → n + length ps ≤ k.place
    → flat_map (shown_at (ks ++ k ∷ [])) ps ≡ flat_map (shown_at ks) ps
cuts_push n m ks k [] b h le = refl
cuts_push n m ks k (p ∷ ps) b h le =
    ap (λ xs. xs ++ flat_map (shown_at (ks ++ k ∷ [])) ps) (cut_of_push m ks k p b (omega (arith, h.0)))
    ∙ ap (λ xs. shown_at ks p ++ xs) (cuts_push (n + 1) m ks k ps b h.1 (omega arith))

new_cut : (ks : List Cut) (k : Cut) (p : Placed) → cut_of ks p.opening ≡ None → k.opening ≡ p.opening
    → p.place ≡ k.place
    → shown_at (ks ++ k ∷ []) p ≡ End OutboxFull ∷ []
new_cut [] k p c o e = let t : eqb k.opening p.opening ≡ true = grind (arith, nat_tests) in rw t (shows_end k p e)
new_cut (j ∷ ks) k p c o e =
    elim (eqb_tells j.opening p.opening) [
      | inl t ↦ let f = t.0 in absurd (let h = rw f at c in cc)
      | inr t ↦ let f = t.0 in rw f (new_cut ks k p (rw f at c) o e)
    ]

-- what a slot was given of these items
pub record IsGiven (items : List Item) (given : List Item) (past : ℕ) (cuts : List Cut) : Type 0 where
  pub is : given ≡ flat_map (shown_at cuts) (take past (placed items))
  pub within : past ≤ length (placed items)
  pub before : AllBefore past cuts

-- what is shown before the front
before_front : (items given : List Item) (past : ℕ) (cuts : List Cut) (p : Placed) → IsGiven items given past cuts
    → Front past cuts (drop past (placed items)) p →
    flat_map (shown_at cuts) (take p.place (placed items)) ≡ given
before_front items given past cuts p g f =
    let all = placed items in
    ap (λ n. flat_map (shown_at cuts) (take n all)) f.at
    ∙ ap (flat_map (shown_at cuts)) (take_add past f.count all)
    ∙ flat_map-append (shown_at cuts) (take past all) (take f.count (drop past all))
    ∙ ap (λ xs. flat_map (shown_at cuts) (take past all) ++ xs) f.quiet
    ∙ append-nil (flat_map (shown_at cuts) (take past all))
    ∙ sym g.is

pub front_at : (items : List Item) (past : ℕ) (cuts : List Cut) (p : Placed)
    (f : Front past cuts (drop past (placed items)) p)
    → drop p.place (placed items) ≡ p ∷ f.rest
front_at items past cuts p f = ap (λ n. drop n (placed items)) f.at ∙ drop_add past f.count (placed items) ∙ f.here

pub give : (items given : List Item) (past : ℕ) (cuts : List Cut) (p : Placed) → IsGiven items given past cuts
    → Front past cuts (drop past (placed items)) p →
    IsGiven items (given ++ p.item ∷ []) (p.place + 1) cuts
give items given past cuts p g f =
    let all = placed items in
    let here = front_at items past cuts p f in
    let far = drop_within p.place all p f.rest here in
    let at = f.at in
    record {
      is = sym (ap (flat_map (shown_at cuts)) (take_step p.place all p f.rest here)
          ∙ flat_map-append (shown_at cuts) (take p.place all) (p ∷ [])
          ∙ ap (λ xs. xs ++ (shown_at cuts p ++ [])) (before_front items given past cuts p g f)
          ∙ ap (λ o. given ++ (shown_by o p ++ [])) f.none);
      within = omega arith;
      before = before_more past (p.place + 1) cuts (omega arith) g.before;
    }

pub cut_short : (items given : List Item) (past : ℕ) (cuts : List Cut) (p : Placed) (k : Cut) → k.opening ≡ p.opening
    → p.place ≡ k.place
    → IsGiven items given past cuts → Front past cuts (drop past (placed items)) p →
    IsGiven items (given ++ End OutboxFull ∷ []) (p.place + 1) (cuts ++ k ∷ [])
cut_short items given past cuts p k o e g f =
    let all = placed items in
    let here = front_at items past cuts p f in
    let far = drop_within p.place all p f.rest here in
    let at = f.at in
    let short : 0 + length (take p.place all) ≤ k.place = omega (arith, length-take {A = Placed}) in
    record {
      is = sym (ap (flat_map (shown_at (cuts ++ k ∷ []))) (take_step p.place all p f.rest here)
          ∙ flat_map-append (shown_at (cuts ++ k ∷ [])) (take p.place all) (p ∷ [])
          ∙ ap (λ xs. xs ++ (shown_at (cuts ++ k ∷ []) p ++ []))
          (cuts_push 0 past cuts k (take p.place all) g.before (numbered_take 0 p.place all (numbered 0 0 items)) short
          ∙ before_front items given past cuts p g f)
          ∙ ap (λ xs. given ++ (xs ++ [])) (new_cut cuts k p f.none o e));
      within = omega arith;
      before = before_push (p.place + 1) cuts k (before_more past (p.place + 1) cuts (omega arith) g.before)
          (omega arith);
    }

-- more items come behind
placed_more : (n o : ℕ) (xs ys : List Item)
    → (rest : List Placed) × (placed_from n o (xs ++ ys) ≡ placed_from n o xs ++ rest)
placed_more n o [] ys = (placed_from n o ys, refl)
placed_more n o (x ∷ xs) ys = let found = placed_more (n + 1) (opening_after x o) xs ys in
    (found.0, ap (λ ps. record { place = n; opening = o; item = x } ∷ ps) found.1)

pub more_items : (items more given : List Item) (past : ℕ) (cuts : List Cut) → IsGiven items given past cuts
    → IsGiven (items ++ more) given past cuts
more_items items more given past cuts g =
    let found = placed_more 0 0 items more in
    let all = placed items in
    let within = g.within in
    record {
      is = g.is ∙ ap (flat_map (shown_at cuts)) (sym (ap (take past) found.1 ∙ take-append-le past all found.0 within));
      within = rw found.1 (omega (arith, length-append all found.0));
      before = g.before;
    }

-- what was given is a prefix of what is shown, and all of it where nothing is pending
pub given_prefix : (items given : List Item) (past : ℕ) (cuts : List Cut) → IsGiven items given past cuts
    → (rest : List Item) × (given ++ rest ≡ shown items cuts)
unfolding shown
given_prefix items given past cuts g =
    let all = placed items in (
      flat_map (shown_at cuts) (drop past all),
      ap (λ xs. xs ++ flat_map (shown_at cuts) (drop past all)) g.is
          ∙ sym (flat_map-append (shown_at cuts) (take past all) (drop past all))
          ∙ ap (flat_map (shown_at cuts)) (take-append-drop past all),
    )

pub given_all : (items given : List Item) (past : ℕ) (cuts : List Cut) → IsGiven items given past cuts
    → filter (is_uncut cuts) (drop past (placed items)) ≡ [] → given ≡ shown items cuts
unfolding shown
given_all items given past cuts g nothing =
    let all = placed items in
    let rest : Numbered past (drop past all) =
    let e : 0 + past ≡ past =
    omega arith in let P : ℕ → Type 0 = λ n. Numbered n (drop past all) in
    subst P e (numbered_drop 0 past all (numbered 0 0 items)) in
    g.is
    ∙ sym (append-nil (flat_map (shown_at cuts) (take past all)))
    ∙ ap (λ xs. flat_map (shown_at cuts) (take past all) ++ xs)
    (sym (quiet past cuts (drop past all) g.before rest nothing))
    ∙ sym (flat_map-append (shown_at cuts) (take past all) (drop past all))
    ∙ ap (flat_map (shown_at cuts)) (take-append-drop past all)

-- without a cut all is shown
uncut_from : (n o : ℕ) (xs : List Item) → flat_map (shown_at []) (placed_from n o xs) ≡ xs
uncut_from n o [] = refl
uncut_from n o (x ∷ xs) = ap (λ ys. x ∷ ys) (uncut_from (n + 1) (opening_after x o) xs)

pub shown_uncut : (items : List Item) → shown items [] ≡ items
unfolding shown
shown_uncut items = uncut_from 0 0 items
