-- Tracks that are put in order, one after another: a filter may go before, all stay, and those of one key on a topic
-- stay in their order.
use Rattle.std.proofs.Common.{◌≡◌, ℕ, ◌<◌, Bool, true, false, cond, List, [], ◌∷◌, ◌++◌, map, refl, sym, ap, ◌∙◌}
use Rattle.std.proofs.Common.{append-nil, append_assoc}
use Rattle.std.specs.Prelude.{⊤}
use Rattle.std.specs.List.{filter}
use Rattle.std.specs.declared.cmp.Ordering.{Ordering}
use Rattle.std.specs.declared.cmp.Ordering.TheVariants.{Less, Equal, Greater}
use Rattle.std.specs.Ordering.{nat_cmp, is_lt, ordering_reverse, ordering_then}
use Rattle.std.specs.Cmp.{nat_cmp_is}
use Rattle.std.specs.Cmp.Lexicographic.{slice_cmp}
use Rattle.std.proofs.lemmas.Cmp.{tied_itself, nat_list_cmp_total}
use Rattle.rt_value.proofs.Plain.{AllOf, all_append, all_filter, all_weaker}
use Rattle.rt_value.proofs.Moves as moves
use Rattle.rt_value.proofs.Moves.{Moves, then_to, moves_same, moves_back, moves_left, moves_middle}
use Rattle.rt_presence.specs.Tracks.{Tracked, track_cmp, put}
use Rattle.rt_presence.specs.Index.{place_of}
use Rattle.rt_presence.proofs.Orders.{track_exact, track_total}
use Rattle.rt_presence.proofs.Places as places
use Rattle.rt_presence.proofs.Puts.{Put}
use Rattle.rt_entry.specs.declared.story.Track.{Track}
use Rattle.rt_hub.specs.Present.{tracked_of, all_put}

abbrev IsBelow : Tracked → Tracked → Type 0
IsBelow t u = track_cmp t.0 u.0 ≡ Less

abbrev NotAbove : Tracked → Tracked → Type 0
NotAbove t u = track_cmp t.0 u.0 ≡ Greater → ⊥

-- none stands above one behind it
abbrev pub Steady : List Tracked → Type 0
Steady [] = ⊤
Steady (u ∷ us) = AllOf (NotAbove u) us × Steady us

below_on : (t u v : Tracked) (o : Ordering) → track_cmp u.0 v.0 ≡ o → IsBelow t u → NotAbove u v → IsBelow t v
below_on t u v Less e b n = track_total.trans t.0 u.0 v.0 b e
below_on t u v Equal e b n = ap (track_cmp t.0) (sym (track_exact u.0 v.0 e)) ∙ b
below_on t u v Greater e b n = absurd (n e)

below_all : (t u : Tracked) (us : List Tracked) → IsBelow t u → AllOf (NotAbove u) us → AllOf (IsBelow t) us
below_all t u us b a = all_weaker (NotAbove u) (IsBelow t) us (λ v n. below_on t u v (track_cmp u.0 v.0) refl b n) a

not_above : (t u : Tracked) → IsBelow t u → NotAbove t u
not_above t u e g = let z : Less ≡ Greater = sym e ∙ g in cc

first_put : (t : Tracked) (us : List Tracked) → AllOf (IsBelow t) us → put t us ≡ t ∷ us
first_put t [] a = refl
first_put t (u ∷ us) a = ap (λ (r : Ordering). Put (is_lt r) t u us) a.0

turned : (t u : Tracked) (o : Ordering) → track_cmp t.0 u.0 ≡ o → track_cmp u.0 t.0 ≡ ordering_reverse o
turned t u o e = track_total.antisymm u.0 t.0 ∙ ap ordering_reverse e

steady_at : (t u : Tracked) (us : List Tracked) (o : Ordering) → track_cmp t.0 u.0 ≡ o → Steady (u ∷ us)
    → Steady (put t us)
    → Steady (Put (is_lt o) t u us)
steady_at t u us Less e s m =
    ((not_above t u e, all_weaker (IsBelow t) (NotAbove t) us (not_above t) (below_all t u us e s.0)), s)
steady_at t u us Equal e s m =
    let not_back : NotAbove u t = λ g. let z : Equal ≡ Greater = sym (turned t u Equal e) ∙ g in cc in
    (places.all_put [] (place_of t.0) (NotAbove u) t us not_back s.0, m)
steady_at t u us Greater e s m =
    let not_back : NotAbove u t = λ g. let z : Less ≡ Greater = sym (turned t u Greater e) ∙ g in cc in
    (places.all_put [] (place_of t.0) (NotAbove u) t us not_back s.0, m)

pub steady_put : (t : Tracked) (us : List Tracked) → Steady us → Steady (put t us)
steady_put t [] s = (tt, tt)
steady_put t (u ∷ us) s = steady_at t u us (track_cmp t.0 u.0) refl s (steady_put t us s.1)

pub steady_all : (ts : List Track) (us : List Tracked) → Steady us → Steady (all_put ts us)
steady_all [] us s = s
steady_all (t ∷ ts) us s = steady_all ts (put (tracked_of t) us) (steady_put (tracked_of t) us s)

-- what a filter keeps, is put among what it keeps
behind : (t u : Tracked) (b d : Bool) (g : List Tracked) → put t (u ∷ g) ≡ u ∷ put t g
    → cond b (u ∷ cond d (put t g) g) (cond d (put t g) g)
    ≡ cond d (put t (cond b (u ∷ g) g)) (cond b (u ∷ g) g)
behind t u true true g e = sym e
behind t u true false g e = refl
behind t u false true g e = refl
behind t u false false g e = refl

filter_at : (q : Tracked → Bool) (t u : Tracked) (us : List Tracked) (o : Ordering) → track_cmp t.0 u.0 ≡ o
    → Steady (u ∷ us) → filter q (put t us) ≡ cond (q t) (put t (filter q us)) (filter q us)
    → filter q (Put (is_lt o) t u us) ≡ cond (q t) (put t (filter q (u ∷ us))) (filter q (u ∷ us))
filter_at q t u us Less e s m =
    let kept = filter q (u ∷ us) in
    ap (λ (ys : List Tracked). cond (q t) ys kept)
    (sym (first_put t kept (all_filter (IsBelow t) q (u ∷ us) (e, below_all t u us e s.0))))
filter_at q t u us Equal e s m =
    let g = filter q us in
    ap (λ (ys : List Tracked). cond (q u) (u ∷ ys) ys) m
    ∙ behind t u (q u) (q t) g (ap (λ (r : Ordering). Put (is_lt r) t u g) e)
filter_at q t u us Greater e s m =
    let g = filter q us in
    ap (λ (ys : List Tracked). cond (q u) (u ∷ ys) ys) m
    ∙ behind t u (q u) (q t) g (ap (λ (r : Ordering). Put (is_lt r) t u g) e)

filter_put : (q : Tracked → Bool) (t : Tracked) (us : List Tracked) → Steady us
    → filter q (put t us) ≡ cond (q t) (put t (filter q us)) (filter q us)
filter_put q t [] s = refl
filter_put q t (u ∷ us) s = filter_at q t u us (track_cmp t.0 u.0) refl s (filter_put q t us s.1)

kept_or : (b : Bool) (t : Track) (ts : List Track) (us : List Tracked)
    → all_put ts (cond b (put (tracked_of t) us) us) ≡ all_put (cond b (t ∷ ts) ts) us
kept_or true t ts us = refl
kept_or false t ts us = refl

pub filter_all_put : (q : Tracked → Bool) (ts : List Track) (us : List Tracked) → Steady us
    → filter q (all_put ts us) ≡ all_put (filter (λ t. q (tracked_of t)) ts) (filter q us)
filter_all_put q [] us s = refl
filter_all_put q (t ∷ ts) us s =
    filter_all_put q ts (put (tracked_of t) us) (steady_put (tracked_of t) us s)
    ∙ ap (all_put (filter (λ x. q (tracked_of x)) ts)) (filter_put q (tracked_of t) us s)
    ∙ kept_or (q (tracked_of t)) t (filter (λ x. q (tracked_of x)) ts) (filter q us)

pub all_put_append : (ts more : List Track) (us : List Tracked) → all_put (ts ++ more) us ≡ all_put more (all_put ts us)
all_put_append [] more us = refl
all_put_append (t ∷ ts) more us = all_put_append ts more (put (tracked_of t) us)

-- all are there
put_moves_at : (t u : Tracked) (us : List Tracked) (b : Bool) → Moves (t ∷ us) (put t us)
    → Moves (t ∷ u ∷ us) (Put b t u us)
put_moves_at t u us true m = moves.none (t ∷ u ∷ us)
put_moves_at t u us false m =
    then_to (t ∷ u ∷ us) (u ∷ t ∷ us) (u ∷ put t us) (moves.swap t u us) (moves.skip u (t ∷ us) (put t us) m)

put_moves : (t : Tracked) (us : List Tracked) → Moves (t ∷ us) (put t us)
put_moves t [] = moves.none (t ∷ [])
put_moves t (u ∷ us) = put_moves_at t u us (is_lt (track_cmp t.0 u.0)) (put_moves t us)

pub all_put_moves : (ts : List Track) (us : List Tracked) → Moves (us ++ map tracked_of ts) (all_put ts us)
all_put_moves [] us = moves_same (us ++ []) us (append-nil us)
all_put_moves (t ∷ ts) us =
    let new = tracked_of t in
    let more = map tracked_of ts in
    then_to (us ++ new ∷ more) (put new us ++ more) (all_put ts (put new us))
    (then_to (us ++ new ∷ more) (new ∷ (us ++ more)) (put new us ++ more)
    (moves_back (new ∷ (us ++ more)) (us ++ new ∷ more) (moves_middle new us more))
    (moves_left more (new ∷ us) (put new us) (put_moves new us))) (all_put_moves ts (put new us))

-- those of one key on a topic
abbrev pub IsUnder : List ℕ → List ℕ → Track → Type 0
IsUnder topic key t = (t.topic ≡ topic) × (t.key ≡ key)

abbrev pub Rise : List Track → Type 0
Rise [] = ⊤
Rise (t ∷ ts) = AllOf (λ (u : Track). t.reference < u.reference) ts × Rise ts

abbrev IsBefore : List ℕ → List ℕ → List Track → Tracked → Type 0
IsBefore topic key ts u =
    (u.0.topic ≡ topic) × (u.0.key ≡ key) × AllOf (λ (t : Track). u.0.reference < t.reference) ts

tied_then : (a b more : Ordering) → a ≡ Equal → b ≡ Equal → ordering_then a (ordering_then b more) ≡ more
tied_then a b more e f =
    ap (λ (o : Ordering). ordering_then o (ordering_then b more)) e ∙ ap (λ (o : Ordering). ordering_then o more) f

same_text : (a b : List ℕ) → a ≡ b → slice_cmp nat_cmp a b ≡ Equal
same_text a b e = ap (λ (x : List ℕ). slice_cmp nat_cmp x b) e ∙ tied_itself nat_list_cmp_total b

not_below : (topic key : List ℕ) (t : Track) (ts : List Track) → IsUnder topic key t → (u : Tracked)
    → IsBefore topic key (t ∷ ts) u → is_lt (track_cmp (tracked_of t).0 u.0) ≡ false
not_below topic key t ts i u b =
    let lt = b.2.0 in
    let greater : Greater ≡ nat_cmp t.reference u.0.reference = nat_cmp_is t.reference u.0.reference Greater lt in
    let more = ordering_then (nat_cmp t.reference u.0.reference) (nat_cmp t.channel u.0.channel) in
    ap is_lt (tied_then (slice_cmp nat_cmp t.topic u.0.topic) (slice_cmp nat_cmp t.key u.0.key) more
    (same_text t.topic u.0.topic (i.0 ∙ sym b.0)) (same_text t.key u.0.key (i.1 ∙ sym b.1))
    ∙ ap (λ (o : Ordering). ordering_then o (nat_cmp t.channel u.0.channel)) (sym greater))

put_end : (t : Tracked) (us : List Tracked) → AllOf (λ (u : Tracked). is_lt (track_cmp t.0 u.0) ≡ false) us
    → put t us ≡ us ++ t ∷ []
put_end t [] a = refl
put_end t (u ∷ us) a =
    ap (λ (b : Bool). Put b t u us) a.0 ∙ ap (λ (ys : List Tracked). u ∷ ys) (put_end t us a.1)

in_line : (topic key : List ℕ) (ts : List Track) (us : List Tracked) → AllOf (IsUnder topic key) ts → Rise ts
    → AllOf (IsBefore topic key ts) us → all_put ts us ≡ us ++ map tracked_of ts
in_line topic key [] us i r b = sym (append-nil us)
in_line topic key (t ∷ ts) us i r b =
    let new = tracked_of t in
    ap (all_put ts) (put_end new us (all_weaker (IsBefore topic key (t ∷ ts))
    (λ (u : Tracked). is_lt (track_cmp new.0 u.0) ≡ false) us (not_below topic key t ts i.0) b))
    ∙ in_line topic key ts (us ++ new ∷ []) i.1 r.1
    (all_append (IsBefore topic key ts) us (new ∷ []) (all_weaker (IsBefore topic key (t ∷ ts))
    (IsBefore topic key ts) us (λ u h. (h.0, h.1, h.2.1)) b) ((i.0.0, i.0.1, r.0), tt))
    ∙ append_assoc us (new ∷ []) (map tracked_of ts)

pub in_line_alone : (topic key : List ℕ) (ts : List Track) → AllOf (IsUnder topic key) ts → Rise ts
    → all_put ts [] ≡ map tracked_of ts
in_line_alone topic key ts i r = in_line topic key ts [] i r tt
