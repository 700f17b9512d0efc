-- Spaces dropped at both ends of a text.
use Rattle.std.proofs.Common.{◌≡◌, ℕ, ◌+◌, ◌-◌, ◌==◌, Bool, true, false, zero, suc, List, [], ◌∷◌, ◌++◌, length, take, drop, reverse, replicate, map, Option, Some, None, refl, sym, ap, ◌∙◌, inl, inr, lit<, arith, append_assoc, add-one}
use Rattle.std.proofs.Math.Seq.{drop-length}
use Rattle.std.proofs.lemmas.Bool.Decides.{eqb_tells}
use Rattle.std.proofs.lemmas.List.{append-nil, reverse-append, reverse-reverse, replicate-append-replicate, take-append-drop}
use Rattle.std.proofs.lemmas.Str.Pattern.{drop_at_char, strip_prefix_char, strip_suffix_char}
use Rattle.std.specs.Str.Pattern.{CutsPrefixes, CutsSuffixes, IsFullyTrimmed, IsTrimStartMatches, IsTrimEndMatches, FindsCharPrefix, FindsCharSuffix}
use Rattle.rt_filter.specs.Written.{begins_with_space, IsTrimmed, AreTrimmed, without_spaces, trimmed}

without_spaces_after : (n : ℕ) (t : List ℕ) → begins_with_space t ≡ false → without_spaces (replicate n 32 ++ t) ≡ t
without_spaces_after zero [] h = refl
without_spaces_after zero (b ∷ t) h = rw (h, without_spaces) refl
without_spaces_after (suc n) t h = without_spaces_after n t h

one_more : (n : ℕ) (t : List ℕ) → replicate n 32 ++ 32 ∷ t ≡ replicate (suc n) 32 ++ t
one_more zero t = refl
one_more (suc n) t = ap (λ (l : List ℕ). 32 ∷ l) (one_more n t)

reverse_spaces : (n : ℕ) → reverse {A = ℕ} (replicate n 32) ≡ replicate n 32
reverse_spaces zero = refl
reverse_spaces (suc n) =
    let space : List ℕ = 32 ∷ [] in
    reverse-append space (replicate n 32) ∙ ap (λ (l : List ℕ). l ++ 32 ∷ []) (reverse_spaces n)
    ∙ replicate-append-replicate n 1 32 ∙ (let e : n + 1 ≡ suc n = omega arith in ap (λ (k : ℕ). replicate k 32) e)

begins_alone : (t u : List ℕ) → begins_with_space (t ++ u) ≡ false → begins_with_space t ≡ false
begins_alone [] u h = refl
begins_alone (b ∷ t) u h = h

-- there is one text without its spaces
pub trimmed_is : (s t : List ℕ) → IsTrimmed s t → trimmed s ≡ t
trimmed_is s [] w =
    let e : s ≡ replicate (w.before + w.after) 32 ++ [] =
    w.is ∙ ap (λ (l : List ℕ). l ++ replicate w.after 32) (append-nil (replicate w.before 32)) ∙ replicate-append-replicate w.before w.after 32 ∙ sym (append-nil (replicate (w.before + w.after) 32)) in
    ap (λ (l : List ℕ). reverse (without_spaces (reverse l))) (ap without_spaces e ∙ without_spaces_after (w.before + w.after) [] refl)
trimmed_is s (b ∷ bs) w =
    let t : List ℕ = b ∷ bs in
    let e : s ≡ replicate w.before 32 ++ (t ++ replicate w.after 32) = w.is ∙ append_assoc (replicate w.before 32) t (replicate w.after 32) in
    let front : without_spaces s ≡ t ++ replicate w.after 32 = ap without_spaces e ∙ without_spaces_after w.before (t ++ replicate w.after 32) w.bare.0 in
    let turned : reverse (t ++ replicate w.after 32) ≡ replicate w.after 32 ++ reverse t =
    reverse-append t (replicate w.after 32) ∙ ap (λ (l : List ℕ). l ++ reverse t) (reverse_spaces w.after) in
    let back : without_spaces (reverse (without_spaces s)) ≡ reverse t =
    ap (λ (l : List ℕ). without_spaces (reverse l)) front ∙ ap without_spaces turned ∙ without_spaces_after w.after (reverse t) w.bare.1 in
    ap reverse back ∙ reverse-reverse t

spaces_before : (s : List ℕ) → (n : ℕ) × (s ≡ replicate n 32 ++ without_spaces s)
spaces_before [] = (0, refl)
spaces_before (b ∷ bs) =
    let r = spaces_before bs in
    elim (eqb_tells b 32) [
      | inl e ↦ (suc r.0, rw (e.0, without_spaces) (ap (λ (x : ℕ). x ∷ bs) e.1 ∙ ap (λ (l : List ℕ). 32 ∷ l) r.1))
      | inr e ↦ (0, rw (e.0, without_spaces) refl)
    ]

bare_after : (s : List ℕ) → begins_with_space (without_spaces s) ≡ false
bare_after [] = refl
bare_after (b ∷ bs) = elim (eqb_tells b 32) [ inl e ↦ rw (e.0, without_spaces) (bare_after bs) | inr e ↦ rw (e.0, without_spaces) e.0 ]

-- s begins with spaces, and m ends with some
between : (s m r : List ℕ) (before after : ℕ) → s ≡ replicate before 32 ++ m → m ≡ r ++ replicate after 32
    → begins_with_space m ≡ false → begins_with_space (reverse r) ≡ false → IsTrimmed s r
between s m r before after e f g h = record {
  before = before;
  after = after;
  is = e ∙ ap (λ (l : List ℕ). replicate before 32 ++ l) f ∙ sym (append_assoc (replicate before 32) r (replicate after 32));
  bare = (begins_alone r (replicate after 32) (rw f at g), h);
}

pub is_trimmed : (s : List ℕ) → IsTrimmed s (trimmed s)
is_trimmed s =
    let m = without_spaces s in
    let r = without_spaces (reverse m) in
    let front = spaces_before s in
    let back = spaces_before (reverse m) in
    let ends : m ≡ reverse r ++ replicate back.0 32 =
    sym (reverse-reverse m) ∙ ap reverse back.1 ∙ reverse-append (replicate back.0 32) r ∙ ap (λ (l : List ℕ). reverse r ++ l) (reverse_spaces back.0) in
    between s m (reverse r) front.0 back.0 front.1 ends (bare_after s) (rw reverse-reverse (bare_after (reverse m)))

pub map_trimmed_is : (parts texts : List (List ℕ)) → AreTrimmed parts texts → map trimmed parts ≡ texts
map_trimmed_is [] [] h = refl
map_trimmed_is (p ∷ ps) (t ∷ ts) h = let a = trimmed_is p t h.0 in let b = map_trimmed_is ps ts h.1 in cc
map_trimmed_is [] (t ∷ ts) h = absurd h
map_trimmed_is (p ∷ ps) [] h = absurd h

pub are_trimmed : (parts : List (List ℕ)) → AreTrimmed parts (map trimmed parts)
are_trimmed [] = tt
are_trimmed (p ∷ ps) = (is_trimmed p, are_trimmed ps)

-- the library's words on what it cuts off
cut_at_front : (s ns r : List ℕ) → CutsPrefixes (FindsCharPrefix 32) s ns r → (n : ℕ) × (s ≡ replicate n 32 ++ r)
cut_at_front s [] r h = (0, sym h)
cut_at_front s (n ∷ ns) r h =
    let before = cut_at_front s ns h.0 h.1 in
    let e : h.0 ≡ 32 ∷ drop n h.0 = drop_at_char 32 h.0 0 n h.2 (lit< tt) in
    (suc before.0, before.1 ∙ ap (λ (l : List ℕ). replicate before.0 32 ++ l) (e ∙ ap (λ (l : List ℕ). 32 ∷ l) (sym h.3)) ∙ one_more before.0 r)

cut_at_end : (s ns r : List ℕ) → CutsSuffixes (FindsCharSuffix 32) s ns r → (n : ℕ) × (s ≡ r ++ replicate n 32)
cut_at_end s [] r h = (0, sym h ∙ sym (append-nil r))
cut_at_end s (n ∷ ns) r h =
    let before = cut_at_end s ns h.0 h.1 in
    let e : drop (length h.0 - n) h.0 ≡ 32 ∷ [] = drop_at_char 32 h.0 (length h.0 - n) (length h.0) h.2.1 (lit< tt) ∙ ap (λ (l : List ℕ). 32 ∷ l) (drop-length h.0) in
    let m : h.0 ≡ r ++ 32 ∷ [] = sym (take-append-drop (length h.0 - n) h.0) ∙ ap (λ (l : List ℕ). take (length h.0 - n) h.0 ++ l) e ∙ ap (λ (l : List ℕ). l ++ 32 ∷ []) (sym h.3) in
    (suc before.0, before.1 ∙ ap (λ (l : List ℕ). l ++ replicate before.0 32) m ∙ append_assoc r (32 ∷ []) (replicate before.0 32))

bare_front : (r : List ℕ) → IsFullyTrimmed (FindsCharPrefix 32) r → begins_with_space r ≡ false
bare_front [] w = refl
bare_front (b ∷ bs) (None, f, _) = elim (eqb_tells b 32) [ inl e ↦ absurd (strip_prefix_char 32 (b ∷ bs) None f (lit< tt) bs (ap (λ (x : ℕ). x ∷ bs) e.1)) | inr e ↦ e.0 ]
bare_front (b ∷ bs) (Some n, f, z) = absurd (let e : n ≡ 1 = f.ends in let g : n ≡ 0 = z in omega arith)

bare_end : (r q : List ℕ) → reverse r ≡ q → IsFullyTrimmed (FindsCharSuffix 32) r → begins_with_space q ≡ false
bare_end r [] t w = refl
bare_end r (b ∷ bs) t (None, f, _) =
    elim (eqb_tells b 32) [
      | inl e ↦ absurd (strip_suffix_char 32 r None f (lit< tt) (reverse bs) (sym (reverse-reverse r) ∙ ap reverse t ∙ reverse-append (b ∷ []) bs ∙ ap (λ (x : ℕ). reverse bs ++ x ∷ []) e.1))
      | inr e ↦ e.0
    ]
bare_end r (b ∷ bs) t (Some n, f, z) = absurd (let e : n ≡ 1 = f.0 in let g : n ≡ 0 = z in omega arith)

pub trims : (s m r : List ℕ) → IsTrimStartMatches (FindsCharPrefix 32) s m → IsTrimEndMatches (FindsCharSuffix 32) m r → r ≡ trimmed s
trims s m r a b =
    let front = cut_at_front s a.0.0 m a.0.1 in
    let back = cut_at_end m b.0.0 r b.0.1 in
    sym (trimmed_is s r (between s m r front.0 back.0 front.1 back.1 (bare_front m a.1) (bare_end r (reverse r) refl b.1)))
