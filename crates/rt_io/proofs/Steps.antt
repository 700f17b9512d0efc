-- What is known of a source and a sink, one call more at a time.
use Rattle.std.proofs.Common.{◌≡◌, ◌∙◌, ◌++◌, ◌+◌, ◌-◌, ◌≤◌, ℕ, List, [], Option, Some, None, length, take, drop, ap}
use Rattle.std.proofs.Common.{sym, refl, arith, append_assoc, subst, take-add}
use Rattle.std.proofs.lemmas.List.{append-nil, take_all, length-drop, take-append-drop}
use Rattle.rt_io.specs.Streams.{Puts, Takes}
use Rattle.rt_io.specs.Whole.{TakesFront}

pub nothing_put : (held : Option (List ℕ)) (bytes : List ℕ) → Puts held held (take 0 bytes)
nothing_put (Some h) bytes = ap Some (sym (append-nil h))
nothing_put None bytes = tt

-- what was read so far, and what is left
abbrev pub Kept : Option (List ℕ) → Option (List ℕ) → List ℕ → Type 0
Kept (Some all) now bytes = (rest : List ℕ) × (now ≡ Some rest) × (all ≡ bytes ++ rest)
Kept None now bytes = Unit {0}

pub nothing_read : (left : Option (List ℕ)) → Kept left left []
nothing_read (Some all) = (all, refl, refl)
nothing_read None = tt

pub more_put : (old mid new : Option (List ℕ)) (bytes : List ℕ) (a n : ℕ) → Puts old mid (take a bytes)
    → Puts mid new (take n (drop a bytes)) → Puts old new (take (a + n) bytes)
more_put None mid new bytes a n p q = tt
more_put (Some h) mid new bytes a n p q =
    let P : Option (List ℕ) → Type 0 = λ m. Puts m new (take n (drop a bytes)) in
    let e : new ≡ Some ((h ++ take a bytes) ++ take n (drop a bytes)) = subst P p q in
    e ∙ ap Some (append_assoc h (take a bytes) (take n (drop a bytes))
    ∙ ap (λ (t : List ℕ). h ++ t) (sym (take-add a n bytes)))

-- what `&bytes[a..]` is
pub tail_is : (bytes : List ℕ) (a : ℕ) → take (length bytes - a) (drop a bytes) ≡ drop a bytes
tail_is bytes a = take_all (length bytes - a) (drop a bytes) (omega (arith, length-drop a bytes))

pub tail_put : (old mid new : Option (List ℕ)) (bytes : List ℕ) (a n : ℕ) → Puts old mid (take a bytes)
    → Puts mid new (take n (take (length bytes - a) (drop a bytes))) → Puts old new (take (a + n) bytes)
tail_put old mid new bytes a n p q =
    let P : List ℕ → Type 0 = λ t. Puts mid new (take n t) in
    more_put old mid new bytes a n p (subst P (tail_is bytes a) q)

pub tail_within : (bytes : List ℕ) (a n : ℕ) → a ≤ length bytes → n ≤ length (take (length bytes - a) (drop a bytes))
    → a + n ≤ length bytes
tail_within bytes a n h k =
    let P : List ℕ → Type 0 = λ t. n ≤ length t in
    let e : n ≤ length (drop a bytes) = subst P (tail_is bytes a) k in omega (arith, length-drop a bytes)

-- some first bytes more were taken than those kept
pub kept_front : (all now new : Option (List ℕ)) (bytes buf : List ℕ) (n : ℕ) → Kept all now bytes
    → Takes now new n buf → TakesFront all new
kept_front None now new bytes buf n kept takes = tt
kept_front (Some all) now new bytes buf n kept takes =
    let P : Option (List ℕ) → Type 0 = λ m. Takes m new n buf in
    let took : Takes (Some kept.0) new n buf = subst P kept.1 takes in (
      bytes ++ take n kept.0,
      drop n kept.0,
      kept.2 ∙ ap (λ (t : List ℕ). bytes ++ t) (sym (take-append-drop n kept.0))
          ∙ sym (append_assoc bytes (take n kept.0) (drop n kept.0)),
      took.2,
    )
