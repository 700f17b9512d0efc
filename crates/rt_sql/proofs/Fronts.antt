-- The longest words, comments and signs at the front of a text.
use Rattle.std.proofs.Common.{◌≡◌, ℕ, zero, suc, ◌+◌, ◌-◌, ◌<◌, ◌≤◌, true, false, not, List, [], ◌∷◌, length, get_or, take, drop, refl, sym, subst, inl, inr, ◌⊎◌, arith}
use Rattle.std.specs.List.{list_all}
use Rattle.std.proofs.lemmas.List.{take_rest}
use Rattle.std.proofs.lemmas.Bool.{and_parts, and_from}
use Rattle.rt_sql.specs.declared.piece.Piece.TheVariants as piece
use Rattle.rt_sql.specs.declared.lexeme.TokenKind.TheVariants as kind
use Rattle.rt_sql.specs.Piece.{IsPiece, is_line_feed, begins_word, continues_word, is_sign}
use Rattle.rt_sql.specs.Front.{BeginsWithSign, IsRun, IsLongestFront}
use Rattle.rt_sql.proofs.Runs.{run_passes, run_stops}

abbrev pub IsWordRun : List ℕ → ℕ → Type 0
IsWordRun xs n = IsRun (λ x b. b ≡ continues_word x) xs n

word_front_cons : (b : ℕ) (bs : List ℕ) (n : ℕ) → begins_word b ≡ true → IsWordRun bs n → IsLongestFront (IsPiece (piece.Token kind.Word)) (b ∷ bs) (suc n)
word_front_cons b bs n begins run = record {
  within = omega (arith, run.within);
  holds = λ some. and_from (begins_word b) (list_all continues_word (take n bs)) begins (run_passes continues_word bs n run);
  longest = λ later lt le word. longer later lt le word;
} where
  longer : (later : ℕ) → suc n < later → later ≤ length (b ∷ bs) → IsPiece (piece.Token kind.Word) (take later (b ∷ bs)) → ⊥
  longer zero lt le word = absurd (omega arith)
  longer (suc m) lt le word = run_stops continues_word bs n run m (omega arith) (omega arith) (and_parts (begins_word b) (list_all continues_word (take m bs)) word).1

-- a word is its first byte and the run behind it
pub word_front : (xs : List ℕ) (n : ℕ) → begins_word (get_or xs 0 0) ≡ true → 1 ≤ length xs → IsWordRun (take (length xs - 1) (drop 1 xs)) n
    → IsLongestFront (IsPiece (piece.Token kind.Word)) xs (1 + n)
word_front [] n begins some run = absurd (omega arith)
word_front (b ∷ bs) n begins some run =
    let behind : IsWordRun bs n = subst (λ (ys : List ℕ). IsWordRun ys n) (take_rest (b ∷ bs) 1) run in
    let one : suc n ≡ 1 + n = omega arith in
    subst (λ (m : ℕ). IsLongestFront (IsPiece (piece.Token kind.Word)) (b ∷ bs) m) one (word_front_cons b bs n begins behind)

pub no_word : (xs : List ℕ) → begins_word (get_or xs 0 0) ≡ false → 1 ≤ length xs → IsLongestFront (IsPiece (piece.Token kind.Word)) xs 0
no_word [] begins some = absurd (omega arith)
no_word (b ∷ bs) begins some = record {
  within = omega arith;
  holds = λ lt. absurd (omega arith);
  longest = λ later lt le word. longer later lt word;
} where
  longer : (later : ℕ) → 0 < later → IsPiece (piece.Token kind.Word) (take later (b ∷ bs)) → ⊥
  longer zero lt word = absurd (omega arith)
  longer (suc m) lt word = cc (begins, (and_parts (begins_word b) (list_all continues_word (take m bs)) word).0)

abbrev pub IsLineRun : List ℕ → ℕ → Type 0
IsLineRun xs n = IsRun (λ x b. b ≡ not (is_line_feed x)) xs n

comment_front_cons : (bs : List ℕ) (n : ℕ) → IsLineRun bs n → IsLongestFront (IsPiece piece.Comment) (45 ∷ 45 ∷ bs) (suc (suc n))
comment_front_cons bs n run = record {
  within = omega (arith, run.within);
  holds = λ some. (take n bs, refl, run_passes (λ b. not (is_line_feed b)) bs n run);
  longest = λ later lt le comment. longer later lt le comment;
} where
  longer : (later : ℕ) → suc (suc n) < later → later ≤ length (45 ∷ 45 ∷ bs) → IsPiece piece.Comment (take later (45 ∷ 45 ∷ bs)) → ⊥
  longer zero lt le comment = absurd (omega arith)
  longer (suc zero) lt le comment = absurd (omega arith)
  longer (suc (suc m)) lt le comment =
      let inner : take m bs ≡ comment.0 = cc (comment.1) in
      run_stops (λ b. not (is_line_feed b)) bs n run m (omega arith) (omega arith)
      (subst (λ (ys : List ℕ). list_all (λ b. not (is_line_feed b)) ys ≡ true) (sym inner) comment.2)

-- a comment is two minus signs and the run behind them
pub comment_front : (xs : List ℕ) (n : ℕ) → get_or xs 0 0 ≡ 45 → get_or xs 1 0 ≡ 45 → 2 ≤ length xs → IsLineRun (take (length xs - 2) (drop 2 xs)) n
    → IsLongestFront (IsPiece piece.Comment) xs (2 + n)
comment_front [] n first second some run = absurd (omega arith)
comment_front (a ∷ []) n first second some run = absurd (omega arith)
comment_front (a ∷ b ∷ bs) n first second some run =
    let behind : IsLineRun bs n = subst (λ (ys : List ℕ). IsLineRun ys n) (take_rest (a ∷ b ∷ bs) 2) run in
    let text : 45 ∷ 45 ∷ bs ≡ a ∷ b ∷ bs = cc (first, second) in
    let two : suc (suc n) ≡ 2 + n = omega arith in
    subst (λ (ys : List ℕ). IsLongestFront (IsPiece piece.Comment) ys (2 + n)) text
    (subst (λ (m : ℕ). IsLongestFront (IsPiece piece.Comment) (45 ∷ 45 ∷ bs) m) two (comment_front_cons bs n behind))

-- a sign has one to three bytes
sign_lengths : (xs : List ℕ) (m : ℕ) → m ≤ length xs → is_sign (take m xs) ≡ true → (m ≡ 1) ⊎ ((m ≡ 2) ⊎ (m ≡ 3))
sign_lengths xs zero le sign = cc (sign)
sign_lengths xs (suc zero) le sign = inl refl
sign_lengths xs (suc (suc zero)) le sign = inr (inl refl)
sign_lengths xs (suc (suc (suc zero))) le sign = inr (inr refl)
sign_lengths [] (suc (suc (suc (suc m)))) le sign = absurd (omega arith)
sign_lengths (a ∷ []) (suc (suc (suc (suc m)))) le sign = absurd (omega arith)
sign_lengths (a ∷ b ∷ []) (suc (suc (suc (suc m)))) le sign = absurd (omega arith)
sign_lengths (a ∷ b ∷ c ∷ []) (suc (suc (suc (suc m)))) le sign = absurd (omega arith)
sign_lengths (a ∷ b ∷ c ∷ d ∷ xs) (suc (suc (suc (suc m)))) le sign = cc (sign)

-- no sign of a length stands at the front, if that length is more than n
abbrev pub NoSign : List ℕ → ℕ → ℕ → Type 0
NoSign xs n m = n < m → BeginsWithSign xs m → ⊥

pub sign_front : (xs : List ℕ) (n : ℕ) → n ≤ length xs → (0 < n → is_sign (take n xs) ≡ true) → NoSign xs n 1 → NoSign xs n 2 → NoSign xs n 3
    → IsLongestFront (IsPiece (piece.Token kind.Sign)) xs n
sign_front xs n le holds none1 none2 none3 = record {
  within = le;
  holds = holds;
  longest = λ later lt within sign. elim (sign_lengths xs later within sign) [
    | inl e ↦ longer 1 later e none1 lt within sign
    | inr (inl e) ↦ longer 2 later e none2 lt within sign
    | inr (inr e) ↦ longer 3 later e none3 lt within sign
  ];
} where
  longer : (m : ℕ) (later : ℕ) → later ≡ m → NoSign xs n m → n < later → later ≤ length xs → is_sign (take later xs) ≡ true → ⊥
  longer m later e none lt within sign =
      none (omega arith) (omega arith, subst (λ (k : ℕ). is_sign (take k xs) ≡ true) e sign)
