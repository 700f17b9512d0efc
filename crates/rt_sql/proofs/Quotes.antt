-- How a text in quotes is read: byte by byte, and a doubled quote at once.
use Rattle.std.proofs.Common.{◌≡◌, ℕ, zero, suc, ◌+◌, ◌-◌, ◌<◌, ◌≤◌, Bool, cond, List, [], ◌∷◌, ◌++◌, length, get_or, take, drop, refl, sym, ap, subst, ◌∙◌, inl, inr, arith, length-append, length-take}
use Rattle.std.proofs.lemmas.List.{take_rest}
use Rattle.std.proofs.lemmas.Bool.{cases_eq, cases_lt, eq-eqb, ne_eqb}
use Rattle.rt_sql.specs.declared.piece.Piece.TheVariants as piece
use Rattle.rt_sql.specs.declared.lexeme.TokenKind.TheVariants as kind
use Rattle.rt_sql.specs.Piece.{doubled, in_quotes, name_quote, IsPiece}
use Rattle.rt_sql.specs.Front.{IsQuoted, IsLongestFront}

pub doubled_plain : (quote b : ℕ) (bs : List ℕ) → (b ≡ quote → ⊥) → doubled quote (b ∷ bs) ≡ b ∷ doubled quote bs
doubled_plain quote b bs ne =
    let P : Bool → Type 0 = λ t. cond t (b ∷ b ∷ []) (b ∷ []) ++ doubled quote bs ≡ b ∷ doubled quote bs in
    subst P (sym (ne_eqb b quote ne)) refl

pub doubled_quote : (quote : ℕ) (bs : List ℕ) → doubled quote (quote ∷ bs) ≡ quote ∷ quote ∷ doubled quote bs
doubled_quote quote bs =
    let P : Bool → Type 0 = λ t. cond t (quote ∷ quote ∷ []) (quote ∷ []) ++ doubled quote bs ≡ quote ∷ quote ∷ doubled quote bs in
    subst P (sym (eq-eqb quote quote refl)) refl

-- the bytes are what follows an opening quote, up to the closing one
abbrev pub Closes : ℕ → List ℕ → Type 0
Closes quote bytes = (inner : List ℕ) × (bytes ≡ doubled quote inner ++ quote ∷ [])

closes_empty : (quote : ℕ) → Closes quote [] → ⊥
closes_empty quote (inner, e) = omega (arith, ap length e, length-append (doubled quote inner) (quote ∷ []))

closes_plain : (quote b : ℕ) (bs : List ℕ) → (b ≡ quote → ⊥) → Closes quote (b ∷ bs) → Closes quote bs
closes_plain quote b bs ne ([], e) = absurd (ne (cc (e)))
closes_plain quote b bs ne (c ∷ cs, e) =
    elim (cases_eq c quote) [
      | inl is ↦
          let twice : doubled quote (c ∷ cs) ≡ quote ∷ quote ∷ doubled quote cs = subst (λ (x : ℕ). doubled quote (x ∷ cs) ≡ quote ∷ quote ∷ doubled quote cs) (sym is) (doubled_quote quote cs) in
          let f : b ∷ bs ≡ quote ∷ quote ∷ doubled quote cs ++ quote ∷ [] = e ∙ ap (λ (xs : List ℕ). xs ++ quote ∷ []) twice in
          absurd (ne (cc (f)))
      | inr isnt ↦
          let f : b ∷ bs ≡ c ∷ doubled quote cs ++ quote ∷ [] = e ∙ ap (λ (xs : List ℕ). xs ++ quote ∷ []) (doubled_plain quote c cs isnt) in
          let g : bs ≡ doubled quote cs ++ quote ∷ [] = cc (f) in
          (cs, g)
    ]

to_plain : (quote b : ℕ) (bs : List ℕ) → (b ≡ quote → ⊥) → Closes quote bs → Closes quote (b ∷ bs)
to_plain quote b bs ne (inner, e) =
    let f : b ∷ bs ≡ b ∷ doubled quote inner ++ quote ∷ [] = ap (λ (xs : List ℕ). b ∷ xs) e in
    (b ∷ inner, f ∙ ap (λ (xs : List ℕ). xs ++ quote ∷ []) (sym (doubled_plain quote b inner ne)))

closes_pair : (quote x : ℕ) (bs : List ℕ) → Closes quote (quote ∷ x ∷ bs) → (x ≡ quote) × Closes quote bs
closes_pair quote x bs ([], e) = absurd (cc (e))
closes_pair quote x bs (c ∷ cs, e) =
    elim (cases_eq c quote) [
      | inl is ↦
          let twice : doubled quote (c ∷ cs) ≡ quote ∷ quote ∷ doubled quote cs = subst (λ (y : ℕ). doubled quote (y ∷ cs) ≡ quote ∷ quote ∷ doubled quote cs) (sym is) (doubled_quote quote cs) in
          let f : quote ∷ x ∷ bs ≡ quote ∷ quote ∷ doubled quote cs ++ quote ∷ [] = e ∙ ap (λ (xs : List ℕ). xs ++ quote ∷ []) twice in
          let same : x ≡ quote = cc (f) in
          let rest : bs ≡ doubled quote cs ++ quote ∷ [] = cc (f) in
          (same, (cs, rest))
      | inr isnt ↦
          let f : quote ∷ x ∷ bs ≡ c ∷ doubled quote cs ++ quote ∷ [] = e ∙ ap (λ (xs : List ℕ). xs ++ quote ∷ []) (doubled_plain quote c cs isnt) in
          let head : c ≡ quote = cc (f) in
          absurd (isnt head)
    ]

to_pair : (quote : ℕ) (bs : List ℕ) → Closes quote bs → Closes quote (quote ∷ quote ∷ bs)
to_pair quote bs (inner, e) =
    let f : quote ∷ quote ∷ bs ≡ quote ∷ quote ∷ doubled quote inner ++ quote ∷ [] = ap (λ (xs : List ℕ). quote ∷ quote ∷ xs) e in
    (quote ∷ inner, f ∙ ap (λ (xs : List ℕ). xs ++ quote ∷ []) (sym (doubled_quote quote inner)))

closes_one : (quote : ℕ) → Closes quote (quote ∷ [])
closes_one quote = ([], refl)

-- What was read of a text leaves a rest. A front of the text in quotes is no longer than the longest one so far, or it ends in the rest.
pub record IsReadTo (quote : ℕ) (text rest : List ℕ) (longest : ℕ) : Type 0 where
  pub shorter : length rest < length text
  pub within : longest ≤ length text - length rest
  pub holds : 0 < longest → IsQuoted quote (take longest text)
  pub closing : (n : ℕ) → n ≤ length rest → Closes quote (take n rest) → IsQuoted quote (take (length text - length rest + n) text)
  pub longer : (later : ℕ) → longest < later → later ≤ length text → IsQuoted quote (take later text)
      → (n : ℕ) × (later ≡ length text - length rest + n) × (n ≤ length rest) × Closes quote (take n rest)

at_length : (quote m n : ℕ) (text : List ℕ) → m ≡ n → IsQuoted quote (take m text) → IsQuoted quote (take n text)
at_length quote m n text e h = subst (λ (k : ℕ). IsQuoted quote (take k text)) e h

-- past a byte that is no quote
past_plain : (quote b : ℕ) (text bs : List ℕ) (longest : ℕ) → (b ≡ quote → ⊥) → IsReadTo quote text (b ∷ bs) longest → IsReadTo quote text bs longest
past_plain quote b text bs longest ne read = record {
  shorter = omega (arith, read.shorter);
  within = omega (arith, read.within);
  holds = read.holds;
  closing = λ n le closes. at_length quote (length text - length (b ∷ bs) + suc n) (length text - length bs + n) text (omega (arith, read.shorter))
      (read.closing (suc n) (omega arith) (to_plain quote b (take n bs) ne closes));
  longer = λ later lt le quoted. let (n, e, short, closes) = read.longer later lt le quoted in ends later n e short closes;
} where
  ends : (later n : ℕ) → later ≡ length text - length (b ∷ bs) + n → n ≤ length (b ∷ bs) → Closes quote (take n (b ∷ bs))
      → (n : ℕ) × (later ≡ length text - length bs + n) × (n ≤ length bs) × Closes quote (take n bs)
  ends later zero e short closes = absurd (closes_empty quote closes)
  ends later (suc n) e short closes = (n, omega (arith, read.shorter), omega arith, closes_plain quote b (take n bs) ne closes)

-- past a doubled quote, whose first quote may be the closing one
past_pair : (quote : ℕ) (text bs : List ℕ) (longest : ℕ) → IsReadTo quote text (quote ∷ quote ∷ bs) longest
    → IsReadTo quote text bs (length text - length (quote ∷ quote ∷ bs) + 1)
past_pair quote text bs longest read = record {
  shorter = omega (arith, read.shorter);
  within = omega (arith, read.shorter);
  holds = λ some. read.closing 1 (omega arith) (closes_one quote);
  closing = λ n le closes. at_length quote (length text - length (quote ∷ quote ∷ bs) + suc (suc n)) (length text - length bs + n) text (omega (arith, read.shorter))
      (read.closing (suc (suc n)) (omega arith) (to_pair quote (take n bs) closes));
  longer = λ later lt le quoted.
      let (n, e, short, closes) = read.longer later (omega (arith, read.within)) le quoted in ends later n lt e short closes;
} where
  ends : (later n : ℕ) → length text - length (quote ∷ quote ∷ bs) + 1 < later → later ≡ length text - length (quote ∷ quote ∷ bs) + n → n ≤ length (quote ∷ quote ∷ bs)
      → Closes quote (take n (quote ∷ quote ∷ bs)) → (n : ℕ) × (later ≡ length text - length bs + n) × (n ≤ length bs) × Closes quote (take n bs)
  ends later zero lt e short closes = absurd (omega arith)
  ends later (suc zero) lt e short closes = absurd (omega arith)
  ends later (suc (suc n)) lt e short closes = (n, omega (arith, read.shorter), omega arith, (closes_pair quote quote (take n bs) closes).1)

-- a quote that no other follows is the closing one
closed : (quote : ℕ) (text bs : List ℕ) (longest : ℕ) → ((x : ℕ) (ys : List ℕ) → bs ≡ x ∷ ys → x ≡ quote → ⊥) → IsReadTo quote text (quote ∷ bs) longest
    → IsLongestFront (IsQuoted quote) text (length text - length (quote ∷ bs) + 1)
closed quote text bs longest alone read = record {
  within = omega (arith, read.shorter);
  holds = λ some. read.closing 1 (omega arith) (closes_one quote);
  longest = λ later lt le quoted.
      let (n, e, short, closes) = read.longer later (omega (arith, read.within)) le quoted in ends bs alone later n lt e short closes;
} where
  ends : (bs : List ℕ) → ((x : ℕ) (ys : List ℕ) → bs ≡ x ∷ ys → x ≡ quote → ⊥) → (later n : ℕ) → length text - length (quote ∷ bs) + 1 < later
      → later ≡ length text - length (quote ∷ bs) + n → n ≤ length (quote ∷ bs) → Closes quote (take n (quote ∷ bs)) → ⊥
  ends bs alone later zero lt e short closes = absurd (omega arith)
  ends bs alone later (suc zero) lt e short closes = absurd (omega arith)
  ends [] alone later (suc (suc n)) lt e short closes = absurd (omega arith)
  ends (x ∷ ys) alone later (suc (suc n)) lt e short closes = alone x ys refl (closes_pair quote x (take n ys) closes).0

ended : (quote : ℕ) (text : List ℕ) (longest : ℕ) → IsReadTo quote text [] longest → IsLongestFront (IsQuoted quote) text longest
ended quote text longest read = record {
  within = omega (arith, read.within);
  holds = read.holds;
  longest = λ later lt le quoted. let (n, e, short, closes) = read.longer later lt le quoted in ends n short closes;
} where
  ends : (n : ℕ) → n ≤ length {A = ℕ} [] → Closes quote (take n []) → ⊥
  ends zero short closes = closes_empty quote closes
  ends (suc n) short closes = absurd (omega arith)

-- The same of a rest that is read by its places.

pub reads_plain : (quote : ℕ) (text rest : List ℕ) (longest : ℕ) → 1 ≤ length rest → (get_or rest 0 0 ≡ quote → ⊥) → IsReadTo quote text rest longest
    → IsReadTo quote text (take (length rest - 1) (drop 1 rest)) longest
reads_plain quote text [] longest le ne read = absurd (omega arith)
reads_plain quote text (b ∷ bs) longest le ne read =
    subst (λ (ys : List ℕ). IsReadTo quote text ys longest) (sym (take_rest (b ∷ bs) 1)) (past_plain quote b text bs longest ne read)

pub reads_pair : (quote : ℕ) (text rest : List ℕ) (longest : ℕ) → 2 ≤ length rest → get_or rest 0 0 ≡ quote → get_or rest 1 0 ≡ quote → IsReadTo quote text rest longest
    → IsReadTo quote text (take (length rest - 2) (drop 2 rest)) (length text - length rest + 1)
reads_pair quote text [] longest le first second read = absurd (omega arith)
reads_pair quote text (a ∷ []) longest le first second read = absurd (omega arith)
reads_pair quote text (a ∷ b ∷ bs) longest le first second read =
    let two : a ∷ b ∷ bs ≡ quote ∷ quote ∷ bs = cc (first, second) in
    subst (λ (ys : List ℕ). IsReadTo quote text ys (length text - length (a ∷ b ∷ bs) + 1)) (sym (take_rest (a ∷ b ∷ bs) 2))
    (past_pair quote text bs longest (subst (λ (ys : List ℕ). IsReadTo quote text ys longest) two read))

no_quote_next : (quote a : ℕ) (bs : List ℕ) → (2 ≤ length (a ∷ bs) → get_or (a ∷ bs) 1 0 ≡ quote → ⊥) → (x : ℕ) (ys : List ℕ) → bs ≡ x ∷ ys → x ≡ quote → ⊥
no_quote_next quote a [] second x ys e same = absurd (cc (e))
no_quote_next quote a (b ∷ bs) second x ys e same = let head : b ≡ x = cc (e) in second (omega arith) (head ∙ same)

pub reads_closed : (quote : ℕ) (text rest : List ℕ) (longest : ℕ) → 1 ≤ length rest → get_or rest 0 0 ≡ quote → (2 ≤ length rest → get_or rest 1 0 ≡ quote → ⊥)
    → IsReadTo quote text rest longest → IsLongestFront (IsQuoted quote) text (length text - length rest + 1)
reads_closed quote text [] longest le first second read = absurd (omega arith)
reads_closed quote text (a ∷ bs) longest le first second read =
    let one : a ∷ bs ≡ quote ∷ bs = cc (first) in
    closed quote text bs longest (no_quote_next quote a bs second) (subst (λ (ys : List ℕ). IsReadTo quote text ys longest) one read)

pub reads_ended : (quote : ℕ) (text rest : List ℕ) (longest : ℕ) → length rest < 1 → IsReadTo quote text rest longest → IsLongestFront (IsQuoted quote) text longest
reads_ended quote text [] longest none read = ended quote text longest read
reads_ended quote text (b ∷ bs) longest none read = absurd (omega arith)

opened_cons : (quote : ℕ) (bs : List ℕ) → IsReadTo quote (quote ∷ bs) bs 0
opened_cons quote bs = record {
  shorter = omega arith;
  within = omega arith;
  holds = λ some. absurd (omega arith);
  closing = λ n le closes. at_length quote (suc n) (length (quote ∷ bs) - length bs + n) (quote ∷ bs) (omega arith) (opens n closes);
  longer = λ later lt le quoted. behind later le quoted;
} where
  opens : (n : ℕ) → Closes quote (take n bs) → IsQuoted quote (take (suc n) (quote ∷ bs))
  opens n (inner, e) = (inner, ap (λ (xs : List ℕ). quote ∷ xs) e)

  behind : (later : ℕ) → later ≤ length (quote ∷ bs) → IsQuoted quote (take later (quote ∷ bs))
      → (n : ℕ) × (later ≡ length (quote ∷ bs) - length bs + n) × (n ≤ length bs) × Closes quote (take n bs)
  behind zero le (inner, e) = absurd (cc (e))
  behind (suc n) le (inner, e) = let f : take n bs ≡ doubled quote inner ++ quote ∷ [] = cc (e) in (n, omega arith, omega arith, (inner, f))

-- behind an opening quote
pub reads_opened : (quote : ℕ) (text : List ℕ) → 1 ≤ length text → get_or text 0 0 ≡ quote → IsReadTo quote text (take (length text - 1) (drop 1 text)) 0
reads_opened quote [] le first = absurd (omega arith)
reads_opened quote (a ∷ bs) le first =
    let one : quote ∷ bs ≡ a ∷ bs = cc (first) in
    subst (λ (ys : List ℕ). IsReadTo quote (a ∷ bs) ys 0) (sym (take_rest (a ∷ bs) 1)) (subst (λ (ys : List ℕ). IsReadTo quote ys bs 0) one (opened_cons quote bs))

-- no quote opens the text
pub reads_none : (quote : ℕ) (text : List ℕ) → (1 ≤ length text → get_or text 0 0 ≡ quote → ⊥) → IsLongestFront (IsQuoted quote) text 0
reads_none quote text ne = record {
  within = omega arith;
  holds = λ some. absurd (omega arith);
  longest = λ later lt le quoted. opens text ne later lt le quoted;
} where
  opens : (text : List ℕ) → (1 ≤ length text → get_or text 0 0 ≡ quote → ⊥) → (later : ℕ) → 0 < later → later ≤ length text → IsQuoted quote (take later text) → ⊥
  opens text ne zero lt le quoted = absurd (omega arith)
  opens [] ne (suc n) lt le quoted = absurd (omega arith)
  opens (b ∷ bs) ne (suc n) lt le (inner, e) = let head : b ≡ quote = cc (e) in ne (omega arith) head

length_doubled : (quote : ℕ) (bs : List ℕ) → length bs ≤ length (doubled quote bs)
length_doubled quote [] = omega arith
length_doubled quote (b ∷ bs) =
    elim (cases_eq b quote) [
      | inl is ↦
          let twice : doubled quote (b ∷ bs) ≡ quote ∷ quote ∷ doubled quote bs = subst (λ (y : ℕ). doubled quote (y ∷ bs) ≡ quote ∷ quote ∷ doubled quote bs) (sym is) (doubled_quote quote bs) in
          omega (arith, ap length twice, length_doubled quote bs)
      | inr isnt ↦ omega (arith, ap length (doubled_plain quote b bs isnt), length_doubled quote bs)
    ]

length_quoted : (quote : ℕ) (inner bs : List ℕ) → bs ≡ in_quotes quote inner → length inner + 2 ≤ length bs
length_quoted quote inner bs e =
    omega (arith, ap length e, length-append (doubled quote inner) (quote ∷ []), length_doubled quote inner)

-- a front of more than two bytes in quotes holds a name
pub name_front : (xs : List ℕ) (n : ℕ) → IsLongestFront (IsQuoted name_quote) xs n → 2 < n → IsLongestFront (IsPiece (piece.Token kind.Quoted)) xs n
name_front xs n front lt = record {
  within = front.within;
  holds = λ some. let (inner, e) = front.holds some in named inner e;
  longest = λ later more le (name, some, e). front.longest later more le (name, e);
} where
  named : (inner : List ℕ) → take n xs ≡ in_quotes name_quote inner → IsPiece (piece.Token kind.Quoted) (take n xs)
  named [] e = absurd (omega (arith, ap length e, length-take n xs, front.within))
  named (b ∷ bs) e = (b ∷ bs, omega arith, e)

pub no_name_front : (xs : List ℕ) (n : ℕ) → IsLongestFront (IsQuoted name_quote) xs n → n ≤ 2 → IsLongestFront (IsPiece (piece.Token kind.Quoted)) xs 0
no_name_front xs n front le = record {
  within = omega arith;
  holds = λ some. absurd (omega arith);
  longest = λ later lt within (name, some, e). elim (cases_lt n later) [
    | inl more ↦ front.longest later more within (name, e)
    | inr less ↦ absurd (omega (arith, length_quoted name_quote name (take later xs) e, length-take later xs))
  ];
}
