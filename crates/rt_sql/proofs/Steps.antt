-- A text is cut in one way.
use Rattle.std.proofs.Common.{◌≡◌, ℕ, ◌-◌, ◌<◌, ◌≤◌, List, [], ◌∷◌, ◌++◌, length, take, drop, refl, sym, ap, subst, ◌∙◌, inl, inr, ◌⊎◌, arith, length-take}
use Rattle.std.specs.Prelude.{slice_range}
use Rattle.std.proofs.lemmas.Bool.{cases_lt, cases_order}
use Rattle.std.proofs.lemmas.List.{take-take}
use Rattle.std.proofs.lemmas.Slice.{between_is}
use Rattle.rt_sql.specs.declared.piece.Piece.{Piece}
use Rattle.rt_sql.specs.declared.piece.Piece.TheVariants.{Blanks, Comment, Token}
use Rattle.rt_sql.specs.declared.lexeme.Token as token
use Rattle.rt_sql.specs.Piece.{IsPiece}
use Rattle.rt_sql.specs.Cut as c
use Rattle.rt_sql.specs.Cut.{IsLongest, NoneBegins, Leads, IsCut, IsUncut}
use Rattle.rt_sql.proofs.Longest.{no_empty_piece}
use Rattle.rt_sql.proofs.KindOf.{one_kind}

pub no_piece_back : (text : List ℕ) (piece : Piece) (from to : ℕ) → to ≤ from → IsPiece piece (slice_range text from to) → ⊥
no_piece_back text piece from to le written =
    let none : to - from ≡ 0 = omega arith in
    no_empty_piece piece (subst (λ (n : ℕ). IsPiece piece (take n (drop from text))) none written)

-- a piece leads forward
pub forward : (text : List ℕ) (piece : Piece) (from to : ℕ) → IsLongest text piece from to → from < to
forward text piece from to long =
    elim (cases_lt from to) [ inl lt ↦ lt | inr le ↦ absurd (no_piece_back text piece from to le long.written) ]

pub none_at_end : (text : List ℕ) → NoneBegins text (length text)
none_at_end text piece to le written = no_piece_back text piece (length text) to le written

-- the longest piece at a place is one piece
same_step : (text : List ℕ) (p q : Piece) (from x y : ℕ) → IsLongest text p from x → IsLongest text q from y → (p ≡ q) × (x ≡ y)
same_step text p q from x y long also =
    let ends : x ≡ y = elim (cases_order x y) [
      | inl e ↦ e
      | inr (inl lt) ↦ absurd (long.longest q y lt also.within also.written)
      | inr (inr gt) ↦ absurd (also.longest p x gt long.within long.written)
    ] in
    (one_kind p q (slice_range text from y) (subst (λ (to : ℕ). IsPiece p (slice_range text from to)) ends long.written) also.written, ends)

-- what a piece adds before the tokens that follow it
abbrev with_piece : Piece → ℕ → ℕ → List token.Token → List token.Token
with_piece Blanks from to tokens = tokens
with_piece Comment from to tokens = tokens
with_piece (Token kind) from to tokens = record { kind = kind; from = from; to = to } ∷ tokens

-- a way through a text begins with a piece, or it is at its end
record Begins (text : List ℕ) (from : ℕ) (tokens : List token.Token) (to : ℕ) : Type 0 where
  piece : Piece
  next : ℕ
  others : List token.Token
  long : IsLongest text piece from next
  way : Leads text next others to
  are : tokens ≡ with_piece piece from next others

view : {text : List ℕ} {from to : ℕ} {tokens : List token.Token} → Leads text from tokens to → ((from ≡ to) × (tokens ≡ [])) ⊎ Begins text from tokens to
view c.arrived = inl (refl, refl)
view (c.blanks long way) = inr (record { piece = Blanks; next = _; others = _; long = long; way = way; are = refl })
view (c.comment long way) = inr (record { piece = Comment; next = _; others = _; long = long; way = way; are = refl })
view (c.one {kind = kind} long way) = inr (record { piece = Token kind; next = _; others = _; long = long; way = way; are = refl })

none_here : (text : List ℕ) (piece : Piece) (at to : ℕ) → NoneBegins text at → IsLongest text piece at to → ⊥
none_here text piece at to none long = none piece to long.within long.written

-- ways from one place that go on as far as pieces begin are one
abbrev IsOnlyWay : List ℕ → ℕ → List token.Token → ℕ → Type 0
IsOnlyWay text from tokens to = (others : List token.Token) (end : ℕ) → Leads text from others end → NoneBegins text end → (tokens ≡ others) × (to ≡ end)

same_next : (text : List ℕ) (piece : Piece) (from next to : ℕ) (tokens : List token.Token) → IsLongest text piece from next → IsOnlyWay text next tokens to
    → IsOnlyWay text from (with_piece piece from next tokens) to
same_next text piece from next to tokens long only others end way none =
    elim (view way) [
      | inl (here, empty) ↦ absurd (none_here text piece end next none (subst (λ (at : ℕ). IsLongest text piece at next) here long))
      | inr begins ↦
          let (kinds, ends) = same_step text piece begins.piece from next begins.next long begins.long in
          let (same, stop) = only begins.others end (subst (λ (at : ℕ). Leads text at begins.others end) (sym ends) begins.way) none in
          let joined : with_piece piece from next tokens ≡ with_piece begins.piece from begins.next begins.others = cc (kinds, ends, same) in
          (joined ∙ sym begins.are, stop)
    ]

only_here : (text : List ℕ) (at : ℕ) → NoneBegins text at → IsOnlyWay text at [] at
only_here text at here others end way none =
    elim (view way) [ inl (ends, empty) ↦ (sym empty, ends) | inr begins ↦ absurd (none_here text begins.piece at begins.next here begins.long) ]

only_way : {text : List ℕ} {from to : ℕ} {tokens : List token.Token} → Leads text from tokens to → NoneBegins text to → IsOnlyWay text from tokens to
only_way {text} {from} c.arrived here = only_here text from here
only_way {text} {from} {to} (c.blanks {next = next} {tokens = tokens} long way) here = same_next text Blanks from next to tokens long (only_way way here)
only_way {text} {from} {to} (c.comment {next = next} {tokens = tokens} long way) here = same_next text Comment from next to tokens long (only_way way here)
only_way {text} {from} {to} (c.one {next = next} {kind = kind} {tokens = tokens} long way) here = same_next text (Token kind) from next to tokens long (only_way way here)

pub one_list : (text : List ℕ) (a b : List token.Token) → IsCut text a → IsCut text b → a ≡ b
one_list text a b is also = (only_way is (none_at_end text) b (length text) also (none_at_end text)).0

pub cut_is_whole : (text : List ℕ) (tokens : List token.Token) (at : ℕ) → IsCut text tokens → IsUncut text at → ⊥
cut_is_whole text tokens at is uncut =
    let ends : length text ≡ at = (only_way is (none_at_end text) uncut.before.0 at uncut.before.1 uncut.none).1 in
    omega (arith, ends, uncut.within)

pub one_place : (text : List ℕ) (at other : ℕ) → IsUncut text at → IsUncut text other → at ≡ other
one_place text at other is also = (only_way is.before.1 is.none also.before.0 other also.before.1 also.none).1

pub joins : {text : List ℕ} {from middle to : ℕ} {xs ys : List token.Token} → Leads text from xs middle → Leads text middle ys to → Leads text from (xs ++ ys) to
joins c.arrived way = way
joins (c.blanks long before) way = c.blanks long (joins before way)
joins (c.comment long before) way = c.comment long (joins before way)
joins (c.one long before) way = c.one long (joins before way)

-- a way goes forward
pub no_way_back : {text : List ℕ} {from to : ℕ} {tokens : List token.Token} → Leads text from tokens to → from ≤ to
no_way_back c.arrived = omega arith
no_way_back {text} {from} (c.blanks {next = next} long way) = omega (arith, forward text Blanks from next long, no_way_back way)
no_way_back {text} {from} (c.comment {next = next} long way) = omega (arith, forward text Comment from next long, no_way_back way)
no_way_back {text} {from} (c.one {next = next} {kind = kind} long way) = omega (arith, forward text (Token kind) from next long, no_way_back way)

pub way_within : {text : List ℕ} {from to : ℕ} {tokens : List token.Token} → Leads text from tokens to → from ≤ length text → to ≤ length text
way_within c.arrived le = le
way_within (c.blanks long way) le = way_within way long.within
way_within (c.comment long way) le = way_within way long.within
way_within (c.one long way) le = way_within way long.within

same_slice : (text : List ℕ) (at from to : ℕ) → to ≤ at → slice_range (take at text) from to ≡ slice_range text from to
same_slice text at from to le =
    between_is (take at text) from to ∙ ap (drop from) (take-take to at text le) ∙ sym (between_is text from to)

front_long : (text : List ℕ) (piece : Piece) (at from to : ℕ) → to ≤ at → at ≤ length text → IsLongest text piece from to → IsLongest (take at text) piece from to
front_long text piece at from to le within long = record {
  within = omega (arith, length-take at text);
  written = subst (IsPiece piece) (sym (same_slice text at from to le)) long.written;
  longest = λ other later lt short written.
      let before : later ≤ at = omega (arith, length-take at text) in
      long.longest other later lt (omega arith) (subst (IsPiece other) (same_slice text at from later before) written);
}

front_way : {text : List ℕ} {from to : ℕ} {tokens : List token.Token} (at : ℕ) → Leads text from tokens to → to ≤ at → at ≤ length text → Leads (take at text) from tokens to
front_way at c.arrived le within = c.arrived
front_way {text} {from} at (c.blanks {next = next} long way) le within =
    c.blanks (front_long text Blanks at from next (omega (arith, no_way_back way)) within long) (front_way at way le within)
front_way {text} {from} at (c.comment {next = next} long way) le within =
    c.comment (front_long text Comment at from next (omega (arith, no_way_back way)) within long) (front_way at way le within)
front_way {text} {from} at (c.one {next = next} {kind = kind} long way) le within =
    c.one (front_long text (Token kind) at from next (omega (arith, no_way_back way)) within long) (front_way at way le within)

pub front_cut : (text : List ℕ) (tokens : List token.Token) (at : ℕ) → Leads text 0 tokens at → IsCut (take at text) tokens
front_cut text tokens at way =
    let within : at ≤ length text = way_within way (omega arith) in
    let ends : at ≡ length (take at text) = omega (arith, length-take at text) in
    subst (λ (to : ℕ). Leads (take at text) 0 tokens to) ends (front_way at way (omega arith) within)
