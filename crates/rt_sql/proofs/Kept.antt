-- The name that a token of a text in UTF-8 keeps is UTF-8.
use Rattle.std.proofs.Common.{◌≡◌, ℕ, suc, true, List, [], ◌∷◌, sym, subst, inl, inr, arith, lit<}
use Rattle.std.specs.Prelude.{IsUtf8, All}
use Rattle.std.specs.List.{AllByRecursion, list_all}
use Rattle.std.specs.Char.{to_ascii_lowercase}
use Rattle.std.specs.Str.{str_to_ascii_lowercase}
use Rattle.std.proofs.lemmas.Bool.{and_parts, and_from}
use Rattle.std.proofs.lemmas.Str.{IsUtf8-nil, IsUtf8-append, IsUtf8-between}
use Rattle.std.proofs.lemmas.Str.Ascii.{lowercase_ascii}
use Rattle.rt_sql.specs.declared.piece.Piece.TheVariants.{Token}
use Rattle.rt_sql.specs.declared.lexeme.TokenKind.{TokenKind}
use Rattle.rt_sql.specs.declared.lexeme.TokenKind.TheVariants.{Word, Quoted, Text, Number, Sign}
use Rattle.rt_sql.specs.declared.lexeme.Token as token
use Rattle.rt_sql.specs.Piece.{IsPiece, begins_word, continues_word, name_quote}
use Rattle.rt_sql.specs.Cut.{IsCut}
use Rattle.rt_sql.specs.Lexeme.{Lexeme, IsTokenOf, MayName, IsName, unquoted, kept_name, bytes_of, lexeme_of, lexemes}
use Rattle.rt_sql.proofs.Borders.{word_is_ascii, begin_continues, tokens_stand}
use Rattle.rt_sql.proofs.Unquoting.{quoted_again, one_byte_utf8, inner_utf8}

-- where the token may be a name, the name that it keeps is UTF-8
abbrev pub KeepsText : Lexeme → Type 0
KeepsText x = MayName x.kind → IsUtf8 (kept_name x)

-- the letters, digits and `_` of a word are ASCII, and stay so in lower case
lower_utf8 : (bytes : List ℕ) → list_all continues_word bytes ≡ true → IsUtf8 (str_to_ascii_lowercase bytes)
lower_utf8 [] all = IsUtf8-nil
lower_utf8 (b ∷ bytes) all =
    let (here, others) = and_parts (continues_word b) (list_all continues_word bytes) all in
    IsUtf8-append (to_ascii_lowercase b ∷ []) (str_to_ascii_lowercase bytes)
    (one_byte_utf8 (to_ascii_lowercase b) (lowercase_ascii b (word_is_ascii b here))) (lower_utf8 bytes others)

word_kept : (bytes : List ℕ) → IsPiece (Token Word) bytes → IsUtf8 (str_to_ascii_lowercase bytes)
word_kept [] word = absurd (cc (word))
word_kept (b ∷ bytes) word =
    let (begins, continues) = and_parts (begins_word b) (list_all continues_word bytes) word in
    lower_utf8 (b ∷ bytes) (and_from (continues_word b) (list_all continues_word bytes) (begin_continues b begins) continues)

-- what stands between the quotes
quoted_kept : (bytes : List ℕ) → IsUtf8 bytes → IsPiece (Token Quoted) bytes → IsUtf8 (unquoted name_quote bytes)
quoted_kept bytes utf8 (name, some, e) =
    let inner : IsUtf8 name = inner_utf8 name_quote name (lit< tt) (subst IsUtf8 e utf8) in
    subst (λ (xs : List ℕ). IsUtf8 (unquoted name_quote xs)) (sym e) (subst IsUtf8 (sym (quoted_again name_quote name)) inner)

piece_kept : (kind : TokenKind) (bytes : List ℕ) → IsUtf8 bytes → IsPiece (Token kind) bytes → KeepsText (record { kind = kind; bytes = bytes })
piece_kept Word bytes utf8 piece may = word_kept bytes piece
piece_kept Quoted bytes utf8 piece may = quoted_kept bytes utf8 piece
piece_kept Text bytes utf8 piece (inl e) = absurd (cc)
piece_kept Text bytes utf8 piece (inr e) = absurd (cc)
piece_kept Number bytes utf8 piece (inl e) = absurd (cc)
piece_kept Number bytes utf8 piece (inr e) = absurd (cc)
piece_kept Sign bytes utf8 piece (inl e) = absurd (cc)
piece_kept Sign bytes utf8 piece (inr e) = absurd (cc)

token_kept : (text : List ℕ) (t : token.Token) → IsUtf8 text → IsTokenOf text t → KeepsText (lexeme_of text t)
token_kept text t utf8 stands =
    let bytes : IsUtf8 (bytes_of text t) = IsUtf8-between text t.from t.to utf8 (omega (arith, stands.forward)) stands.starts stands.ends in
    piece_kept t.kind (bytes_of text t) bytes stands.written

each_kept : (text : List ℕ) (tokens : List token.Token) → IsUtf8 text → All (IsTokenOf text) tokens → AllByRecursion KeepsText (lexemes text tokens)
each_kept text [] utf8 stand = tt
each_kept text (t ∷ tokens) utf8 stand =
    (token_kept text t utf8 (stand 0 t (omega arith)), each_kept text tokens utf8 (λ k d lt. stand (suc k) d (omega arith)))

pub names_kept : (text : List ℕ) (tokens : List token.Token) → IsUtf8 text → IsCut text tokens → AllByRecursion KeepsText (lexemes text tokens)
names_kept text tokens utf8 cut = each_kept text tokens utf8 (tokens_stand text tokens utf8 cut)

pub name_utf8 : (name : List ℕ) (x : Lexeme) → IsName name x → KeepsText x → IsUtf8 name
name_utf8 name x (may, e) keeps = subst IsUtf8 e (keeps may)
