-- The tokens of a text one by one, and whether one of them keeps a long name.
use Rattle.std.proofs.Common.{◌≡◌, ℕ, ◌+◌, ◌<◌, ◌≤◌, Bool, true, false, ◌||◌, List, Some, drop, length, get_or}
use Rattle.std.proofs.Common.{option_map, ap, sym, ◌∙◌}
use Rattle.std.specs.List.{list_any, slice_get}
use Rattle.std.proofs.lemmas.List.{at_drop_more, at_drop_all}
use Rattle.std.proofs.lemmas.Option.{slice_get-get_or, slice_get-map}
use Rattle.rt_sql.specs.declared.lexeme.Token.{Token}
use Rattle.rt_sql.specs.Lexeme.{lexeme_of, lexemes}
use Rattle.rt_lexeme.specs.Long.{is_long_token}

pub lexeme_there : (text : List ℕ) (ts : List Token) (n : ℕ) (d : Token) → n < length ts
    → slice_get (lexemes text ts) n ≡ Some (lexeme_of text (get_or ts n d))
lexeme_there text ts n d lt =
    slice_get-map (lexeme_of text) ts n ∙ ap (option_map (lexeme_of text)) (slice_get-get_or ts n d lt)

-- whether some token of a list keeps a long name

any : List ℕ → List Token → Bool
any text ts = list_any is_long_token (lexemes text ts)

any_at : (text : List ℕ) (ts : List Token) (i : ℕ) (d : Token) → i < length ts
    → any text (drop i ts) ≡ (is_long_token (lexeme_of text (get_or ts i d)) || any text (drop (i + 1) ts))
unfolding any
any_at text ts i d lt = at_drop_more (λ (v : List Token). list_any is_long_token (lexemes text v)) ts i d lt

pub any_here : (text : List ℕ) (ts : List Token) (i : ℕ) (d : Token) → i < length ts
    → list_any is_long_token (lexemes text (drop i ts)) ≡ list_any is_long_token (lexemes text ts)
    → is_long_token (lexeme_of text (get_or ts i d)) ≡ true → true ≡ list_any is_long_token (lexemes text ts)
unfolding any
any_here text ts i d lt same is =
    sym (ap (λ (b : Bool). b || any text (drop (i + 1) ts)) is) ∙ sym (any_at text ts i d lt) ∙ same

pub any_later : (text : List ℕ) (ts : List Token) (i : ℕ) (d : Token) → i < length ts
    → list_any is_long_token (lexemes text (drop i ts)) ≡ list_any is_long_token (lexemes text ts)
    → is_long_token (lexeme_of text (get_or ts i d)) ≡ false
    → list_any is_long_token (lexemes text (drop (i + 1) ts)) ≡ list_any is_long_token (lexemes text ts)
unfolding any
any_later text ts i d lt same is =
    sym (ap (λ (b : Bool). b || any text (drop (i + 1) ts)) is) ∙ sym (any_at text ts i d lt) ∙ same

pub any_none : (text : List ℕ) (ts : List Token) (i : ℕ) → length ts ≤ i
    → list_any is_long_token (lexemes text (drop i ts)) ≡ list_any is_long_token (lexemes text ts)
    → false ≡ list_any is_long_token (lexemes text ts)
any_none text ts i le same =
    sym (at_drop_all (λ (v : List Token). list_any is_long_token (lexemes text v)) ts i le) ∙ same
