-- The catalogue of a text, and why a text has none.
use Rattle.std.specs.Prelude.{◌≡◌, ℕ, ◌==◌, ◌≤◌, ◌<◌, List, map, length, count_by, slice_get, Some, option_map}
use Rattle.std.specs.Prelude.{unwrap_or, Ok, Err, IsUtf8}
use Rattle.std.specs.List.{list_any, filter, range_with_len}
use Rattle.std.specs.Str.Lossy.{utf8_valid_len}
use Rattle.std.specs.Ordering.{nat_cmp}
use Rattle.std.specs.declared.cmp.Ordering.{Ordering}
use Rattle.std.specs.Cmp.Lexicographic.{slice_cmp}
use Rattle.rt_sql.specs.declared.lexeme.Token.{Token}
use Rattle.rt_sql.specs.Cut.{Leads, IsCut, IsUncut}
use Rattle.rt_sql.specs.Lexeme.{lexemes}
use Rattle.rt_value.specs.Places.{IsStuckAt}
use Rattle.rt_value.specs.Ordered.{in_order}
use Rattle.rt_policy.specs.declared.tables.Policy.{Policy}
use Rattle.rt_policy.specs.declared.tables.TableRules.{TableRules}
use Rattle.rt_catalog.specs.declared.catalog.Catalog.{Catalog}
use Rattle.rt_catalog.specs.declared.fault.Why.{Why}
use Rattle.rt_catalog.specs.declared.fault.Why.TheVariants as why
use Rattle.rt_catalog.specs.declared.fault.CatalogFault.{CatalogFault}
use Rattle.rt_catalog.specs.declared.fault.CatalogFault.TheVariants.{NoMemory, Refused}
use Rattle.rt_catalog.specs.Grammar.{Placed, Written, MayGoOn}
use Rattle.rt_catalog.specs.Lists.{Lists}
use Rattle.rt_catalog.specs.Memberships.{closed}
use Rattle.rt_catalog.specs.Refusals.{lists_of, reaches}

-- the text's tokens are the statements
pub record IsFile (text : List ℕ) (file : List Placed) : Type 0 where
  pub utf8 : IsUtf8 text
  pub tokens : List Token
  pub cut : IsCut text tokens
  pub written : Written file (lexemes text tokens)

-- policies by the bytes of their names
abbrev pub name_cmp : Policy → Policy → Ordering
name_cmp p q = slice_cmp nat_cmp p.name q.name

abbrev pub policies_on : Lists → ℕ → List Policy
policies_on l table = in_order name_cmp (map (λ p. p.policy) (filter (λ p. p.table == table) l.policies))

-- a table's row security: whether it is on, and the table's policies in the order of their names; the rank is how many tables it leads to
pub record IsRulesOf (l : Lists) (table : ℕ) (rules : TableRules) : Type 0 where
  pub secured : rules.secured ≡ list_any (λ n. n == table) l.secured
  pub policies : rules.policies ≡ policies_on l table
  pub rank : rules.rank ≡ count_by (reaches l table) (range_with_len 0 (length l.tables))

-- the catalogue holds the first five lists
pub record Holds (c : Catalog) (l : Lists) : Type 0 where
  pub tables : c.tables ≡ l.tables
  pub roles : c.roles ≡ map (λ r. r.role) l.roles
  pub grants : c.grants ≡ l.grants
  pub as_many : length c.rules.tables ≡ length l.tables
  pub rules : (table : ℕ) (rules : TableRules) → slice_get c.rules.tables table ≡ Some rules → IsRulesOf l table rules

-- the text is a file, `lists` are what its statements mean, and the catalogue is of the closed lists
pub record IsCatalogue (text : List ℕ) (c : Catalog) : Type 0 where
  pub file : List Placed
  pub is_file : IsFile text file
  pub lists : Lists
  pub meant : lists_of file ≡ Ok lists
  pub holds : Holds c (closed lists)

-- where a token begins; behind the last it is the text's end
abbrev pub place_of : List ℕ → List Token → ℕ → ℕ
place_of text tokens n = unwrap_or (option_map (λ t. t.from) (slice_get tokens n)) (length text)

-- what keeps a text from being a file, by the byte where it is
pub data Breaks (text : List ℕ) : ℕ → Type 0 where
  -- the bytes from here on are no character
  no_character : {at : ℕ} → at ≡ utf8_valid_len text → at < length text → Breaks text at
  -- no token begins here
  no_token : {at : ℕ} → IsUncut text at → Breaks text at
  -- this token can't go on
  no_statement : {at n to : ℕ} {tokens : List Token}
      → Leads text 0 tokens to → n < length tokens → IsStuckAt MayGoOn (lexemes text tokens) n → at ≡ place_of text tokens n → Breaks text at
  -- the end can't follow
  unfinished : {at : ℕ} {tokens : List Token}
      → IsCut text tokens → IsStuckAt MayGoOn (lexemes text tokens) (length tokens)
      → ((file : List Placed) → Written file (lexemes text tokens) → ⊥) → at ≡ length text → Breaks text at

-- the least byte where something does
pub record IsSyntaxAt (text : List ℕ) (at : ℕ) : Type 0 where
  pub broken : Breaks text at
  pub first : (other : ℕ) → Breaks text other → at ≤ other

-- a statement of the file is refused: its first token's place, and the reason
pub record IsRefusedAt (text : List ℕ) (at : ℕ) (reason : Why) : Type 0 where
  pub file : List Placed
  pub is_file : IsFile text file
  pub statement : ℕ
  pub refused : lists_of file ≡ Err (statement, reason)
  pub place : at ≡ place_of text is_file.tokens statement

-- a text that isn't a file is refused for its syntax, a file for the first refusal of its statements
abbrev pub IsFault : List ℕ → CatalogFault → Type 0
IsFault text (Refused at why.Syntax) = IsSyntaxAt text at
IsFault text (Refused at reason) = IsRefusedAt text at reason
IsFault text NoMemory = Unit {0}
