-- The answer to tokens from their first on, and to those from one place on.
use Rattle.std.proofs.Common.{◌≡◌, ℕ, ◌+◌, ◌-◌, ◌<◌, ◌≤◌, min, nat_le, Bool, true, false, List, take, drop, length, All}
use Rattle.std.proofs.Common.{Result, Ok, Err, ap, sym, subst, ◌∙◌, arith}
use Rattle.std.proofs.lemmas.Bool.{le-leb, lt-leb}
use Rattle.std.specs.List.{list_any}
use Rattle.std.proofs.lemmas.List.Elements.{All-drop, All-take}
use Rattle.std.proofs.lemmas.List.{length-map, take-map, drop-map, length-drop}
use Rattle.rt_value.specs.Places.{Ends, Breaks}
use Rattle.rt_sql.specs.declared.lexeme.Token.{Token}
use Rattle.rt_sql.specs.Lexeme.{Lexeme, IsTokenOf, lexeme_of, lexemes}
use Rattle.rt_policy.specs.Grammar.{Written}
use Rattle.rt_policy.specs.Parse.{Parses, Reads, Fails}
use Rattle.rt_policy.specs.Sizes.{enclosing, is_shallow}
use Rattle.rt_policy.specs.declared.expr.Expr.{Expr}
use Rattle.rt_policy.specs.declared.fault.ExprFault.{ExprFault}
use Rattle.rt_policy.specs.declared.fault.ExprFault.TheVariants.{NoMemory, BadExpr, TooDeep, UnknownName, BadType}
use Rattle.rt_policy.proofs.Exclusive.{one_end}
use Rattle.rt_sketch.specs.Recognized.{EndsAt}
use Rattle.rt_tree.specs.Answers.{Built}
use Rattle.rt_lexeme.specs.Long.{is_long_token}
use Rattle.rt_expr.specs.Tells.{Answers, Deep, Shallow}
use Rattle.rt_expr.proofs.LongExpr.{long_names}
use Rattle.rt_expr.proofs.Parsed.{reads_from, fails_from}

low_shallow : (n h : ℕ) → min n 32 ≡ h → h < 32 → nat_le (n + 1) 32 ≡ true
low_shallow n h e lt = le-leb (n + 1) 32 (omega arith)

high_deep : (n h : ℕ) → min n 32 ≡ h → 32 ≤ h → nat_le (n + 1) 32 ≡ false
high_deep n h e ge = lt-leb (n + 1) 32 (omega arith)

pub ends_shallow : (xs : List Lexeme) (at h : ℕ) → EndsAt xs at h → h < 32 → Shallow xs
ends_shallow xs at h f lt = record {
  tree = f.tree;
  to = at;
  ends = f.ends;
  shallow = low_shallow (enclosing f.tree) h f.height lt;
}

pub ends_deep : (xs : List Lexeme) (at h : ℕ) → EndsAt xs at h → 32 ≤ h → Deep xs at
ends_deep xs at h f ge = record {
  tree = f.tree;
  ends = f.ends;
  deep = high_deep (enclosing f.tree) h f.height ge;
}

pub ends_within : (text : List ℕ) (ts : List Token) (at h : ℕ) → EndsAt (lexemes text ts) at h → at ≤ length ts
ends_within text ts at h f = let w = f.ends.stuck.within in omega (arith, w, length-map ts (lexeme_of text))

-- the expression that is read whole is the one that was measured
pub built_shallow : (xs : List Lexeme) (r : Result (Expr × ℕ) ExprFault) → Shallow xs → Built xs r → Answers xs r
built_shallow xs (Ok found) s h =
    let there = reads_from xs 0 s.to s.tree s.ends in
    let here = reads_from xs 0 found.1 found.0 h in
    let same = one_end xs 0 s.tree found.0 (0 + s.to) (0 + found.1) there here in
    (h, subst (λ (v : Expr). is_shallow v ≡ true) same.0 s.shallow)
built_shallow xs (Err (BadExpr at)) s h = h
built_shallow xs (Err NoMemory) s h = tt
built_shallow xs (Err (TooDeep to long)) s h = absurd h
built_shallow xs (Err UnknownName) s h = absurd h
built_shallow xs (Err BadType) s h = absurd h

pub front_of_text : (text : List ℕ) (ts front : List Token) (to : ℕ) → front ≡ take to ts
    → All (IsTokenOf text) ts → All (IsTokenOf text) front
front_of_text text ts front to is h = subst (All (IsTokenOf text)) (sym is) (All-take (IsTokenOf text) to ts h)

pub deep_answer : (text : List ℕ) (ts front : List Token) (to : ℕ) (long : Bool) → Deep (lexemes text ts) to
    → front ≡ take to ts → long ≡ list_any is_long_token (lexemes text front)
    → Answers (lexemes text ts) (Err (TooDeep to long))
deep_answer text ts front to long d here is = (
  d.tree,
  d.ends,
  d.deep,
  long_names d.tree (take to (lexemes text ts)) d.ends.written
      ∙ ap (list_any is_long_token) (take-map (lexeme_of text) to ts)
      ∙ ap (λ (v : List Token). list_any is_long_token (lexemes text v)) (sym here) ∙ sym is,
)

-- behind a place

pub rest_answer : (text : List ℕ) (ts rest : List Token) (from : ℕ) (r : Result (Expr × ℕ) ExprFault)
    → rest ≡ drop from ts → Answers (lexemes text rest) r → Answers (lexemes text (drop from ts)) r
rest_answer text ts rest from r is h = subst (λ (v : List Token). Answers (lexemes text v) r) is h

pub rest_of_text : (text : List ℕ) (ts rest : List Token) (from : ℕ) → rest ≡ drop from ts
    → All (IsTokenOf text) ts → All (IsTokenOf text) rest
rest_of_text text ts rest from is h = subst (All (IsTokenOf text)) (sym is) (All-drop (IsTokenOf text) from ts h)

room : (text : List ℕ) (ts : List Token) (from n : ℕ) → n ≤ length (lexemes text (drop from ts)) → n ≤ length ts - from
room text ts from n h =
    let l = length-map (drop from ts) (lexeme_of text) in
    let d = length-drop from ts in
    omega (arith, h, l, d)

pub found_room : (text : List ℕ) (ts : List Token) (from n : ℕ) (e : Expr)
    → Answers (lexemes text (drop from ts)) (Ok (e, n)) → n ≤ length ts - from
found_room text ts from n e h = room text ts from n h.0.stuck.within

pub bad_room : (text : List ℕ) (ts : List Token) (from n : ℕ)
    → Answers (lexemes text (drop from ts)) (Err (BadExpr n)) → n ≤ length ts - from
bad_room text ts from n h = room text ts from n h.stuck.within

pub deep_room : (text : List ℕ) (ts : List Token) (from n : ℕ) (long : Bool)
    → Answers (lexemes text (drop from ts)) (Err (TooDeep n long)) → n ≤ length ts - from
deep_room text ts from n long h = room text ts from n h.1.stuck.within

behind : (text : List ℕ) (ts : List Token) (from : ℕ) → lexemes text (drop from ts) ≡ drop from (lexemes text ts)
behind text ts from = sym (drop-map (lexeme_of text) from ts)

ends_behind : (text : List ℕ) (ts : List Token) (from n : ℕ) (e : Expr)
    → Ends Written (lexemes text (drop from ts)) n e → Reads (lexemes text ts) from e (from + n)
ends_behind text ts from n e h =
    reads_from (lexemes text ts) from n e (subst (λ (v : List Lexeme). Ends Written v n e) (behind text ts from) h)

pub found_at : (text : List ℕ) (ts : List Token) (from n p : ℕ) (e : Expr) → p ≡ from + n
    → Answers (lexemes text (drop from ts)) (Ok (e, n)) → Parses (lexemes text ts) from (Ok (e, p))
found_at text ts from n p e is h =
    (subst (λ (k : ℕ). Reads (lexemes text ts) from e k) (sym is) (ends_behind text ts from n e h.0), h.1)

pub bad_at : (text : List ℕ) (ts : List Token) (from n p : ℕ) → p ≡ from + n
    → Answers (lexemes text (drop from ts)) (Err (BadExpr n)) → Parses (lexemes text ts) from (Err (BadExpr p))
bad_at text ts from n p is h =
    subst (λ (k : ℕ). Fails (lexemes text ts) from k) (sym is) (fails_from (lexemes text ts) from n
    (subst (λ (v : List Lexeme). Breaks Written v n) (behind text ts from) h))

pub deep_at : (text : List ℕ) (ts : List Token) (from n p : ℕ) (long : Bool) → p ≡ from + n
    → Answers (lexemes text (drop from ts)) (Err (TooDeep n long))
    → Parses (lexemes text ts) from (Err (TooDeep p long))
deep_at text ts from n p long is h =
    (h.0, subst (λ (k : ℕ). Reads (lexemes text ts) from h.0 k) (sym is) (ends_behind text ts from n h.0 h.1), h.2, h.3)
