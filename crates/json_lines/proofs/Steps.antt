-- A line and the lines behind it.
use Rattle.std.proofs.Common.{◌≡◌, ℕ, zero, suc, ◌-◌, ◌<◌, Bool, true, false, List, [], ◌∷◌, ◌++◌, refl, ap, subst, sym, ◌∙◌, length, take, get_or, arith, append_assoc, append-nil, length-append, ◌⊎◌, inl, inr, Option, Some, None, IfSome}
use Rattle.std.specs.Prelude.{◌==◌, nat_lt, Result, Ok, Err, IfOk, OnOk, codes, Vec}
use Rattle.std.specs.declared.alloc.Global.{Global}
use Rattle.std.specs.Fmt.{decimal}
use Rattle.std.specs.Io.KnownBytes.{Appends, Keeps, IsAtEnd}
use Rattle.std.specs.Io.BufRead.{take_through, drop_through, ends_with_byte, strip_last}
use Rattle.rt_json.specs.Grammar.{IsJson, IsBadAt, IsTooDeepAt}
use Rattle.rt_json.specs.Written.{written}
use Rattle.rt_json.specs.declared.tree.Json.{Json}
use Rattle.std.proofs.lemmas.List.{take_at}
use Rattle.std.proofs.lemmas.Bool.{eqb-true, cond-true, cond-false, lt-ltb, and_from, and_right, false≢true}
use Rattle.json_lines.specs.Lines as l
use Rattle.json_lines.specs.Lines.{IsAnswer, IsLine, Answers, HasAnswered}
use Rattle.json_lines.specs.Parts.{Takes, IsWhole}

last_at : (xs : List ℕ) (b : ℕ) → get_or (xs ++ b ∷ []) (length xs) 0 ≡ b
last_at [] b = refl
last_at (x ∷ xs) b = last_at xs b

strip_feed : (xs : List ℕ) → strip_last 10 (xs ++ 10 ∷ []) ≡ xs
strip_feed xs =
    let size : length (xs ++ 10 ∷ []) ≡ suc (length xs) = omega (arith, length-append xs (10 ∷ [])) in
    let before : length (xs ++ 10 ∷ []) - 1 ≡ length xs = omega (arith, size) in
    let last : (get_or (xs ++ 10 ∷ []) (length (xs ++ 10 ∷ []) - 1) 0 == 10) ≡ true = ap (λ (i : ℕ). get_or (xs ++ 10 ∷ []) i 0 == 10) before ∙ ap (λ (b : ℕ). b == 10) (last_at xs 10) in
    let ends : ends_with_byte 10 (xs ++ 10 ∷ []) ≡ true = and_from _ _ (lt-ltb _ _ (omega (arith, size))) last in
    cond-true _ _ _ ends ∙ ap (λ (i : ℕ). take i (xs ++ 10 ∷ [])) before ∙ take_at xs (10 ∷ []) (length xs) refl

no_feed_at : (xs : List ℕ) (i : ℕ) → IsLine xs → i < length xs → (get_or xs i 0 == 10) ≡ true → ⊥
no_feed_at [] i is lt e = let never : ⊥ = omega (arith, lt) in absurd never
no_feed_at (x ∷ xs) zero is lt e = absurd (false≢true (rw e at is))
no_feed_at (x ∷ xs) (suc i) is lt e = by (x == 10) refl (λ more. no_feed_at xs i more (omega (arith, lt)) e)
  where
    by : (b : Bool) → (x == 10) ≡ b → (IsLine xs → ⊥) → ⊥
    by true h none = absurd (false≢true (rw h at is))
    by false h none = none (rw h at is)

strip_line : (xs : List ℕ) → IsLine xs → strip_last 10 xs ≡ xs
strip_line [] is = refl
strip_line (x ∷ xs) is = by (get_or (x ∷ xs) (length (x ∷ xs) - 1) 0 == 10) refl
  where
    by : (b : Bool) → (get_or (x ∷ xs) (length (x ∷ xs) - 1) 0 == 10) ≡ b → strip_last 10 (x ∷ xs) ≡ x ∷ xs
    by true e = absurd (no_feed_at (x ∷ xs) (length (x ∷ xs) - 1) is (omega arith) e)
    by false e = cond-false _ _ _ (and_right (nat_lt 0 (length (x ∷ xs))) _ e)

-- bytes begin with a line and its line feed, or are the last line
record IsSplit (xs : List ℕ) : Type 0 where
  line : List ℕ
  is_line : IsLine line
  end : ((xs ≡ line ++ 10 ∷ drop_through 10 xs) × (take_through 10 xs ≡ line ++ 10 ∷ [])) ⊎ ((xs ≡ line) × (take_through 10 xs ≡ line) × (drop_through 10 xs ≡ []))

split : (xs : List ℕ) → IsSplit xs
split [] = record { line = []; is_line = refl; end = inr (refl, refl, refl) }
split (b ∷ bs) = by (b == 10) refl (split bs)
  where
    by : (x : Bool) → (b == 10) ≡ x → IsSplit bs → IsSplit (b ∷ bs)
    by true e s =
        let feed = eqb-true b 10 e in
        let taken : take_through 10 (b ∷ bs) ≡ b ∷ [] = cond-true _ _ _ e in
        let dropped : drop_through 10 (b ∷ bs) ≡ bs = cond-true _ _ _ e in
        record {
          line = [];
          is_line = refl;
          end = inl (ap (λ (y : ℕ). y ∷ bs) feed ∙ ap (λ (ys : List ℕ). 10 ∷ ys) (sym dropped), taken ∙ ap (λ (y : ℕ). y ∷ []) feed);
        }
    by false e s =
        let taken : take_through 10 (b ∷ bs) ≡ b ∷ take_through 10 bs = cond-false _ _ _ e in
        let dropped : drop_through 10 (b ∷ bs) ≡ drop_through 10 bs = cond-false _ _ _ e in
        let is : IsLine (b ∷ s.line) = rw (e, s.is_line) refl in
        ends taken dropped is s.end
      where
        ends : take_through 10 (b ∷ bs) ≡ b ∷ take_through 10 bs → drop_through 10 (b ∷ bs) ≡ drop_through 10 bs → IsLine (b ∷ s.line)
            → ((bs ≡ s.line ++ 10 ∷ drop_through 10 bs) × (take_through 10 bs ≡ s.line ++ 10 ∷ [])) ⊎ ((bs ≡ s.line) × (take_through 10 bs ≡ s.line) × (drop_through 10 bs ≡ [])) → IsSplit (b ∷ bs)
        ends taken dropped is (inl (whole, through)) = record {
          line = b ∷ s.line;
          is_line = is;
          end = inl (ap (λ (ys : List ℕ). b ∷ ys) whole ∙ ap (λ (ys : List ℕ). (b ∷ s.line) ++ 10 ∷ ys) (sym dropped), taken ∙ ap (λ (ys : List ℕ). b ∷ ys) through);
        }
        ends taken dropped is (inr (whole, through, rest)) = record {
          line = b ∷ s.line;
          is_line = is;
          end = inr (ap (λ (ys : List ℕ). b ∷ ys) whole, taken ∙ ap (λ (ys : List ℕ). b ∷ ys) through, dropped ∙ rest);
        }

no_rest : (rest : List ℕ) → Answers [] rest → rest ≡ []
no_rest rest k = by [] rest refl k
  where
    no_cons : (line input : List ℕ) → line ++ 10 ∷ input ≡ [] → ⊥
    no_cons [] input e = absurd cc
    no_cons (x ∷ xs) input e = absurd cc

    by : (xs rest : List ℕ) → xs ≡ [] → Answers xs rest → rest ≡ []
    by xs rest e l.none = refl
    by xs rest e (l.last_line {line = ys} is some good) = absurd (some e)
    by xs rest e (l.line {line = ys} {input = zs} is good more) = absurd (no_cons ys zs e)

-- one line is answered, and the rest
line_more : (xs answer rest : List ℕ) → 0 < length (take_through 10 xs) → IsAnswer (strip_last 10 (take_through 10 xs)) answer → Answers (drop_through 10 xs) rest → Answers xs ((answer ++ 10 ∷ []) ++ rest)
line_more xs answer rest some good k = let s = split xs in by s.line s.is_line s.end
  where
    by : (line : List ℕ) → IsLine line → ((xs ≡ line ++ 10 ∷ drop_through 10 xs) × (take_through 10 xs ≡ line ++ 10 ∷ [])) ⊎ ((xs ≡ line) × (take_through 10 xs ≡ line) × (drop_through 10 xs ≡ []))
        → Answers xs ((answer ++ 10 ∷ []) ++ rest)
    by line is (inl (whole, through)) =
        let answers : IsAnswer line answer = subst (λ (ys : List ℕ). IsAnswer ys answer) (ap (strip_last 10) through ∙ strip_feed line) good in
        let one : Answers xs (answer ++ 10 ∷ rest) = subst (λ (ys : List ℕ). Answers ys (answer ++ 10 ∷ rest)) (sym whole) (l.line is answers k) in
        subst (Answers xs) (sym (append_assoc answer (10 ∷ []) rest)) one
    by line is (inr (whole, through, none)) =
        let answers : IsAnswer line answer = subst (λ (ys : List ℕ). IsAnswer ys answer) (ap (strip_last 10) through ∙ strip_line line is) good in
        let nothing : rest ≡ [] = no_rest rest (subst (λ (ys : List ℕ). Answers ys rest) none k) in
        let one : Answers xs (answer ++ 10 ∷ []) = subst (λ (ys : List ℕ). Answers ys (answer ++ 10 ∷ [])) (sym whole) (l.last_line is (λ e. omega (arith, ap length through, ap length e, some)) answers) in
        subst (Answers xs) (sym (append-nil (answer ++ 10 ∷ [])) ∙ ap (λ (ys : List ℕ). (answer ++ 10 ∷ []) ++ ys) (sym nothing)) one

-- the front of the bytes is answered, and whatever answers the rest completes the answers
abbrev pub Part : Option (List ℕ) → Option (List ℕ) → Option (List ℕ) → Option (List ℕ) → Type 0
Part left lefts held holds = IfSome left (λ input. (rest : List ℕ) × (lefts ≡ Some rest)
    × ((done : List ℕ) × Appends held holds done × ((answers : List ℕ) → Answers rest answers → Answers input (done ++ answers))))

appends_none : (held : Option (List ℕ)) → Appends held held []
appends_none None = tt
appends_none (Some xs) = sym (append-nil xs)

appends_more : (a b c : Option (List ℕ)) (xs ys : List ℕ) → Appends a b xs → Appends b c ys → Appends a c (xs ++ ys)
appends_more None b c xs ys h k = tt
appends_more (Some xs0) None c xs ys h k = absurd h
appends_more (Some xs0) (Some bs) None xs ys h k = absurd k
appends_more (Some xs0) (Some bs) (Some cs) xs ys h k = k ∙ ap (λ (zs : List ℕ). zs ++ ys) h ∙ append_assoc xs0 xs ys

appends_kept : (a b c : Option (List ℕ)) (xs : List ℕ) → Appends a b xs → Keeps b c → Appends a c xs
appends_kept None b c xs h k = tt
appends_kept (Some xs0) None c xs h k = absurd h
appends_kept (Some xs0) (Some bs) None xs h k = absurd k
appends_kept (Some xs0) (Some bs) (Some cs) xs h k = k ∙ h

pub part_none : (left held : Option (List ℕ)) → Part left left held held
part_none None held = tt
part_none (Some xs) held = (xs, refl, ([], appends_none held, λ answers k. k))

pub part_more : (left lefts next held holds more : Option (List ℕ)) (line answer wrote : List ℕ) → Part left lefts held holds → 0 < length line → Takes IsWhole lefts next [] line
    → IsAnswer (strip_last 10 line) answer → wrote ≡ answer ++ 10 ∷ [] → Appends holds more wrote → Part left next held more
part_more None lefts next held holds more line answer wrote part some taken good ends appends = tt
part_more (Some input) lefts next held holds more line answer wrote (rest, is, (done, so_far, completes)) some taken good ends appends = on (subst (λ (o : Option (List ℕ)). Takes IsWhole o next [] line) is taken)
  where
    behind : Appends held more (done ++ (answer ++ 10 ∷ []))
    behind = appends_more held holds more done (answer ++ 10 ∷ []) so_far (subst (Appends holds more) ends appends)

    on : Takes IsWhole (Some rest) next [] line → Part (Some input) next held more
    on (all, (after, left_over, same, (through, dropped))) =
        let read : line ≡ take_through 10 rest = same ∙ sym through in
        let more_than : 0 < length (take_through 10 rest) = subst (λ (xs : List ℕ). 0 < length xs) read some in
        let answers_it : IsAnswer (strip_last 10 (take_through 10 rest)) answer = subst (λ (xs : List ℕ). IsAnswer (strip_last 10 xs) answer) read good in
        let complete : (answers : List ℕ) → Answers after answers → Answers input ((done ++ (answer ++ 10 ∷ [])) ++ answers) =
        λ answers k. subst (Answers input) (sym (append_assoc done (answer ++ 10 ∷ []) answers))
        (completes ((answer ++ 10 ∷ []) ++ answers) (line_more rest answer answers more_than answers_it (subst (λ (xs : List ℕ). Answers xs answers) (sym dropped) k))) in
        (after, left_over, (done ++ (answer ++ 10 ∷ []), behind, complete))

pub on_ok : {A E : Type 0} (P : Type 0) (r : Result A E) → P → OnOk r P
on_ok P (Ok x) p = p
on_ok P (Err e) p = tt

pub all_done : (left lefts held holds flushed : Option (List ℕ)) → Part left lefts held holds → IsAtEnd lefts → Keeps holds flushed → HasAnswered left held flushed
all_done None lefts held holds flushed part end kept = tt
all_done (Some input) lefts held holds flushed (rest, is, (done, so_far, completes)) end kept =
    let none : rest ≡ [] = subst IsAtEnd is end in
    let nothing : Answers rest [] = subst (λ (xs : List ℕ). Answers xs []) (sym none) l.none in
    (done, subst (Answers input) (append-nil done) (completes [] nothing), appends_kept held holds flushed done so_far kept)

pub in_memory : (input held holds : List ℕ) → held ≡ [] → HasAnswered (Some input) (Some held) (Some holds) → Answers input holds
in_memory input held holds none (output, is, same) = subst (Answers input) (sym (same ∙ ap (λ (xs : List ℕ). xs ++ output) none)) is

pub tree_answer : {E : Type 0} (before line : List ℕ) (tree : Json) (r : Result (Vec ℕ Global) E) → before ≡ [] → IsJson line tree → IfOk r (λ all. all.items ≡ before ++ written tree) → IfOk r (λ all. IsAnswer line all.items)
tree_answer before line tree (Ok all) none is h = inl (tree, is, h ∙ ap (λ (xs : List ℕ). xs ++ written tree) none)
tree_answer before line tree (Err e) none is h = tt

pub bad_answer : {E : Type 0} (before line : List ℕ) (at : ℕ) (r : Result (Vec ℕ Global) E) → before ≡ [] → IsBadAt line at → IfOk r (λ all. all.items ≡ before ++ (codes "bad " ++ decimal at)) → IfOk r (λ all. IsAnswer line all.items)
bad_answer before line at (Ok all) none is h = inr (inl (at, is, h ∙ ap (λ (xs : List ℕ). xs ++ (codes "bad " ++ decimal at)) none))
bad_answer before line at (Err e) none is h = tt

pub deep_answer : {E : Type 0} (before line : List ℕ) (at : ℕ) (r : Result (Vec ℕ Global) E) → before ≡ [] → IsTooDeepAt line at → IfOk r (λ all. all.items ≡ before ++ (codes "too deep " ++ decimal at)) → IfOk r (λ all. IsAnswer line all.items)
deep_answer before line at (Ok all) none is h = inr (inr (at, is, h ∙ ap (λ (xs : List ℕ). xs ++ (codes "too deep " ++ decimal at)) none))
deep_answer before line at (Err e) none is h = tt
