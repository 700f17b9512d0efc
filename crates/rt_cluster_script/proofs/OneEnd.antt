-- The lines of a text end in one way.
use Rattle.std.proofs.Common.{◌≡◌, ℕ, ◌+◌, Bool, true, false, List, [], ◌∷◌, Option, Some, None, Result, Ok, Err, refl}
use Rattle.std.proofs.Common.{sym, ◌∙◌, subst}
use Rattle.rt_lines.specs.Lines.{is_passed_over, lines_of}
use Rattle.rt_lines.proofs.Either.{either}
use Rattle.rt_cluster_script.specs.Script.{State, start, Reads, passed, read, unread, Ends, at_end, refused, goes_on}
use Rattle.rt_cluster_script.specs.Script.{Shows, Refuses}

pub reads_once : (st : State) (line : List ℕ) (a b : Option State) → Reads st line a → Reads st line b → a ≡ b
reads_once st line a b (passed e) (passed f) = refl
reads_once st line a b (passed e) (read f utf8 after) = either (is_passed_over line) e f
reads_once st line a b (passed e) (unread f none) = either (is_passed_over line) e f
reads_once st line a b (read e utf8 after) (passed f) = either (is_passed_over line) f e
reads_once st line a b (read e utf8 after) (read f other again) = sym after ∙ again
reads_once st line a b (read e utf8 after) (unread f none) = absurd (none utf8)
reads_once st line a b (unread e none) (passed f) = either (is_passed_over line) f e
reads_once st line a b (unread e none) (read f utf8 after) = absurd (none utf8)
reads_once st line a b (unread e none) (unread f other) = refl

taken_and_refused : {A : Type 0} (st next : State) (line : List ℕ) → Reads st line (Some next) → Reads st line None → A
taken_and_refused st next line x y =
    let both : Some next ≡ None = reads_once st line (Some next) None x y in absurd cc

pub ends_once : (st : State) (number : ℕ) (lines : List (List ℕ)) (a b : Result (List ℕ) ℕ)
    → Ends st number lines a → Ends st number lines b → a ≡ b
ends_once st number [] a b at_end at_end = refl
ends_once st number (line ∷ lines) a b (refused x) (refused y) = refl
ends_once st number (line ∷ lines) a b (refused x) (goes_on {next = next} y more) = taken_and_refused st next line y x
ends_once st number (line ∷ lines) a b (goes_on {next = next} x more) (refused y) = taken_and_refused st next line x y
ends_once st number (line ∷ lines) a b (goes_on {next = m} x more) (goes_on {next = n} y rest) =
    let both : Some n ≡ Some m = reads_once st line (Some n) (Some m) y x in
    let same : n ≡ m = cc in
    ends_once m (number + 1) lines a b more (subst (λ s. Ends s (number + 1) lines b) same rest)

pub shown_once : (text a b : List ℕ) → Shows text a → Shows text b → a ≡ b
shown_once text a b x y =
    let same : (let one : Result (List ℕ) ℕ = Ok a in one) ≡ Ok b =
    ends_once start 1 (lines_of text) (Ok a) (Ok b) x y in cc

pub refused_once : (text : List ℕ) (m n : ℕ) → Refuses text m → Refuses text n → m ≡ n
refused_once text m n x y =
    let same : (let one : Result (List ℕ) ℕ = Err m in one) ≡ Err n =
    ends_once start 1 (lines_of text) (Err m) (Err n) x y in cc

pub never_both : (text a : List ℕ) (n : ℕ) → Shows text a → Refuses text n → ⊥
never_both text a n x y =
    let same : (let one : Result (List ℕ) ℕ = Ok a in one) ≡ Err n =
    ends_once start 1 (lines_of text) (Ok a) (Err n) x y in absurd cc
