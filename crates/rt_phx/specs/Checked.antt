-- A value, or the reason against it that a client is told; and steps of which the first reason counts.
use Rattle.std.specs.Prelude.{ℕ, Bool, true, false, List, Option, Some, None, Result, Ok, Err}

-- a value, or the reason that is told
abbrev pub Checked : Type 0 → Type 0
Checked A = Result A (List ℕ)

infixl 10 ◌>>◌
abbrev pub ◌>>◌ : {A B : Type 0} → Checked A → (A → Checked B) → Checked B
(Ok x) >> f = f x
(Err why) >> f = Err why

abbrev pub or_why : {A : Type 0} → List ℕ → Option A → Checked A
or_why why None = Err why
or_why why (Some x) = Ok x

abbrev pub demand : Bool → List ℕ → Checked Bool
demand true why = Ok true
demand false why = Err why

abbrev pub told_by : {A E : Type 0} → (E → List ℕ) → Result A E → Checked A
told_by text (Ok x) = Ok x
told_by text (Err e) = Err (text e)

-- nothing, where there is no reason
abbrev pub unless : Option (List ℕ) → Checked Bool
unless None = Ok true
unless (Some why) = Err why
