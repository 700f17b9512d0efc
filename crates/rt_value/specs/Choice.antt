-- Options one after another, and the first case that holds.
use Rattle.std.specs.Prelude.{Bool, true, false, if◌then◌else◌, List, [], ◌∷◌, Option, Some, None, option_and_then}

-- what f gives of the value, where there is one; in a clause, where this sign means something else, `option_and_then f o`
infixl 10 ◌>>=◌
abbrev pub ◌>>=◌ : {A B : Type 0} → Option A → (A → Option B) → Option B
o >>= f = option_and_then f o

-- x where the test holds
abbrev pub some_if : {A : Type 0} → Bool → A → Option A
some_if true x = Some x
some_if false x = None

-- the answer of the first case whose test holds, and else the last
abbrev pub first_case : {A : Type 0} → List (Bool × A) → A → A
first_case [] last = last
first_case (c ∷ cs) last = if c.0 then c.1 else first_case cs last

-- the test of the value, and false where there is none
abbrev pub is_at : {A : Type 0} → (A → Bool) → Option A → Bool
is_at test None = false
is_at test (Some x) = test x
