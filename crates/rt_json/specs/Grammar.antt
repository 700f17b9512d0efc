-- JSON texts and their trees, RFC 8259. Each phrase leads from bytes to bytes: xs is the phrase, read so, and then ys.
use Rattle.std.specs.Prelude.{◌≡◌, ℕ, suc, ◌+◌, ◌<◌, ◌≤◌, Bool, true, false, ◌==◌, ◌||◌, List, [], ◌∷◌, ◌++◌, length, take}
use Rattle.rt_value.specs.Places.{Begins}
use Rattle.rt_json.specs.declared.tree.Json.{Json}
use Rattle.rt_json.specs.declared.tree.Json.TheVariants as j
use Rattle.rt_json.specs.declared.tree.named.Member.{Member}
use Rattle.rt_json.specs.Text.{IsNumber, IsText}

-- section 2: space, tab, LF, CR
abbrev pub is_blank : ℕ → Bool
is_blank b = (b == 32) || (b == 9) || (b == 10) || (b == 13)

pub data AreBlanks : List ℕ → List ℕ → Type 0 where
  no_blank : {xs : List ℕ} → AreBlanks xs xs
  blank : {b : ℕ} {xs ys : List ℕ} → is_blank b ≡ true → AreBlanks xs ys → AreBlanks (b ∷ xs) ys

abbrev pub member : List ℕ → Json → Member
member name value = record { name = name; value = value }

mutual
  -- a value whose lists and objects nest in at most so many levels
  pub data IsValue : ℕ → Json → List ℕ → List ℕ → Type 0 where
    null : {n : ℕ} {xs : List ℕ} → IsValue n j.Null (110 ∷ 117 ∷ 108 ∷ 108 ∷ xs) xs
    truth : {n : ℕ} {xs : List ℕ} → IsValue n (j.Bool true) (116 ∷ 114 ∷ 117 ∷ 101 ∷ xs) xs
    falsity : {n : ℕ} {xs : List ℕ} → IsValue n (j.Bool false) (102 ∷ 97 ∷ 108 ∷ 115 ∷ 101 ∷ xs) xs
    number : {n : ℕ} {text xs : List ℕ} → IsNumber text → IsValue n (j.Num text) (text ++ xs) xs
    text : {n : ℕ} {text xs ys : List ℕ} → IsText text xs ys → IsValue n (j.Text text) xs ys
    no_items : {n : ℕ} {xs ys : List ℕ} → AreBlanks xs (93 ∷ ys) → IsValue (suc n) (j.List []) (91 ∷ xs) ys
    items : {n : ℕ} {v : Json} {all : List Json} {xs ys zs us : List ℕ}
        → AreBlanks xs ys → IsValue n v ys zs → MoreItems n (v ∷ []) all zs us → IsValue (suc n) (j.List all) (91 ∷ xs) us
    no_members : {n : ℕ} {xs ys : List ℕ} → AreBlanks xs (125 ∷ ys) → IsValue (suc n) (j.Object []) (123 ∷ xs) ys
    members : {n : ℕ} {m : Member} {all : List Member} {xs ys zs : List ℕ}
        → IsMember n m xs ys → MoreMembers n (m ∷ []) all ys zs → IsValue (suc n) (j.Object all) (123 ∷ xs) zs

  -- behind the items `before` stand the rest of `all`, each with a comma before it, and the bracket
  pub data MoreItems : ℕ → List Json → List Json → List ℕ → List ℕ → Type 0 where
    close_list : {n : ℕ} {all : List Json} {xs ys : List ℕ} → AreBlanks xs (93 ∷ ys) → MoreItems n all all xs ys
    next_item : {n : ℕ} {v : Json} {before all : List Json} {ws xs ys zs us : List ℕ}
        → AreBlanks ws (44 ∷ xs) → AreBlanks xs ys → IsValue n v ys zs → MoreItems n (before ++ v ∷ []) all zs us → MoreItems n before all ws us

  -- a name, a colon and a value
  pub data IsMember : ℕ → Member → List ℕ → List ℕ → Type 0 where
    named : {n : ℕ} {name : List ℕ} {v : Json} {ws xs ys zs us vs : List ℕ}
        → AreBlanks ws xs → IsText name xs ys → AreBlanks ys (58 ∷ zs) → AreBlanks zs us → IsValue n v us vs → IsMember n (member name v) ws vs

  pub data MoreMembers : ℕ → List Member → List Member → List ℕ → List ℕ → Type 0 where
    close_object : {n : ℕ} {all : List Member} {xs ys : List ℕ} → AreBlanks xs (125 ∷ ys) → MoreMembers n all all xs ys
    next_member : {n : ℕ} {m : Member} {before all : List Member} {ws xs ys zs : List ℕ}
        → AreBlanks ws (44 ∷ xs) → IsMember n m xs ys → MoreMembers n (before ++ m ∷ []) all ys zs → MoreMembers n before all ws zs

-- the bytes are one value with blanks around it, in at most so many levels
pub record IsWithin (levels : ℕ) (tree : Json) (bytes : List ℕ) : Type 0 where
  pub first : List ℕ
  pub last : List ℕ
  pub before : AreBlanks bytes first
  pub value : IsValue levels tree first last
  pub after : AreBlanks last []

abbrev pub max_levels : ℕ
max_levels = 64

-- the bytes are the tree
abbrev pub IsJson : List ℕ → Json → Type 0
IsJson bytes tree = IsWithin max_levels tree bytes

-- the bytes begin a value of whatever depth
abbrev pub BeginsValue : List ℕ → Type 0
BeginsValue bytes = (levels : ℕ) × Begins (IsWithin levels) bytes

-- The byte at this place is the first with which the bytes up to it begin no value, or it is the end and all the bytes begin a value and are none.
pub record IsBadAt (bytes : List ℕ) (at : ℕ) : Type 0 where
  pub within : at ≤ length bytes
  pub before : Begins (IsWithin max_levels) (take at bytes)
  pub stuck : at < length bytes → BeginsValue (take (at + 1) bytes) → ⊥
  pub unfinished : at ≡ length bytes → (levels : ℕ) (tree : Json) → IsWithin levels tree bytes → ⊥

-- The byte at this place begins a list or an object below the last level: the bytes before it begin a value,
-- and with it they begin deeper values alone.
pub record IsTooDeepAt (bytes : List ℕ) (at : ℕ) : Type 0 where
  pub within : at < length bytes
  pub before : Begins (IsWithin max_levels) (take at bytes)
  pub begins : BeginsValue (take (at + 1) bytes)
  pub deeper : Begins (IsWithin max_levels) (take (at + 1) bytes) → ⊥
