-- A filter and its text, COLUMN=OP.VALUE (the Realtime protocol, "Postgres Changes", filters).
use Rattle.std.specs.Prelude.{◌≡◌, ℕ, ◌==◌, nat_lt, ◌-◌, Bool, true, false, ◌&&◌, not, List, [], ◌∷◌, ◌++◌, map, length, take, drop, reverse, replicate, codes, find, Option, Some, None, option_map}
use Rattle.std.specs.List.{list_all, position_or_len, before_first, after_first, join_with_byte, slice_split}
use Rattle.std.specs.Str.{bytes_eq}
use Rattle.rt_value.specs.Choice.{◌>>=◌, some_if}
use Rattle.rt_filter.specs.declared.filter.Op.{Op}
use Rattle.rt_filter.specs.declared.filter.Op.TheVariants.{Eq, Neq, Lt, Lte, Gt, Gte, OneOf}
use Rattle.rt_filter.specs.declared.filter.Filter.{Filter}

abbrev pub op_name : Op → List ℕ
op_name Eq = codes "eq"
op_name Neq = codes "neq"
op_name Lt = codes "lt"
op_name Lte = codes "lte"
op_name Gt = codes "gt"
op_name Gte = codes "gte"
op_name OneOf = codes "in"

-- there is no such byte
abbrev pub lacks : ℕ → List ℕ → Bool
lacks b bytes = list_all (λ c. not (c == b)) bytes

abbrev pub begins_with_space : List ℕ → Bool
begins_with_space [] = false
begins_with_space (b ∷ bytes) = b == 32

-- a text with spaces at both ends, and the text without them
pub record IsTrimmed (padded text : List ℕ) : Type 0 where
  pub before : ℕ
  pub after : ℕ
  pub is : padded ≡ replicate before 32 ++ text ++ replicate after 32
  pub bare : (begins_with_space text ≡ false) × (begins_with_space (reverse text) ≡ false)

abbrev pub AreTrimmed : List (List ℕ) → List (List ℕ) → Type 0
AreTrimmed [] [] = Unit {0}
AreTrimmed (p ∷ ps) (t ∷ ts) = IsTrimmed p t × AreTrimmed ps ts
AreTrimmed _ _ = ⊥

-- `(`, texts with commas between them, `)`, not empty between the parentheses; there is no quoting
pub record AreListed (bytes : List ℕ) (values : List (List ℕ)) : Type 0 where
  pub parts : List (List ℕ)
  pub is : bytes ≡ 40 ∷ join_with_byte 44 parts ++ 41 ∷ []
  pub some : nat_lt 2 (length bytes) ≡ true
  pub each : list_all (lacks 44) parts ≡ true
  pub trimmed : AreTrimmed parts values

abbrev pub AreValues : Op → List ℕ → List (List ℕ) → Type 0
AreValues OneOf bytes values = AreListed bytes values
AreValues _ bytes values = values ≡ bytes ∷ []

-- the column stands before the first `=` and isn't empty, the operator from there to the next `.`, and then the value
pub record IsFilter (text : List ℕ) (f : Filter) : Type 0 where
  pub value : List ℕ
  pub is : text ≡ f.column ++ 61 ∷ op_name f.op ++ 46 ∷ value
  pub column : nat_lt 0 (length f.column) ≡ true
  pub first : lacks 61 f.column ≡ true
  pub values : AreValues f.op value f.values

-- The same as a function.
-- what stands before and after the first such byte, where there is one
abbrev pub cut : ℕ → List ℕ → Option (List ℕ × List ℕ)
cut b bytes = let is = λ (c : ℕ). c == b in some_if (nat_lt (position_or_len is bytes) (length bytes)) (before_first is bytes, after_first is bytes)

abbrev pub without_spaces : List ℕ → List ℕ
without_spaces [] = []
without_spaces (b ∷ bytes) = elim (b == 32) [ true ↦ without_spaces bytes | false ↦ b ∷ bytes ]

abbrev pub trimmed : List ℕ → List ℕ
trimmed bytes = reverse (without_spaces (reverse (without_spaces bytes)))

abbrev pub is_in_parentheses : List ℕ → Bool
is_in_parentheses bytes = nat_lt 2 (length bytes) && bytes_eq (take 1 bytes) (codes "(") && bytes_eq (drop (length bytes - 1) bytes) (codes ")")

-- what stands between the parentheses
abbrev pub inside : List ℕ → Option (List ℕ)
inside bytes = some_if (is_in_parentheses bytes) (take (length bytes - 2) (drop 1 bytes))

abbrev pub listed_values : List ℕ → Option (List (List ℕ))
listed_values bytes = option_map (λ texts. map trimmed (slice_split (λ b. b == 44) texts)) (inside bytes)

abbrev pub every_op : List Op
every_op = Eq ∷ Neq ∷ Lt ∷ Lte ∷ Gt ∷ Gte ∷ OneOf ∷ []

abbrev pub op_named : List ℕ → Option Op
op_named name = find (λ op. bytes_eq name (op_name op)) every_op

abbrev pub values_of : Op → List ℕ → Option (List (List ℕ))
values_of OneOf bytes = listed_values bytes
values_of _ bytes = Some (bytes ∷ [])

-- the column, the operator and what stands behind it
abbrev pub parts_of : List ℕ → Option (List ℕ × Op × List ℕ)
parts_of text =
    cut 61 text >>= λ c. some_if (nat_lt 0 (length c.0)) c.1 >>= λ rest. cut 46 rest >>= λ d.
    option_map (λ op. (c.0, op, d.1)) (op_named d.0)

abbrev pub filter_with : List ℕ × Op × List ℕ → Option Filter
filter_with p = option_map (λ values. record { column = p.0; op = p.1; values = values }) (values_of p.1 p.2)

-- The filter of a text, none where it isn't one. That it is the one of `IsFilter` is a law.
unfoldable pub filter_of : List ℕ → Option Filter
filter_of text = parts_of text >>= filter_with
