-- The words of a line, and the numbers among them. One blank stands between words.
use Rattle.std.specs.Prelude.{ℕ, ◌==◌, ◌^◌, nat_lt, Bool, ◌&&◌, if◌then◌else◌}
use Rattle.std.specs.Prelude.{List, [], ◌∷◌, Option, Some, None, option_map}
use Rattle.std.specs.Fmt.{decimal}
use Rattle.std.specs.Str.{bytes_eq}
use Rattle.std.specs.Str.Parse.{digits_value}
use Rattle.rt_value.specs.Choice.{some_if}

-- what stands before the first blank, and what behind it; none where there is no blank
abbrev pub parted : List ℕ → Option (List ℕ × List ℕ)
parted [] = None
parted (b ∷ text) =
    (if b == 32 then Some ([], text) else option_map (λ parts. (b ∷ parts.0, parts.1)) (parted text))

-- the text is how the number is written in decimal digits
abbrev pub is_written : List ℕ → ℕ → Bool
is_written text n = bytes_eq text (decimal n) && nat_lt n (2 ^ 64)

-- the number below 2 ^ 64 that a text writes, without a leading zero
abbrev pub number_in : List ℕ → Option ℕ
number_in text = some_if (is_written text (digits_value 10 text)) (digits_value 10 text)
