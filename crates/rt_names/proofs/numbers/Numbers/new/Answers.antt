use Rattle.std.proofs.Common.{◌≡◌, ℕ, ◌+◌, ◌-◌, ◌<◌, Bool, ◌&&◌, List, [], length, drop, get_or, Option, Bor, sym, ap}
use Rattle.std.proofs.Common.{◌∙◌, arith}
use Rattle.std.specs.Prelude.{string_bytes}
use Rattle.std.specs.Str.{bytes_eq}
use Rattle.std.specs.HashMap.{get_by_text}
use Rattle.std.specs.List.{position_from}
use Rattle.std.specs.Map.{lookup}
use Rattle.rt_names.specs.Numbers.{number_of, number_in, is_within}
use Rattle.rt_names.proofs.First.{place_past, place_put, place_mapped}
use Rattle.rt_names.proofs.numbers.Numbers.new.Goals as goal

abbrev Lent : Type 0
Lent = Bor (List ℕ)

-- what `get_or` reads past the end
abbrev no_name : Lent × Lent
no_name = (record { ref_ptr = (0, 0); now = [] }, record { ref_ptr = (0, 0); now = [] })

abbrev is_name : List ℕ → List ℕ → Lent × Lent → Bool
is_name s q name = bytes_eq name.0.now s && bytes_eq name.1.now q

pub loop-number-init : goal.loop-number-init
loop-number-init c = λ s q.
    let xs = c.args.names.now in
    ap (λ es. number_of (lookup (λ k. bytes_eq s (string_bytes k)) es) q) c.new.ensures.empty
    ∙ sym (place_past (is_name s q) xs (length xs) (omega arith))

pub loop-number-preserved : goal.loop-number-preserved
loop-number-preserved c = λ s q.
    let xs = c.args.names.now in
    let i : ℕ = c.loop-number.number - 1 in
    let one : i + 1 ≡ c.loop-number.number = omega arith in
    let within : i < length xs = omega arith in
    let before = number_in c.loop-number.numbers s q in
    place_put (is_name s q) xs c.loop-number.number i no_name before _ one within (c.in_ok-put.ensures s q)
    (c.loop-number.invariant s q)

pub returns : goal.returns
returns c = record {
  places = λ s q.
      let xs = c.args.names.now in
      let all : c.loop-number.number ≡ 0 = omega arith in
      c.loop-number.invariant s q ∙ ap (λ (j : ℕ). position_from (is_name s q) j (drop j xs)) all
      ∙ place_mapped (is_within s q) (λ name. (name.0.now, name.1.now)) 0 xs;
}
