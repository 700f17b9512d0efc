use Rattle.std.proofs.Common.{ℕ, ◌+◌, ◌-◌, ◌<◌, ◌≡◌, Bool, cond, List, [], length, drop, get_or, Option, Some, Bor, sym, ap}
use Rattle.std.proofs.Common.{◌∙◌, arith}
use Rattle.std.specs.Str.{bytes_eq}
use Rattle.std.specs.Cmp.Lexicographic.{nat_list_eq_equiv}
use Rattle.std.specs.HashMap.{get_by}
use Rattle.std.specs.List.{position_from}
use Rattle.std.specs.Map.{lookup}
use Rattle.std.proofs.lemmas.Map.Text.{hash_map_updates_str}
use Rattle.rt_names.proofs.First.{place_past, place_put, place_mapped}
use Rattle.rt_names.proofs.names.Names.new.Goals as goal

-- what `get_or` reads past the end
abbrev no_name : Bor (List ℕ)
no_name = record { ref_ptr = (0, 0); now = [] }

abbrev is_name : List ℕ → Bor (List ℕ) → Bool
is_name q name = bytes_eq q name.now

pub loop-place-init : goal.loop-place-init
loop-place-init c = λ q.
    let xs = c.args.names.now in
    ap (λ (es : List (Bor (List ℕ) × ℕ)). lookup (is_name q) es) c.in_ok-places.ensures.empty
    ∙ sym (place_past (is_name q) xs (length xs) (omega arith))

pub loop-place-preserved : goal.loop-place-preserved
loop-place-preserved c = λ q.
    let xs = c.args.names.now in
    let i : ℕ = c.loop-place.place - 1 in
    let x = (get_or xs i no_name).now in
    let one : i + 1 ≡ c.loop-place.place = omega arith in
    let within : i < length xs = omega arith in
    let before : Option ℕ = get_by (is_name q) c.loop-place.places in
    let put = hash_map_updates_str x c.loop-place.places c.insert.new.self _ c.in_ok-insert.ensures.updates q in
    let turned = ap (λ (b : Bool). cond b (Some i) before) (nat_list_eq_equiv.symm x q) in
    place_put (is_name q) xs c.loop-place.place i no_name before _ one within (put ∙ turned) (c.loop-place.invariant q)

pub returns : goal.returns
returns c = record {
  places = λ q.
      let xs = c.args.names.now in
      let all : c.loop-place.place ≡ 0 = omega arith in
      c.loop-place.invariant q ∙ ap (λ (j : ℕ). position_from (is_name q) j (drop j xs)) all
      ∙ place_mapped (bytes_eq q) (λ k. k.now) 0 xs;
}
