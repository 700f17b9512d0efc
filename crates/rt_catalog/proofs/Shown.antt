-- A type is shown in UTF-8 where its name is UTF-8.
use Rattle.std.proofs.Common.{◌≡◌, ℕ, ◌<◌, Bool, true, false, List, [], ◌∷◌, ◌++◌, refl, arith}
use Rattle.std.specs.Prelude.{codes, IsUtf8, nat_lt, find, Option, Some, option_map, unwrap_or}
use Rattle.std.specs.List.{list_all}
use Rattle.std.specs.Str.{bytes_eq}
use Rattle.std.proofs.lemmas.Bool.{and_parts, cond_both}
use Rattle.std.proofs.lemmas.Bool.Decides.{nat_tests}
use Rattle.std.proofs.lemmas.Str.{IsUtf8-nil, IsUtf8-append}
use Rattle.rt_value.specs.declared.value.Kind.TheVariants.{Opaque}
use Rattle.rt_sql.proofs.Unquoting.{one_byte_utf8}
use Rattle.rt_policy.specs.Types.{TypeMeaning, type_of, kind_names, opaque_names, meaning_of_name, array_of}

abbrev is_ascii : ℕ → Bool
is_ascii b = nat_lt b 128

pub ascii_utf8 : (bytes : List ℕ) → list_all is_ascii bytes ≡ true → IsUtf8 bytes
ascii_utf8 [] all = IsUtf8-nil
ascii_utf8 (b ∷ bytes) all =
    let (here, others) = and_parts (is_ascii b) (list_all is_ascii bytes) all in
    let low : b < 128 = grind (arith, nat_tests) in
    IsUtf8-append (b ∷ []) bytes (one_byte_utf8 b low) (ascii_utf8 bytes others)

-- an entry of the two tables of names
abbrev Entry : Type 0
Entry = List ℕ × TypeMeaning

abbrev is_shown_in_ascii : Entry → Bool
is_shown_in_ascii entry = list_all is_ascii entry.1.shown

abbrev shown_or : TypeMeaning → Option Entry → List ℕ
shown_or other found = (unwrap_or (option_map (λ n. n.1) found) other).shown

found_utf8 : (test : Entry → Bool) (entries : List Entry) (other : TypeMeaning) → list_all is_shown_in_ascii entries ≡ true → IsUtf8 other.shown
    → IsUtf8 (shown_or other (find test entries))
found_utf8 test [] other all plain = plain
found_utf8 test (entry ∷ entries) other all plain =
    let (here, others) = and_parts (is_shown_in_ascii entry) (list_all is_shown_in_ascii entries) all in
    cond_both (test entry) (Some entry) (find test entries) (λ found. IsUtf8 (shown_or other found))
    (λ e. ascii_utf8 entry.1.shown here) (λ e. found_utf8 test entries other others plain)

pub name_shown : (name : List ℕ) → IsUtf8 name → IsUtf8 (meaning_of_name name).shown
name_shown name utf8 = found_utf8 (λ n. bytes_eq n.0 name) (kind_names ++ opaque_names) (type_of Opaque name) refl utf8

pub array_shown : (array : Bool) (t : TypeMeaning) → IsUtf8 t.shown → IsUtf8 (array_of array t).shown
array_shown false t utf8 = utf8
array_shown true t utf8 = IsUtf8-append (codes "_") t.shown (ascii_utf8 (codes "_") refl) utf8
