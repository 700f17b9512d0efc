-- The names of a list's elements, one more at a time.
use Rattle.std.proofs.Common.{◌≡◌, ℕ, ◌+◌, ◌<◌, true, false, List, [], ◌∷◌, ◌++◌, sym, ap, ◌∙◌, length, get_or, drop, Option, Some, None, append_assoc}
use Rattle.std.specs.Prelude.{option_map}
use Rattle.std.specs.Option.{option_map_or}
use Rattle.std.specs.List.{list_any}
use Rattle.std.specs.Str.{bytes_eq}
use Rattle.std.proofs.lemmas.List.{at_drop_more}
use Rattle.rt_json.specs.declared.tree.Json.{Json}
use Rattle.rt_wal.specs.Shapes.{◌>>=◌, each, name_of, are_named, are_distinct}
use Rattle.rt_wal.proofs.Distinct.{distinct_twice}

-- what the rest is read as, by its first
pub each_more : {A : Type 0} (read : Json → Option A) (trees : List Json) (i : ℕ) (tree : Json) → i < length trees → tree ≡ get_or trees i tree
    → each read (drop i trees) ≡ (read tree >>= (λ x. option_map (λ xs. x ∷ xs) (each read (drop (i + 1) trees))))
each_more read trees i tree h e =
    at_drop_more (each read) trees i tree h ∙ ap (λ t. read t >>= (λ x. option_map (λ xs. x ∷ xs) (each read (drop (i + 1) trees)))) (sym e)

-- the names of all, where these are the first ones and one follows
abbrev pub Follows : List (List ℕ) → List ℕ → Option (List (List ℕ)) → List Json → Type 0
Follows so_far name rest trees = option_map (λ r. so_far ++ r) (option_map (λ xs. name ∷ xs) rest) ≡ each name_of trees

pub named_twice : (so_far : List (List ℕ)) (name : List ℕ) (rest : Option (List (List ℕ))) (trees : List Json) → Follows so_far name rest trees
    → list_any (bytes_eq name) so_far ≡ true → are_named trees ≡ false
named_twice so_far name None trees e h = ap (λ o. option_map_or are_distinct o false) (sym e)
named_twice so_far name (Some rest) trees e h =
    ap (λ o. option_map_or are_distinct o false) (sym e) ∙ distinct_twice name so_far rest h

pub follows_more : (so_far : List (List ℕ)) (name : List ℕ) (rest : Option (List (List ℕ))) (trees : List Json) → Follows so_far name rest trees
    → option_map (λ r. (so_far ++ name ∷ []) ++ r) rest ≡ each name_of trees
follows_more so_far name None trees e = e
follows_more so_far name (Some rest) trees e = ap Some (append_assoc so_far (name ∷ []) rest) ∙ e

pub follows_from : (so_far : List (List ℕ)) (name : List ℕ) (trees : List Json) (i : ℕ) (tree : Json) → i < length trees → tree ≡ get_or trees i tree
    → Some name ≡ name_of tree → option_map (λ r. so_far ++ r) (each name_of (drop i trees)) ≡ each name_of trees
    → Follows so_far name (each name_of (drop (i + 1) trees)) trees
follows_from so_far name trees i tree h e is all =
    ap (λ o. option_map (λ r. so_far ++ r) (o >>= (λ x. option_map (λ xs. x ∷ xs) (each name_of (drop (i + 1) trees))))) is
    ∙ sym (ap (option_map (λ r. so_far ++ r)) (each_more name_of trees i tree h e)) ∙ all
