-- What the binding of the first form means.
use Rattle.std.proofs.Common.{◌≡◌, ℕ, Bool, false, not, cond, List, [], ◌∷◌, Option, Some, None, Result, Ok, ap, ◌∙◌}
use Rattle.std.specs.Prelude.{codes, option_map}
use Rattle.std.specs.Str.{bytes_eq}
use Rattle.rt_value.specs.Choice.{some_if}
use Rattle.rt_filter.specs.declared.subscription.Wanted.TheVariants as wanted
use Rattle.rt_catalog.specs.declared.catalog.Catalog.{Catalog}
use Rattle.rt_catalog.specs.declared.catalog.Role.{Role}
use Rattle.rt_catalog.specs.Access.{role_named}
use Rattle.rt_registry.specs.declared.binding.Binding.{Binding}
use Rattle.rt_registry.specs.declared.binding.Subscribed.{Subscribed}
use Rattle.rt_registry.specs.declared.fault.BindingWhy.{BindingWhy}
use Rattle.rt_registry.specs.declared.fault.BindingWhy.TheVariants as why
use Rattle.rt_registry.specs.Bindings.{Refusal, unknown_role, ◌>>◌, or_err, table_for, meaning_of_binding, at_count}
use Rattle.rt_registry.specs.Bindings.{all_from, within_limit, bindings_for}
use Rattle.rt_form.specs.declared.catalogue.Column.{Column}
use Rattle.rt_first.proofs.Bytes.{same_name}
use Rattle.rt_first.proofs.Binds.{table_found}
use Rattle.rt_first.proofs.Claims.{held_by}
use Rattle.rt_first.proofs.Form.{catalog_with}

-- the binding, and what it means
abbrev pub binding_with : List ℕ → Binding
binding_with name = record { wanted = codes "*"; schema = codes "public"; table = Some name; filters = []; listed = false }

abbrev pub subscribed_with : List ℕ → Subscribed
subscribed_with name = record { binding = binding_with name; wanted = wanted.All; table = Some 0; tests = [] }

module _ (name : List ℕ) (first second : Column) (is_key : Bool) (role : List ℕ) where
  abbrev cat : Catalog
  cat = catalog_with name first second is_key role

  pub role_found : role_named cat role ≡ Some 0
  role_found =
      let hit : ℕ × Role = (0, record { name = role; bypass = false }) in
      ap (λ (b : Bool). option_map (λ (x : ℕ × Role). x.0) (cond b (Some hit) None)) (same_name role)

  module _ (no_star : bytes_eq name (codes "*") ≡ false) where
    abbrev Meant : Type 0
    Meant = Result Subscribed BindingWhy

    abbrev with_table : Result (Option ℕ) BindingWhy → Meant
    with_table r = r >> λ table. Ok (record { binding = binding_with name; wanted = wanted.All; table = table; tests = [] })

    binding_means : meaning_of_binding cat 0 (binding_with name) ≡ Ok (subscribed_with name)
    binding_means =
        ap (λ (b : Bool). with_table (table_for cat (codes "public") (some_if (not b) name))) no_star
        ∙ ap (λ (o : Option ℕ). with_table (or_err why.Table o >> λ n. Ok (Some n))) (table_found name first second is_key role)

    abbrev Found : Type 0
    Found = Result (List Subscribed) Refusal

    pub bindings_found : bindings_for cat (held_by role) (binding_with name ∷ []) ≡ Ok (subscribed_with name ∷ [])
    unfolding bindings_for
    bindings_found =
        ap (λ (o : Option ℕ). let f : Found = or_err unknown_role o >> λ number. within_limit (binding_with name ∷ []) >> λ _. all_from cat number 1 (binding_with name ∷ []) in f)
        role_found
        ∙ ap (λ (o : Meant). let f : Found = at_count 1 o >> λ x. all_from cat 0 2 [] >> λ xs. Ok (x ∷ xs) in f) binding_means
