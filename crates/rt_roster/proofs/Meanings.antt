-- What bindings mean, one after another.
use Rattle.std.proofs.Common.{◌≡◌, ℕ, ◌+◌, ◌<◌, ◌≤◌, List, [], ◌∷◌, ◌++◌, length, get_or, drop, Result, Ok, Err, sym, ap, ◌∙◌}
use Rattle.std.proofs.Math.ListN.{drop_of_length-le}
use Rattle.std.proofs.lemmas.List.{append-nil}
use Rattle.rt_catalog.specs.declared.catalog.Catalog.{Catalog}
use Rattle.rt_registry.specs.declared.binding.Binding.{Binding}
use Rattle.rt_registry.specs.declared.binding.Subscribed.{Subscribed}
use Rattle.rt_registry.specs.declared.fault.BindingWhy.{BindingWhy}
use Rattle.rt_registry.specs.declared.fault.RegistryFault.TheVariants.{BadBinding}
use Rattle.rt_registry.specs.Bindings.{◌>>◌, at_count, all_from, meaning_of_binding}
use Rattle.rt_roster.specs.Meant.{told}
use Rattle.rt_roster.proofs.Columns.{at_place}
use Rattle.rt_roster.proofs.Tested.{onto, onto_nothing, onto_more}

-- with what the bindings so far mean, those from i on are left
pub record IsMeantUpTo (c : Catalog) (role : ℕ) (bindings : List Binding) (meanings : List Subscribed) (i : ℕ) : Type 0 where
  pub is : all_from c role 1 bindings ≡ onto meanings (all_from c role (i + 1) (drop i bindings))

pub meant_none : (c : Catalog) (role : ℕ) (bindings : List Binding) → IsMeantUpTo c role bindings [] 0
meant_none c role bindings = record { is = onto_nothing (all_from c role 1 bindings) }

meant_next : (c : Catalog) (role : ℕ) (bindings : List Binding) (meanings : List Subscribed) (i : ℕ) (b : Binding)
    (r : Result Subscribed BindingWhy)
    → IsMeantUpTo c role bindings meanings i → i < length bindings → b ≡ get_or bindings i b → r ≡ meaning_of_binding c role b
    → all_from c role 1 bindings
    ≡ onto meanings (at_count (i + 1) r >> λ s. all_from c role (i + 1 + 1) (drop (i + 1) bindings) >> λ ss. Ok (s ∷ ss))
meant_next c role bindings meanings i b r w h e k =
    w.is ∙ ap (λ l. onto meanings (all_from c role (i + 1) l)) (at_place bindings i b h e)
    ∙ ap (λ q. onto meanings (at_count (i + 1) q >> λ s. all_from c role (i + 1 + 1) (drop (i + 1) bindings) >> λ ss. Ok (s ∷ ss)))
    (sym k)

pub meant_more : (c : Catalog) (role : ℕ) (bindings : List Binding) (meanings : List Subscribed) (i : ℕ) (b : Binding)
    (s : Subscribed) → IsMeantUpTo c role bindings meanings i → i < length bindings → b ≡ get_or bindings i b
    → Ok s ≡ meaning_of_binding c role b → IsMeantUpTo c role bindings (meanings ++ s ∷ []) (i + 1)
meant_more c role bindings meanings i b s w h e k = record {
  is = meant_next c role bindings meanings i b (Ok s) w h e k
      ∙ onto_more meanings s (all_from c role (i + 1 + 1) (drop (i + 1) bindings));
}

pub meant_bad : (c : Catalog) (role : ℕ) (bindings : List Binding) (meanings : List Subscribed) (i : ℕ) (b : Binding)
    (x : BindingWhy) → IsMeantUpTo c role bindings meanings i → i < length bindings → b ≡ get_or bindings i b
    → Err x ≡ meaning_of_binding c role b → Err (BadBinding (i + 1) x) ≡ told (all_from c role 1 bindings)
meant_bad c role bindings meanings i b x w h e k = ap told (sym (meant_next c role bindings meanings i b (Err x) w h e k))

pub meant_all : (c : Catalog) (role : ℕ) (bindings : List Binding) (meanings : List Subscribed) (i : ℕ)
    → IsMeantUpTo c role bindings meanings i → length bindings ≤ i → Ok meanings ≡ told (all_from c role 1 bindings)
meant_all c role bindings meanings i w h =
    ap told
    (sym (w.is ∙ ap (λ l. onto meanings (all_from c role (i + 1) l)) (drop_of_length-le bindings h)
    ∙ ap Ok (append-nil meanings)))
