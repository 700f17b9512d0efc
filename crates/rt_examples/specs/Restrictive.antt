-- A permissive policy that is true of every row, and a restrictive one that isn't true: the caller has no uuid, so a
-- comparison with it is unknown. Alone the latter permits nothing where it is permissive.
use Rattle.std.specs.Prelude.{◌≡◌, List, [], ◌∷◌, ◌&&◌, true, false, nat_le, codes, Some, None}
use Rattle.std.proofs.Common.{lit<, ap, ◌∙◌}
use Rattle.rt_phx.specs.declared.message.Version.TheVariants.{V1}
use Rattle.rt_policy.specs.declared.tables.TableRules.{TableRules}
use Rattle.rt_policy.specs.declared.tables.Policy.{Policy}
use Rattle.rt_policy.specs.Ranks.{has_no_ring, reach}
use Rattle.rt_catalog.specs.declared.catalog.Catalog.{Catalog}
use Rattle.rt_change.specs.declared.change.Verb.TheVariants.{Insert}
use Rattle.rt_entry.specs.declared.input.Input.{Input}
use Rattle.rt_entry.specs.declared.input.Input.TheVariants.{Opened, Frame, Poll}
use Rattle.rt_entry.specs.Audit.{audit_lines}
use Rattle.rt_examples.specs.Notes.{settings, authenticated}
use Rattle.rt_examples.specs.Policies.{anyone, own, reach_anyone, reach_own}
use Rattle.rt_examples.specs.Owners.{docs, owned_by, join}

abbrev pub all_rows : Policy
all_rows = record { name = codes "all_rows"; restrictive = false; selects = true; roles = None; judge = Some anyone }

abbrev pub restricted : Policy
restricted = record { name = codes "r"; restrictive = true; selects = true; roles = None; judge = Some own }

abbrev pub restrictive_rules : List TableRules
restrictive_rules = record { secured = true; rank = 0; policies = all_rows ∷ restricted ∷ []; few = lit< tt } ∷ []

pub restrictive_rules_descend : has_no_ring restrictive_rules ≡ true
restrictive_rules_descend =
    ap (λ n. (nat_le n 0 && (nat_le (reach restrictive_rules own) 0 && true)) && true) (reach_anyone restrictive_rules)
    ∙ ap (λ n. (true && (nat_le n 0 && true)) && true) (reach_own restrictive_rules)

-- docs with: create policy all_rows on docs using (true);
-- create policy r on docs as restrictive using (auth.uid() = owner);
abbrev pub restricted_docs : Catalog
restricted_docs = record docs { rules = record { tables = restrictive_rules; no_ring = restrictive_rules_descend } }

abbrev pub before : List Input
before = Frame 0 join ∷ Opened 0 V1 authenticated ∷ []

abbrev pub journal : List Input
journal = Poll (owned_by Insert None 161 ∷ []) ∷ before

abbrev pub RestrictiveRefuses : Type 0
RestrictiveRefuses = audit_lines restricted_docs settings journal ≡ codes "2 0 1 denied restrictive r\n"

-- with the policy of the owner alone
abbrev pub StrangersSeeNone : Type 0
StrangersSeeNone = audit_lines docs settings journal ≡ codes "2 0 1 denied none permits\n"
