-- Rows that their owners see: two changes of one row in a poll are both judged on the row as the poll leaves it.
use Rattle.std.specs.Prelude.{◌≡◌, ℕ, List, [], ◌∷◌, ◌&&◌, true, false, nat_le, codes, Option, Some, None, pos}
use Rattle.std.proofs.Common.{lit<, ap}
use Rattle.rt_value.specs.declared.value.Value.TheVariants as value
use Rattle.rt_value.specs.declared.value.Kind.TheVariants as kind
use Rattle.rt_value.specs.declared.row.Key.{Key}
use Rattle.rt_value.specs.declared.edit.Edit.TheVariants.{Put}
use Rattle.rt_value.specs.declared.claims.Claims.{Claims}
use Rattle.rt_phx.specs.declared.message.Version.TheVariants.{V1}
use Rattle.rt_policy.specs.declared.tables.TableRules.{TableRules}
use Rattle.rt_policy.specs.declared.tables.Policy.{Policy}
use Rattle.rt_policy.specs.Ranks.{has_no_ring}
use Rattle.rt_catalog.specs.declared.catalog.Catalog.{Catalog}
use Rattle.rt_change.specs.declared.change.Change.{Change}
use Rattle.rt_change.specs.declared.change.Verb.{Verb}
use Rattle.rt_change.specs.declared.change.Verb.TheVariants.{Insert, Update}
use Rattle.rt_entry.specs.declared.input.Input.{Input}
use Rattle.rt_entry.specs.declared.input.Input.TheVariants.{Opened, Frame, Poll}
use Rattle.rt_entry.specs.Audit.{audit_lines}
use Rattle.rt_examples.specs.Notes.{settings, one}
use Rattle.rt_examples.specs.Policies.{own, reach_own}
use Rattle.rt_examples.specs.Texts.{join_for}

abbrev pub own_policy : Policy
own_policy = record { name = codes "own"; restrictive = false; selects = true; roles = None; judge = Some own }

abbrev pub owner_rules : List TableRules
owner_rules = record { secured = true; rank = 0; policies = own_policy ∷ []; few = lit< tt } ∷ []

pub owner_rules_descend : has_no_ring owner_rules ≡ true
owner_rules_descend = ap (λ n. (nat_le n 0 && true) && true) (reach_own owner_rules)

-- create table docs (id int4 primary key, owner uuid); .. create policy own on docs using (auth.uid() = owner);
abbrev pub docs : Catalog
docs =
    record {
      tables = record {
        schema = codes "public";
        name = codes "docs";
        columns =
            record { name = codes "id"; kind = kind.Int4; shown = codes "int4" }
            ∷ record { name = codes "owner"; kind = kind.Uuid; shown = codes "uuid" } ∷ [];
        key = 0 ∷ [];
      } ∷ [];
      roles = record { name = codes "authenticated"; bypass = false } ∷ [];
      grants = record { table = 0; column = None; role = Some 0 } ∷ [];
      rules = record { tables = owner_rules; no_ring = owner_rules_descend };
    }

abbrev pub user : ℕ → Claims
user sub = record { role = codes "authenticated"; sub = Some sub; exp = None; members = [] }

-- the row of id 1 with an owner
abbrev pub owned_by : Verb → Option Key → ℕ → Change
owned_by verb old owner =
    record {
      table = 0;
      verb = verb;
      has_key = true;
      size = 300;
      moment = None;
      new = Some (value.Int (pos 1)) ∷ Some (value.Uuid owner) ∷ [];
      old = None ∷ None ∷ [];
      new_trees = [];
      old_trees = [];
      edit = Put old one (Some (value.Int (pos 1)) ∷ Some (value.Uuid owner) ∷ []);
    }

abbrev pub join : List ℕ
join = join_for (codes "realtime:docs") (codes "{\"event\":\"*\",\"table\":\"docs\"}")

-- two callers, 161 and 162
abbrev pub before : List Input
before = Frame 1 join ∷ Frame 0 join ∷ Opened 1 V1 (user 162) ∷ Opened 0 V1 (user 161) ∷ []

-- an insert of a row of the one, and in the same poll its update to the other
abbrev pub changes : List Change
changes = owned_by Insert None 161 ∷ owned_by Update (Some one) 162 ∷ []

abbrev pub OwnersAreJudged : Type 0
OwnersAreJudged =
    audit_lines docs settings (Poll changes ∷ before) ≡
    codes "4 0 1 denied none permits\n4 0 2 delivered\n4 1 1 denied none permits\n4 1 2 delivered\n"
