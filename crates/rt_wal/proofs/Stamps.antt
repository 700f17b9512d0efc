-- The commit time of a tree whose `timestamp` is a text.
use Rattle.std.proofs.Common.{◌≡◌, ℕ, List, Option, Some, None, codes, sym, subst}
use Rattle.std.specs.Prelude.{MatchOption}
use Rattle.jiff.specs.Types.{DateTime}
use Rattle.rt_json.specs.declared.tree.Json.{Json, out-Json}
use Rattle.rt_json.specs.declared.tree.Json.TheVariants as j
use Rattle.rt_json.specs.declared.tree.Json.TheVariants.{outs-Text}
use Rattle.rt_json.specs.declared.tree.Json.TheOpen.{Json-F}
use Rattle.rt_json.specs.declared.tree.named.Member.{Member}
use Rattle.rt_json.specs.Lookup.{member_of}
use Rattle.rt_wal.specs.Times.{IsInstant, IsMoment, IsTimeAt, IsTimeIn, utc_text}

abbrev TimeOf : Option (List ℕ) → Option Json → Type 0
TimeOf moment found = MatchOption found (moment ≡ None) (λ t. IsTimeAt (out-Json t) moment)

pub is_stamp : (tree node : Json) (text moment : List ℕ) (utc : DateTime) → Some node ≡ member_of tree (codes "timestamp") → node ≡ j.Text text → IsInstant text utc → moment ≡ utc_text utc
    → IsTimeIn tree (Some moment)
is_stamp tree node text moment utc found is instant printed =
    subst (TimeOf (Some moment)) found
    (subst (λ (n : Json). IsTimeAt (out-Json n) (Some moment)) (sym is)
    (subst (λ (l : Json-F Json Member). IsTimeAt l (Some moment)) (sym (outs-Text text)) (utc, instant, printed)))

pub no_stamp : (tree node : Json) (text : List ℕ) → Some node ≡ member_of tree (codes "timestamp") → node ≡ j.Text text → ((utc : DateTime) → IsInstant text utc → ⊥)
    → (moment : Option (List ℕ)) → IsTimeIn tree moment → ⊥
no_stamp tree node text found is none moment h =
    by_moment moment
    (subst (λ (l : Json-F Json Member). IsTimeAt l moment) (outs-Text text)
    (subst (λ (n : Json). IsTimeAt (out-Json n) moment) is
    (subst (TimeOf moment) (sym found) h)))
  where
    by_moment : (moment : Option (List ℕ)) → MatchOption moment ⊥ (IsMoment text) → ⊥
    by_moment None m = m
    by_moment (Some printed) m = none m.0 m.1
