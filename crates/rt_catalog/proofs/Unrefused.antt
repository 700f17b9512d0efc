-- A file that isn't refused: none of its statements is, and then the whole isn't.
use Rattle.std.proofs.Common.{◌≡◌, ℕ, List, Option, Some, None, Result, Ok, Err, refl, subst}
use Rattle.rt_catalog.specs.declared.fault.Why.{Why}
use Rattle.rt_catalog.specs.Grammar.{Placed}
use Rattle.rt_catalog.specs.Lists.{Lists, no_lists}
use Rattle.rt_catalog.specs.Refusals.{Refusal, refused_file, refused_at, lists_or, lists_after, unless_refused}
use Rattle.rt_catalog.specs.Refusals.{lists_of}

abbrev ok : Lists → Result Lists Refusal
ok l = Ok l

or_not : (l lists : Lists) (r : Option Refusal) → lists_or l r ≡ Ok lists → (l ≡ lists) × (r ≡ None)
or_not l lists None e = (cc, refl)
or_not l lists (Some r) e = absurd (cc)

pub unrefused : (file : List Placed) (lists : Lists) → lists_of file ≡ Ok lists
    → (lists_after no_lists file ≡ Ok lists) × (refused_file lists ≡ None)
unfolding lists_of
unrefused file lists e = by (lists_after no_lists file) e where
  by : (r : Result Lists Refusal) → unless_refused r ≡ Ok lists → (r ≡ Ok lists) × (refused_file lists ≡ None)
  by (Ok l) h =
      let told = or_not l lists (refused_file l) h in
      let P : Lists → Type 0 = λ m. (ok l ≡ ok m) × (refused_file m ≡ None) in
      subst P told.0 (refl, told.1)
  by (Err r) h = absurd (cc)

abbrev pub refused_or : ℕ → Result Lists Refusal → Option Why → Result Lists Refusal
refused_or at more refused = elim refused [ Some reason ↦ refused_at at reason | None ↦ more ]

-- where the statements have lists, the first isn't refused
pub goes_on : (at : ℕ) (more : Result Lists Refusal) (lists : Lists) (refused : Option Why)
    → refused_or at more refused ≡ Ok lists
    → (refused ≡ None) × (more ≡ Ok lists)
goes_on at more lists None e = (refl, e)
goes_on at more lists (Some reason) e = absurd (cc)
