-- What a status tells, from what the parts of a run tell.
use Rattle.std.proofs.Common.{◌≡◌, ◌≢◌, inl, inr, ℕ, List, [], ◌∷◌, Some, codes, refl, sym, subst, ◌∙◌, ◌<◌, ◌≤◌}
use Rattle.std.proofs.Common.{ap, length, arith}
use Rattle.std.specs.Prelude.{IfSome, slice_index}
use Rattle.rt_io.specs.Streams.{Puts}
use Rattle.rt_io.specs.Whole.{PutsFront}
use Rattle.rt_entry.specs.declared.input.Input.{Input}
use Rattle.rt_first.specs.First.{AreInputsOf, GivenIsDue}
use Rattle.rt_form.specs.Output.{given}
use Rattle.rt_form.specs.Printed.{printed}
use Rattle.rt_form.specs.Script.{IsScript}
use Rattle.rt_form.specs.Statements.{IsCatalogue}
use Rattle.rt_form.specs.declared.catalogue.Catalogue.{Catalogue}
use Rattle.rt_form.specs.declared.script.Script.{Script}
use Rattle.realtime_replay.specs.Answers.{AllUntouched, AreOfForm, Befell, HasCatalogue, HasNoCatalogue, HasNoScript}
use Rattle.realtime_replay.specs.Answers.{IsCalm, IsComplete, Means, Ran, RanInPart, RunTells, Tells, clusters}
use Rattle.realtime_replay.specs.Answers.{due_bytes, no_command, not_built, runs}
use Rattle.realtime_replay.specs.Faults.{of_form, status_of}
use Rattle.realtime_replay.specs.Flows.{Flow, Gave, HasFailed, IsTooLong, IsUntouched, most_bytes}
use Rattle.realtime_replay.specs.Parts.{HasOne, HasScript, LacksScript, SourceTells}
use Rattle.realtime_replay.specs.Words.{IsCommand, NoCommand}
use Rattle.rt_form.specs.declared.fault.FormFault.{FormFault}
use Rattle.rt_form.specs.declared.fault.FormFault.TheVariants as form
use Rattle.realtime_replay.specs.declared.fault.RunFault.{RunFault}
use Rattle.realtime_replay.specs.declared.fault.RunFault.TheVariants as f
use Rattle.realtime_replay.specs.declared.status.Status.{Status}
use Rattle.realtime_replay.specs.declared.status.Status.TheVariants as s
use Rattle.realtime_replay.specs.declared.words.Command.{Command}
use Rattle.realtime_replay.specs.declared.words.Command.TheVariants.{Replay, Audit, Check, Generate, Cluster}
use Rattle.rt_form.proofs.Once.{cons_twice, other_byte}

pub other_fault : form.NotBuilt ≢ form.NoMemory
other_fault e = cc

-- a text that isn't of the form
pub no_catalogue : (source : Flow) (text bytes : List ℕ) (e : FormFault) → Gave source text → bytes ≡ text
    → ((c : Catalogue) → IsCatalogue bytes c → e ≡ form.NoMemory) → SourceTells HasNoCatalogue source (of_form e)
no_catalogue source text bytes form.NoMemory gave same only = tt
no_catalogue source text bytes form.NotBuilt gave same only =
    record { text = bytes; gave = subst (Gave source) (sym same) gave; none = λ c is. other_fault (only c is) }

pub no_script : (c : Catalogue) (source : Flow) (text bytes : List ℕ) (e : FormFault) → Gave source text → bytes ≡ text
    → ((x : Script) → IsScript c bytes x → e ≡ form.NoMemory) → SourceTells (LacksScript c) source (of_form e)
no_script c source text bytes form.NoMemory gave same only = tt
no_script c source text bytes form.NotBuilt gave same only =
    record { text = bytes; gave = subst (Gave source) (sym same) gave; none = λ x is. other_fault (only x is) }

-- one that is
pub one_catalogue : (source : Flow) (text bytes : List ℕ) (c : Catalogue) → Gave source text → bytes ≡ text
    → IsCatalogue bytes c
    → ((d : Catalogue) → IsCatalogue bytes d → c ≡ d) → HasOne source c
one_catalogue source text bytes c gave same is only =
    record { has = record { text = bytes; gave = subst (Gave source) (sym same) gave; is = is }; only = only }

-- a run that the catalogue's source ends
pub ended_before : (catalogue script out : Flow) (e : RunFault) → IsUntouched script → IsUntouched out
    → SourceTells HasNoCatalogue catalogue e
    → RunTells catalogue script out (status_of e)
ended_before catalogue script out f.NoMemory same kept h = kept
ended_before catalogue script out (f.Refused line) same kept h = absurd h
ended_before catalogue script out f.ReadFault same kept h = (inl (h, same), kept)
ended_before catalogue script out f.TooLong same kept h = (inl (h, same), kept)
ended_before catalogue script out f.NotBuilt same kept h = (inl (h, same), kept)
ended_before catalogue script out f.WriteFault same kept h = absurd h

lacks : (catalogue script : Flow) (c : Catalogue) → HasOne catalogue c → LacksScript c script
    → HasNoScript catalogue script
lacks catalogue script c one h =
    record {
      c = c;
      has = one.has;
      text = h.text;
      gave = h.gave;
      none = λ d x is_catalogue is_script. h.none x (subst (λ k. IsScript k h.text x)
          (sym (one.only d is_catalogue)) is_script);
    }

-- one that the script's source ends
pub ended_behind : (catalogue script out : Flow) (c : Catalogue) (e : RunFault) → HasOne catalogue c → IsUntouched out
    → SourceTells (LacksScript c) script e
    → RunTells catalogue script out (status_of e)
ended_behind catalogue script out c f.NoMemory one kept h = kept
ended_behind catalogue script out c (f.Refused line) one kept h = absurd h
ended_behind catalogue script out c f.ReadFault one kept h = (inr (c, one.has, h), kept)
ended_behind catalogue script out c f.TooLong one kept h = (inr (c, one.has, h), kept)
ended_behind catalogue script out c f.NotBuilt one kept h = (inr (lacks catalogue script c one h), kept)
ended_behind catalogue script out c f.WriteFault one kept h = absurd h

-- what the texts mean, and what is printed of it
pub meaning : (catalogue script : Flow) (c : Catalogue) (x : Script) → GivenIsDue → HasOne catalogue c
    → HasScript c script x
    → (journal : List Input) × Means catalogue script c journal × (printed x.slot (given c x) ≡ due_bytes c journal)
meaning catalogue script c x law one h =
    let d = law one.has.is.words c h.is.slot h.is.claims h.is.frame h.is.line x
    h.is.parts.0 one.has.is.statements h.is.said in
    let inputs : AreInputsOf c h.text d.journal = record { script = x; is = h.is; inputs = d.inputs } in
    (d.journal, record { has = one.has; text = h.text; gave = h.gave; inputs = inputs }, d.printed_is)

pub ran : (catalogue script out : Flow) (c : Catalogue) (x : Script) (bytes : List ℕ) → GivenIsDue → HasOne catalogue c
    → HasScript c script x
    → bytes ≡ printed x.slot (given c x) → Puts out.before out.after bytes → Ran catalogue script out
ran catalogue script out c x bytes law one h same put =
    let m = meaning catalogue script c x law one h in
    record { c = c; journal = m.0; means = m.1; put = subst (Puts out.before out.after) (same ∙ m.2) put }

pub ran_in_part : (catalogue script out : Flow) (c : Catalogue) (x : Script) (bytes : List ℕ) → GivenIsDue
    → HasOne catalogue c → HasScript c script x
    → bytes ≡ printed x.slot (given c x) → PutsFront out.before out.after bytes → HasFailed out
    → RanInPart catalogue script out
ran_in_part catalogue script out c x bytes law one h same put failed =
    let m = meaning catalogue script c x law one h in
    record {
      c = c;
      journal = m.0;
      means = m.1;
      put = subst (PutsFront out.before out.after) (same ∙ m.2) put;
      failed =
          failed;
    }

first_differs : {words r q : List (List ℕ)} {a b : List ℕ} → a ≢ b → words ≡ a ∷ r → words ≡ b ∷ q → ⊥
first_differs n e h = n (cons_twice e h).0

no_audit : codes "audit" ≢ codes "replay"
no_audit = other_byte (λ e. absurd (let g : 97 ≡ 114 = e in omega arith))

no_check : codes "check" ≢ codes "replay"
no_check = other_byte (λ e. absurd (let g : 99 ≡ 114 = e in omega arith))

no_cluster : codes "cluster" ≢ codes "replay"
no_cluster = other_byte (λ e. absurd (let g : 99 ≡ 114 = e in omega arith))

no_gen : codes "gen" ≢ codes "replay"
no_gen = other_byte (λ e. absurd (let g : 103 ≡ 114 = e in omega arith))

-- words of `replay` are no other command's
pub one_command : (words : List (List ℕ)) (command : Command) → IsCommand words command → IsCommand words Replay
    → command ≡ Replay
one_command words Replay h g = refl
one_command words Audit (a, b, p, q, e) (x, y, u, v, h) = absurd (first_differs no_audit e h)
one_command words Check (a, p, e) (x, y, u, v, h) = absurd (first_differs no_check e h)
one_command words (Generate n) (lt, e) (x, y, u, v, h) = absurd (first_differs no_gen e h)
one_command words Cluster (a, p, e) (x, y, u, v, h) = absurd (first_differs no_cluster e h)

no_other_audit : codes "cluster" ≢ codes "audit"
no_other_audit = other_byte (λ e. absurd (let g : 99 ≡ 97 = e in omega arith))

no_other_check : codes "cluster" ≢ codes "check"
no_other_check e = let g : 108 ≡ 104 = ap (λ l. slice_index l 1) e in absurd (omega (arith, g))

no_other_gen : codes "cluster" ≢ codes "gen"
no_other_gen = other_byte (λ e. absurd (let g : 99 ≡ 103 = e in omega arith))

-- and so are those of `cluster`
pub one_cluster : (words : List (List ℕ)) (command : Command) → IsCommand words command → IsCommand words Cluster
    → command ≡ Cluster
one_cluster words Replay (a, b, p, q, e) (x, u, h) = absurd (first_differs no_cluster h e)
one_cluster words Audit (a, b, p, q, e) (x, u, h) = absurd (first_differs no_other_audit h e)
one_cluster words Check (a, p, e) (x, u, h) = absurd (first_differs no_other_check h e)
one_cluster words (Generate n) (lt, e) (x, u, h) = absurd (first_differs no_other_gen h e)
one_cluster words Cluster h g = refl

pub two_commands : (words : List (List ℕ)) → IsCommand words Cluster → IsCommand words Replay → ⊥
two_commands words h g = let e : Cluster ≡ Replay = one_command words Cluster h g in cc

pub all_untouched : {catalogue script out : Flow} → IsUntouched catalogue → IsUntouched script → IsUntouched out
    → AllUntouched catalogue script out
all_untouched a b d = record { catalogue_is = a; script_is = b; out_is = d }

-- what a command that is known isn't
pub differs_from : {command kind other : Command} → command ≡ kind → kind ≢ other → command ≢ other
differs_from same n e = n (sym same ∙ e)

-- words of no command
pub usage : (words : List (List ℕ)) (catalogue script out : Flow) (status : Status)
    → Tells words catalogue script out status → NoCommand words → status ≡ s.Usage
usage words catalogue script out _ (no_command n same) h = refl
usage words catalogue script out _ (not_built command is other another same) h = absurd (h command is)
usage words catalogue script out _ (runs is tells) h = absurd (h Replay is)
usage words catalogue script out _ (clusters is kept tells) h = absurd (h Cluster is)

-- words of a command that isn't built
pub unbuilt : (words : List (List ℕ)) (catalogue script out : Flow) (status : Status) (command : Command)
    → Tells words catalogue script out status
    → IsCommand words command → command ≢ Replay → command ≢ Cluster → status ≡ s.NotBuilt
unbuilt words catalogue script out _ command (no_command n same) h differs another = absurd (n command h)
unbuilt words catalogue script out _ command (not_built other is n m same) h differs another = refl
unbuilt words catalogue script out _ command (runs is tells) h differs another =
    absurd (differs (one_command words command h is))
unbuilt words catalogue script out _ command (clusters is kept tells) h differs another =
    absurd (another (one_cluster words command h is))

-- what a source gave is what it had left
pub gave_all : (source : Flow) (text given : List ℕ) → source.before ≡ Some text → Gave source given → given ≡ text
gave_all source text given e h = (subst (λ o. IfSome o (λ left. (given ≡ left) × (source.after ≡ Some []))) e h.1).0

pub fits_not : (source : Flow) (text : List ℕ) → source.before ≡ Some text → length text ≤ most_bytes
    → IsTooLong source → ⊥
fits_not source text e le h = let lt : most_bytes < length text = subst
    (λ o. IfSome o (λ bytes. most_bytes < length bytes)) e h in absurd (omega arith)

befell_not : (P : Flow → Type 0) (catalogue script : Flow) → (P catalogue → ⊥) → (P script → ⊥)
    → Befell P catalogue script → ⊥
befell_not P catalogue script n m (inl (h, same)) = n h
befell_not P catalogue script n m (inr (c, has, h)) = m h

module _ (catalogue script out : Flow) (text lines : List ℕ) (calm : IsCalm catalogue script out text lines) where
  form_of : (c : Catalogue) (has : HasCatalogue catalogue c) → IsCatalogue text c
  form_of c has = subst (λ t. IsCatalogue t c) (gave_all catalogue text has.text calm.catalogue_is has.gave) has.is

  ran_form : RunTells catalogue script out s.Ok → AreOfForm text lines
  ran_form h =
      record {
        c = h.c;
        script = h.means.inputs.script;
        is_catalogue = form_of h.c h.means.has;
        is_script = subst (λ t. IsScript h.c t h.means.inputs.script)
            (gave_all script lines h.means.text calm.script_is h.means.gave) h.means.inputs.is;
      }

  no_form : RunTells catalogue script out s.NotBuilt → AreOfForm text lines → ⊥
  no_form (inl (none, same), kept) form =
      none.none form.c (subst (λ t. IsCatalogue t form.c)
      (sym (gave_all catalogue text none.text calm.catalogue_is none.gave)) form.is_catalogue)
  no_form (inr none, kept) form =
      none.none form.c form.script
      (subst (λ t. IsCatalogue t form.c)
      (sym (gave_all catalogue text none.has.text calm.catalogue_is none.has.gave)) form.is_catalogue)
      (subst (λ t. IsScript form.c t form.script)
      (sym (gave_all script lines none.text calm.script_is none.gave)) form.is_script)

  complete_run : (status : Status) → RunTells catalogue script out status → IsComplete text lines status
  complete_run s.Ok h = record { built = λ form. inl refl; unbuilt = λ none. absurd (none (ran_form h)) }
  complete_run s.Usage h = absurd h
  complete_run (s.Refused line) h = absurd h
  complete_run s.ReadFault h = absurd (befell_not HasFailed catalogue script calm.catalogue_holds calm.script_holds h.0)
  complete_run s.WriteFault h = absurd (calm.out_holds h.failed)
  complete_run s.NoMemory h = record { built = λ form. inr refl; unbuilt = λ none. inr refl }
  complete_run s.TooLong h =
      absurd (befell_not IsTooLong catalogue script (fits_not catalogue text calm.catalogue_is calm.catalogue_fits)
      (fits_not script lines calm.script_is calm.script_fits) h.0)
  complete_run s.NotBuilt h = record { built = λ form. absurd (no_form h form); unbuilt = λ none. inl refl }

-- with both texts known and no fault, the status is the one that the texts decide
pub complete : (words : List (List ℕ)) (catalogue script out : Flow) (text lines : List ℕ) (status : Status)
    → Tells words catalogue script out status
    → IsCommand words Replay → IsCalm catalogue script out text lines → IsComplete text lines status
complete words catalogue script out text lines _ (no_command n same) is calm = absurd (n Replay is)
complete words catalogue script out text lines _ (not_built command h differs another same) is calm =
    absurd (differs (one_command words command h is))
complete words catalogue script out text lines status (clusters h kept tells) is calm =
    absurd (two_commands words h is)
complete words catalogue script out text lines status (runs h tells) is calm =
    complete_run catalogue script out text lines calm status tells
