-- Answers that begin and end openings: what parts leave open.
use Rattle.std.proofs.Common.{◌≡◌, ℕ, Bool, true, false, List, [], ◌∷◌, ◌++◌, Option, Some, None, refl, ap, ◌∙◌}
use Rattle.std.specs.Prelude.{⊤, ◌==◌, if◌then◌else◌}
use Rattle.std.specs.List.{filter_map, cons_option}
use Rattle.std.proofs.lemmas.List.Elements.{filter_map-append}
use Rattle.rt_value.specs.Choice.{◌>>=◌}
use Rattle.rt_value.proofs.Plain.{AllOf}
use Rattle.rt_phx.specs.declared.message.Message.{Message}
use Rattle.rt_phx.specs.declared.end.EndName.{EndName}
use Rattle.rt_phx.specs.declared.message.Version.{Version}
use Rattle.rt_entry.specs.declared.story.Opening.{Opening}
use Rattle.rt_entry.specs.declared.story.Part.{Part}
use Rattle.rt_entry.specs.declared.story.Part.TheVariants.{Opens, Ends, Tells, Joins, Renews, Tracks, Untracks, Departs}
use Rattle.rt_entry.specs.declared.answer.Answer.{Answer}
use Rattle.rt_entry.specs.declared.answer.Answer.TheVariants as a
use Rattle.rt_entry.specs.Story.{opened_after}
use Rattle.rt_entry.specs.Answers.{answer_of, at_slot}
use Rattle.rt_laws.specs.Openings.{turned, left_open, is_there}
use Rattle.rt_laws.proofs.Since.{told_by}

left_step : (o : Option Bool) (xs ys : List Answer)
    → ((b : Bool) → left_open b (xs ++ ys) ≡ (left_open b xs >>= λ d. left_open d ys))
    → (o >>= λ b. left_open b (xs ++ ys)) ≡ ((o >>= λ b. left_open b xs) >>= λ d. left_open d ys)
left_step None xs ys f = refl
left_step (Some b) xs ys f = f b

pub left_append : (b : Bool) (xs ys : List Answer) → left_open b (xs ++ ys) ≡ (left_open b xs >>= λ d. left_open d ys)
left_append b [] ys = refl
left_append b (x ∷ xs) ys = left_step (turned b x) xs ys (λ n. left_append n xs ys)

-- parts lead a slot from one state to another
abbrev pub Leads : ℕ → Bool → List Part → Bool → Type 0
Leads slot b ps d = left_open b (told_by slot ps) ≡ Some d

pub told_parts_append : (slot : ℕ) (ps qs : List Part) → told_by slot (ps ++ qs) ≡ told_by slot ps ++ told_by slot qs
told_parts_append slot ps qs =
    ap (filter_map (at_slot slot)) (filter_map-append answer_of ps qs)
    ∙ filter_map-append (at_slot slot) (filter_map answer_of ps) (filter_map answer_of qs)

pub leads_then : (slot : ℕ) (b d e : Bool) (ps qs : List Part) → Leads slot b ps d → Leads slot d qs e
    → Leads slot b (ps ++ qs) e
leads_then slot b d e ps qs f g =
    ap (left_open b) (told_parts_append slot ps qs) ∙ left_append b (told_by slot ps) (told_by slot qs)
    ∙ ap (λ (o : Option Bool). o >>= λ n. left_open n (told_by slot qs)) f ∙ g

-- it neither opens nor ends the slot, and says something to it only where it is open
abbrev pub Mild : ℕ → Bool → Part → Type 0
Mild slot b (Opens s o) = (s == slot) ≡ false
Mild slot b (Ends s name) = (s == slot) ≡ false
Mild slot b (Tells s m) = (s == slot) ≡ true → b ≡ true
Mild slot b (Joins ch) = ⊤
Mild slot b (Renews m x) = ⊤
Mild slot b (Tracks t) = ⊤
Mild slot b (Untracks m) = ⊤
Mild slot b (Departs m) = ⊤

passed : (t b d : Bool) (x : Answer) (rest : List Answer) → t ≡ false → left_open b rest ≡ Some d
    → left_open b (cons_option (if t then Some x else None) rest) ≡ Some d
passed true b d x rest e h = absurd (cc)
passed false b d x rest e h = h

said : (t b : Bool) (m : Message) (rest : List Answer) → (t ≡ true → b ≡ true) → left_open b rest ≡ Some b
    → left_open b (cons_option (if t then Some (a.Says m) else None) rest) ≡ Some b
said false b m rest f h = h
said true true m rest f h = h
said true false m rest f h = absurd (let k : false ≡ true = f refl in cc)

pub mild_leads : (slot : ℕ) (b : Bool) (ps : List Part) → AllOf (Mild slot b) ps → Leads slot b ps b
mild_leads slot b [] h = refl
mild_leads slot b (Opens s o ∷ ps) h =
    passed (s == slot) b b (a.Opened o.version) (told_by slot ps) h.0 (mild_leads slot b ps h.1)
mild_leads slot b (Ends s name ∷ ps) h =
    passed (s == slot) b b (a.Ended name) (told_by slot ps) h.0 (mild_leads slot b ps h.1)
mild_leads slot b (Tells s m ∷ ps) h = said (s == slot) b m (told_by slot ps) h.0 (mild_leads slot b ps h.1)
mild_leads slot b (Joins c ∷ ps) h = mild_leads slot b ps h.1
mild_leads slot b (Renews k x ∷ ps) h = mild_leads slot b ps h.1
mild_leads slot b (Tracks t ∷ ps) h = mild_leads slot b ps h.1
mild_leads slot b (Untracks k ∷ ps) h = mild_leads slot b ps h.1
mild_leads slot b (Departs k ∷ ps) h = mild_leads slot b ps h.1

opened_case : (t d : Bool) (v : Version) (rest : List Answer) → t ≡ true → left_open true rest ≡ Some d
    → left_open false (cons_option (if t then Some (a.Opened v) else None) rest) ≡ Some d
opened_case true d v rest e h = h
opened_case false d v rest e h = absurd (cc)

ended_case : (t d : Bool) (name : EndName) (rest : List Answer) → t ≡ true → left_open false rest ≡ Some d
    → left_open true (cons_option (if t then Some (a.Ended name) else None) rest) ≡ Some d
ended_case true d name rest e h = h
ended_case false d name rest e h = absurd (cc)

pub opens_leads : (slot n : ℕ) (d : Bool) (o : Opening) (ps : List Part) → (n == slot) ≡ true → Leads slot true ps d
    → Leads slot false (Opens n o ∷ ps) d
opens_leads slot n d o ps e h = opened_case (n == slot) d o.version (told_by slot ps) e h

pub ends_leads : (slot n : ℕ) (d : Bool) (name : EndName) (ps : List Part) → (n == slot) ≡ true → Leads slot false ps d
    → Leads slot true (Ends n name ∷ ps) d
ends_leads slot n d name ps e h = ended_case (n == slot) d name (told_by slot ps) e h

-- what parts lead to is what is open behind them

abbrev Follows : ℕ → Bool → List Part → Type 0
Follows slot d ps = (b : Bool) (old : Option Opening) → is_there old ≡ b → Leads slot b ps d
    → is_there (opened_after slot ps old) ≡ d

open_here : (t b d : Bool) (slot : ℕ) (o : Opening) (ps : List Part) (old : Option Opening) → Follows slot d ps
    → is_there old ≡ b
    → left_open b (cons_option (if t then Some (a.Opened o.version) else None) (told_by slot ps)) ≡ Some d
    → is_there (opened_after slot ps (if t then Some o else old)) ≡ d
open_here true false d slot o ps old next e h = next true (Some o) refl h
open_here true true d slot o ps old next e h = absurd (cc)
open_here false b d slot o ps old next e h = next b old e h

end_here : (t b d : Bool) (slot : ℕ) (name : EndName) (ps : List Part) (old : Option Opening) → Follows slot d ps
    → is_there old ≡ b
    → left_open b (cons_option (if t then Some (a.Ended name) else None) (told_by slot ps)) ≡ Some d
    → is_there (opened_after slot ps (if t then None else old)) ≡ d
end_here true true d slot name ps old next e h = next false None refl h
end_here true false d slot name ps old next e h = absurd (cc)
end_here false b d slot name ps old next e h = next b old e h

tell_here : (t b d : Bool) (slot : ℕ) (m : Message) (ps : List Part) (old : Option Opening) → Follows slot d ps
    → is_there old ≡ b
    → left_open b (cons_option (if t then Some (a.Says m) else None) (told_by slot ps)) ≡ Some d
    → is_there (opened_after slot ps old) ≡ d
tell_here true true d slot m ps old next e h = next true old e h
tell_here true false d slot m ps old next e h = absurd (cc)
tell_here false b d slot m ps old next e h = next b old e h

same_state : (b d : Bool) → Some b ≡ Some d → b ≡ d
same_state b d e = cc

pub state_follows : (slot : ℕ) (d : Bool) (ps : List Part) → Follows slot d ps
state_follows slot d [] b old e h = e ∙ same_state b d h
state_follows slot d (Opens s o ∷ ps) b old e h = open_here (s == slot) b d slot o ps old (state_follows slot d ps) e h
state_follows slot d (Ends s name ∷ ps) b old e h =
    end_here (s == slot) b d slot name ps old (state_follows slot d ps) e h
state_follows slot d (Tells s m ∷ ps) b old e h = tell_here (s == slot) b d slot m ps old (state_follows slot d ps) e h
state_follows slot d (Joins c ∷ ps) b old e h = state_follows slot d ps b old e h
state_follows slot d (Renews k x ∷ ps) b old e h = state_follows slot d ps b old e h
state_follows slot d (Tracks t ∷ ps) b old e h = state_follows slot d ps b old e h
state_follows slot d (Untracks k ∷ ps) b old e h = state_follows slot d ps b old e h
state_follows slot d (Departs k ∷ ps) b old e h = state_follows slot d ps b old e h
