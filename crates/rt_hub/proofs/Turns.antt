-- The members behind an input are those before it, changed by each part of the input in turn.
use Rattle.std.proofs.Common.{◌≡◌, ℕ, Bool, true, not, cond, List, [], ◌∷◌, ◌++◌, map, refl, sym, ap, subst}
use Rattle.std.proofs.Common.{◌∙◌, append-nil, arith, inl, inr}
use Rattle.std.specs.Prelude.{⊤, ◌==◌, ◌&&◌}
use Rattle.std.specs.List.{filter, filter_map}
use Rattle.std.proofs.lemmas.List.Elements.{filter-append}
use Rattle.rt_value.proofs.Plain.{AllOf, all_append, all_every, filter_all, filter_same, filter_and, not_or}
use Rattle.rt_entry.specs.declared.story.Channel.{Channel}
use Rattle.rt_entry.specs.declared.story.Standing.{Standing}
use Rattle.rt_entry.specs.declared.story.Member.{Member}
use Rattle.rt_entry.specs.declared.story.Part.{Part}
use Rattle.rt_entry.specs.declared.story.Part.TheVariants.{Opens, Ends, Tells, Joins, Renews, Tracks, Untracks, Departs}
use Rattle.rt_entry.specs.Story.{has, departed_in, renewed_by, first_or}
use Rattle.rt_entry.specs.After.{members_after, remains, renewed, new_member, with_standing, joins_of}
use Rattle.rt_entry.proofs.Shapes.{Plain, Shape, plain, joining, tracking}
use Rattle.rt_entry.proofs.PlainParts.{plain_joins, plain_has, quiet_front, around_joins, has_append}
use Rattle.rt_hub.specs.Registered.{member_by, members_by}
use Rattle.rt_hub.proofs.Renewing.{Renewless, RenewsOne}

-- neither joins nor renews
abbrev pub Lets : Part → Type 0
Lets (Opens s o) = ⊤
Lets (Ends s name) = ⊤
Lets (Tells s m) = ⊤
Lets (Joins ch) = ⊥
Lets (Renews n x) = ⊥
Lets (Tracks t) = ⊤
Lets (Untracks n) = ⊤
Lets (Departs n) = ⊤

lets_of : (b : Bool) (n : ℕ) (ps : List Part) → AllOf (Plain b n) ps → AllOf Renewless ps → AllOf Lets ps
lets_of b n [] p r = tt
lets_of b n (Opens s o ∷ ps) p r = (tt, lets_of b n ps p.1 r.1)
lets_of b n (Ends s e ∷ ps) p r = (tt, lets_of b n ps p.1 r.1)
lets_of b n (Tells s m ∷ ps) p r = (tt, lets_of b n ps p.1 r.1)
lets_of b n (Joins c ∷ ps) p r = absurd p.0
lets_of b n (Renews k x ∷ ps) p r = absurd r.0
lets_of b n (Tracks t ∷ ps) p r = (tt, lets_of b n ps p.1 r.1)
lets_of b n (Untracks k ∷ ps) p r = (tt, lets_of b n ps p.1 r.1)
lets_of b n (Departs k ∷ ps) p r = (tt, lets_of b n ps p.1 r.1)

less_renews : (m : ℕ) (ps : List Part) → AllOf Renewless ps → filter_map (renewed_by m) ps ≡ []
less_renews m [] r = refl
less_renews m (Opens s o ∷ ps) r = less_renews m ps r.1
less_renews m (Ends s e ∷ ps) r = less_renews m ps r.1
less_renews m (Tells s e ∷ ps) r = less_renews m ps r.1
less_renews m (Joins c ∷ ps) r = less_renews m ps r.1
less_renews m (Renews k x ∷ ps) r = absurd r.0
less_renews m (Tracks t ∷ ps) r = less_renews m ps r.1
less_renews m (Untracks k ∷ ps) r = less_renews m ps r.1
less_renews m (Departs k ∷ ps) r = less_renews m ps r.1

pub members_append : (ps qs : List Part) (hs : List Member)
    → members_by (ps ++ qs) hs ≡ members_by qs (members_by ps hs)
members_append [] qs hs = refl
members_append (p ∷ ps) qs hs = members_append ps qs (member_by p hs)

-- parts that neither join nor renew take away who departs
pub let_go : (ps : List Part) (hs : List Member) → AllOf Lets ps → members_by ps hs ≡ filter (remains ps) hs
let_go [] hs l = sym (filter_all (remains []) hs (all_every (λ (h : Member). remains [] h ≡ true) hs (λ h. refl)))
let_go (Opens s o ∷ ps) hs l = let_go ps hs l.1
let_go (Ends s e ∷ ps) hs l = let_go ps hs l.1
let_go (Tells s m ∷ ps) hs l = let_go ps hs l.1
let_go (Joins c ∷ ps) hs l = absurd l.0
let_go (Renews k x ∷ ps) hs l = absurd l.0
let_go (Tracks t ∷ ps) hs l = let_go ps hs l.1
let_go (Untracks n ∷ ps) hs l = let_go ps hs l.1
let_go (Departs n ∷ ps) hs l =
    let first : Member → Bool = λ h. not (n == h.channel.number) in
    let_go ps (filter first hs) l.1 ∙ sym (filter_and (remains ps) first hs)
    ∙ filter_same (λ h. first h && remains ps h) (remains (Departs n ∷ ps))
    (λ h. sym (not_or (n == h.channel.number) (has h.channel.number (departed_in ps)))) hs

-- a member that nothing renews is what it was
same_members : (ps : List Part) (hs : List Member) → AllOf Renewless ps → map (renewed ps) hs ≡ hs
same_members ps [] r = refl
same_members ps (h ∷ hs) r =
    let by : List Standing → Member = λ xs. with_standing h.channel (first_or h.standing xs) in
    ap (λ xs. by xs ∷ map (renewed ps) hs) (less_renews h.channel.number ps r)
    ∙ ap (λ (gs : List Member). h ∷ gs) (same_members ps hs r)

-- the members behind parts that renew nobody
members_less : (hs : List Member) (ps : List Part) → AllOf Renewless ps
    → members_after hs ps ≡ filter (remains ps) hs ++ map new_member (joins_of ps)
members_less hs ps r =
    ap (λ (gs : List Member). gs ++ map new_member (joins_of ps)) (same_members ps (filter (remains ps) hs) r)

one_renewal : (n : ℕ) (x : Standing) (hs : List Member)
    → members_after hs (Renews n x ∷ []) ≡ members_by (Renews n x ∷ []) hs
one_renewal n x hs =
    let ps = Renews n x ∷ [] in
    append-nil (map (renewed ps) (filter (remains ps) hs))
    ∙ ap (map (renewed ps)) (filter_all (remains ps) hs
    (all_every (λ (h : Member). remains ps h ≡ true) hs (λ h. refl)))

-- parts that let only depart
plain_turn : (hs : List Member) (ps : List Part) → AllOf Lets ps → AllOf Renewless ps → joins_of ps ≡ []
    → members_after hs ps ≡ members_by ps hs
plain_turn hs ps l r e =
    members_less hs ps r ∙ ap (λ (js : List Channel). filter (remains ps) hs ++ map new_member js) e
    ∙ append-nil (filter (remains ps) hs) ∙ sym (let_go ps hs l)

-- of the parts around one
front_less : (front back : List Part) (p : Part) → AllOf Renewless (front ++ p ∷ back) → AllOf Renewless front
front_less [] back p r = tt
front_less (q ∷ front) back p r = (r.0, front_less front back p r.1)

back_less : (front back : List Part) (p : Part) → AllOf Renewless (front ++ p ∷ back) → AllOf Renewless back
back_less [] back p r = r.1
back_less (q ∷ front) back p r = back_less front back p r.1

joining_turn : (b : Bool) (n : ℕ) (hs : List Member) (front back : List Part) (ch : Channel)
    → AllOf (Plain b n) front → AllOf (Plain b n) back → ch.number ≡ n → AllOf Renewless (front ++ Joins ch ∷ back)
    → members_after hs (front ++ Joins ch ∷ back) ≡ members_by (front ++ Joins ch ∷ back) hs
joining_turn b n hs front back ch f g e r =
    let ps = front ++ Joins ch ∷ back in
    let new = new_member ch in
    let lf = lets_of b n front f (front_less front back (Joins ch) r) in
    let lb = lets_of b n back g (back_less front back (Joins ch) r) in
    let own : remains back new ≡ true = ap not (plain_has b n ch.number back (omega arith) g) in
    let split : (h : Member) → (remains front h && remains back h) ≡ remains ps h = λ h.
    sym (ap not (has_append h.channel.number front (Joins ch ∷ back))
    ∙ not_or (has h.channel.number (departed_in front)) (has h.channel.number (departed_in back))) in
    members_less hs ps r
    ∙ ap (λ (js : List Channel). filter (remains ps) hs ++ map new_member js)
    (around_joins b n front (Joins ch) back f g)
    ∙ ap (λ (gs : List Member). gs ++ new ∷ [])
    (sym (filter_same (λ h. remains front h && remains back h) (remains ps) split hs))
    ∙ ap (λ (gs : List Member). gs ++ new ∷ []) (filter_and (remains back) (remains front) hs)
    ∙ ap (λ (t : Bool). filter (remains back) (filter (remains front) hs) ++ cond t (new ∷ []) []) (sym own)
    ∙ sym (filter-append (remains back) (filter (remains front) hs) (new ∷ []))
    ∙ sym (let_go back (filter (remains front) hs ++ new ∷ []) lb)
    ∙ ap (λ (gs : List Member). members_by back (gs ++ new ∷ [])) (sym (let_go front hs lf))
    ∙ sym (members_append front (Joins ch ∷ back) hs)

pub shape_turns : {ids : ℕ} (b : Bool) (n : ℕ) (hs : List Member) (ps : List Part) → Shape b n ids hs ps → RenewsOne ps
    → members_after hs ps ≡ members_by ps hs
shape_turns b n hs ps shape (inl one) =
    ap (λ (qs : List Part). members_after hs qs) one.2 ∙ one_renewal one.0 one.1 hs
    ∙ ap (λ (qs : List Part). members_by qs hs) (sym one.2)
shape_turns b n hs ps (plain h) (inr r) = plain_turn hs ps (lets_of b n ps h r) r (plain_joins b n ps h)
shape_turns b n hs ps (joining front ch back f g k room e) (inr r) =
    let less = subst (AllOf Renewless) e r in
    ap (λ (qs : List Part). members_after hs qs) e ∙ joining_turn b n hs front back ch f g k.0 less
    ∙ ap (λ (qs : List Part). members_by qs hs) (sym e)
shape_turns b n hs ps (tracking front t back f g k lt own e) (inr r) =
    let less = subst (AllOf Renewless) e r in
    let lf = lets_of b n front (quiet_front b n front f) (front_less front back (Tracks t) less) in
    let lb = lets_of b n back (quiet_front b n back g) (back_less front back (Tracks t) less) in
    ap (λ (qs : List Part). members_after hs qs) e
    ∙ plain_turn hs (front ++ Tracks t ∷ back) (all_append Lets front (Tracks t ∷ back) lf (tt, lb)) less
    (around_joins b n front (Tracks t) back (quiet_front b n front f) (quiet_front b n back g))
    ∙ ap (λ (qs : List Part). members_by qs hs) (sym e)
