-- Each step keeps the rule.
use Rattle.std.proofs.Common.{◌≡◌, ◌≢◌, ℕ, ◌+◌, zero, suc, ◌<◌, true, false, true≢false, List, [], ◌∷◌, ◌++◌, length, set, sym, refl, ap, ◌∙◌, subst, ⊎_elim, append_assoc, arith, length-append, append-nil, Option, Some, None, MatchOption, IsNone, ◌↔◌}
use mathlib.Core.List.{IsPrefix}
use mathlib.Core.Option.{some, some-ne-none}
use lib.ListN.{get_elem?}
use Rattle.crossbeam_queue.specs.Fifo.{Pushes, Pops, Forks, Merges, Learns, Held}
use Rattle.crossbeam_queue.proofs.Lists.{at_set, at_snoc}
use Rattle.rt_fifo.specs.declared.rule.Known.{Known}
use Rattle.rt_fifo.specs.Rule.{known, Knows, IsKept, Holds, AddsSent, AddsReceived}

module _ {T : Type 0} where
  -- an element that the list didn't have before is the new last one
  at_end : (l : List (Known T)) (a b : Known T) (j : ℕ) → get_elem? l j ≢ some b → get_elem? (l ++ a ∷ []) j ≡ some b → j ≡ length l
  at_end [] a b zero n e = refl
  at_end [] a b (suc j) n e = absurd (some-ne-none b (sym e))
  at_end (x ∷ xs) a b zero n e = absurd (n e)
  at_end (x ∷ xs) a b (suc j) n e = ap suc (at_end xs a b j n e)

  abbrev Each : (ℕ → Known T → Type 0) → List (Known T) → Type 0
  Each F passes = (pass : ℕ) (v : Known T) → get_elem? passes pass ≡ some v → F pass v

  each-set : (F : ℕ → Known T → Type 0) (passes : List (Known T)) (pass : ℕ) (w : Known T) → F pass w
      → ((j : ℕ) (u : Known T) → j ≢ pass → get_elem? passes j ≡ some u → F j u) → Each F (set passes pass w)
  each-set F passes pass w mine others j u e = ⊎_elim (λ (x : (j ≡ pass) × (w ≡ u)). subst (λ (y : ℕ × Known T). F y.0 y.1) (λ i. (sym x.0 i, x.1 i)) mine)
      (λ (x : (j ≢ pass) × (get_elem? passes j ≡ some u)). others j u x.0 x.1) (at_set passes pass j w u e)

  -- a pass that may neither push nor pop knows whatever it is said to
  spent_knows : (sender receiver : ℕ) (sent received : List T) (pass : ℕ) (a b : List T) → Knows sender receiver sent received pass (known false false a b)
  spent_knows sender receiver sent received pass a b = record {
    pushes = λ p. absurd (true≢false (sym p));
    pops = λ p. absurd (true≢false (sym p));
  }

  pub makes : IsKept {T = T} [] (known true true [] [] ∷ [])
  makes = record {
    sender = 0;
    receiver = 0;
    sent = [];
    received = [];
    in_order = refl;
    known_by = each-set (Knows 0 0 [] []) (known true true [] [] ∷ []) 0 (known true true [] []) (record { pushes = λ _. (refl, refl); pops = λ _. (refl, refl) })
        (λ j u other e. absurd (other (at_end [] _ u j (λ x. some-ne-none u (sym x)) e)));
  }

  pub learns : (pass : ℕ) (v : Known T) → Learns IsKept pass v (Holds v)
  learns pass v items passes kept at =
      let mine = kept.known_by pass v at in
      record {
        sent = kept.sent;
        received = kept.received;
        in_order = kept.in_order;
        pushes = λ p. (mine.pushes p).1;
        pops = λ p. (mine.pops p).1;
      }

  pub pushes : (n pass : ℕ) (v : Known T) (item : T) → v.pushes ≡ true → Pushes IsKept n pass v item (AddsSent v item)
  pushes n pass v item may items passes _ kept at =
      let w : Known T = known v.pushes v.pops (v.sent ++ item ∷ []) v.received in
      let mine = kept.known_by pass v at in
      let sent = kept.sent ++ item ∷ [] in (
        w,
        record {
          sender = kept.sender;
          receiver = kept.receiver;
          sent = sent;
          received = kept.received;
          in_order = ap (λ l. l ++ item ∷ []) kept.in_order ∙ append_assoc kept.received items (item ∷ []);
          known_by = each-set (Knows kept.sender kept.receiver sent kept.received) passes pass w
              (record { pushes = λ _. ((mine.pushes may).0, ap (λ l. l ++ item ∷ []) (mine.pushes may).1); pops = mine.pops })
              (λ j u other e. record {
                pushes = λ p. absurd (other (((kept.known_by j u e).pushes p).0 ∙ sym (mine.pushes may).0));
                pops = (kept.known_by j u e).pops;
              });
        },
        refl,
      )

  pub pops : (pass : ℕ) (v : Known T) → v.pops ≡ true → Pops IsKept pass v (AddsReceived v)
  pops pass v may item items passes kept at =
      let w : Known T = known v.pushes v.pops v.sent (v.received ++ item ∷ []) in
      let mine = kept.known_by pass v at in
      let received = kept.received ++ item ∷ [] in (
        w,
        record {
          sender = kept.sender;
          receiver = kept.receiver;
          sent = kept.sent;
          received = received;
          in_order = kept.in_order ∙ sym (append_assoc kept.received (item ∷ []) items);
          known_by = each-set (Knows kept.sender kept.receiver kept.sent received) passes pass w
              (record { pushes = mine.pushes; pops = λ _. ((mine.pops may).0, ap (λ l. l ++ item ∷ []) (mine.pops may).1) })
              (λ j u other e. record {
                pushes = (kept.known_by j u e).pushes;
                pops = λ p. absurd (other (((kept.known_by j u e).pops p).0 ∙ sym (mine.pops may).0));
              });
        },
        (refl, (items, learns pass v (item ∷ items) passes kept at)),
      )

  -- after the first half of a parting: no pass may pop, and the old one alone may push
  record Parting (sender : ℕ) (sent : List T) (pass : ℕ) (v : Known T) : Type 0 where
    pushes : v.pushes ≡ true → (pass ≡ sender) × (v.sent ≡ sent)
    pops : v.pops ≢ true

  pub parts : (pass : ℕ) (v : Known T) → v.pushes ≡ true → v.pops ≡ true → Forks IsKept pass v (known true false v.sent []) (known false true [] v.received)
  parts pass v may_push may_pop items passes kept at =
      let left : Known T = known true false v.sent [] in
      let right : Known T = known false true [] v.received in
      let mine = kept.known_by pass v at in
      let half : List (Known T) = set passes pass left in
      let others : Each (Parting kept.sender kept.sent) half = each-set (Parting kept.sender kept.sent) passes pass left
      (record { pushes = λ _. mine.pushes may_push; pops = λ p. true≢false (sym p) })
      (λ j u other e. record { pushes = (kept.known_by j u e).pushes; pops = λ p. other (((kept.known_by j u e).pops p).0 ∙ sym (mine.pops may_pop).0) }) in
      record {
        sender = kept.sender;
        receiver = length half;
        sent = kept.sent;
        received = kept.received;
        in_order = kept.in_order;
        known_by = λ j u e. ⊎_elim (λ x. record { pushes = (others j u x).pushes; pops = λ p. absurd ((others j u x).pops p) })
            (λ (is : right ≡ u). record {
              pushes = λ p. absurd (true≢false (sym (ap (λ (y : Known T). y.pushes) is ∙ p)));
              pops = λ p. (at_end half right u j (λ x. (others j u x).pops p) e, ap (λ (y : Known T). y.received) (sym is) ∙ (mine.pops may_pop).1);
            }) (at_snoc half right u j e);
      }

  pub joins : (pass : ℕ) (v : Known T) (other : ℕ) (u : Known T) → v.pushes ≡ true → u.pops ≡ true → Merges IsKept pass v other u (known true true v.sent u.received) (known false false [] [])
  joins pass v other u may_push may_pop items passes kept at two at' =
      let both : Known T = known true true v.sent u.received in
      let mine = kept.known_by pass v at in
      let half : List (Known T) = set passes pass both in
      let was : get_elem? passes other ≡ some u = ⊎_elim (λ x. absurd (two x.0)) (λ x. x.1) (at_set passes pass other both u at') in
      let theirs = (kept.known_by other u was).pops may_pop in
      let Now : ℕ → Known T → Type 0 = λ j y. j ≢ other → Knows kept.sender pass kept.sent kept.received j y in
      let now : Each Now half = each-set Now passes pass both (λ _. record { pushes = λ _. mine.pushes may_push; pops = λ _. (refl, theirs.1) })
      (λ j y _ e apart. record { pushes = (kept.known_by j y e).pushes; pops = λ p. absurd (apart (((kept.known_by j y e).pops p).0 ∙ sym theirs.0)) }) in
      record {
        sender = kept.sender;
        receiver = pass;
        sent = kept.sent;
        received = kept.received;
        in_order = kept.in_order;
        known_by = each-set (Knows kept.sender pass kept.sent kept.received) half other (known false false [] [])
            (spent_knows kept.sender pass kept.sent kept.received other [] []) (λ j y apart e. now j y e apart);
      }

  -- what a pass that may push and pop knows of what is held: it is what was sent behind what was received
  held_behind : (v : Known T) (items : List T) → v.pushes ≡ true → v.pops ≡ true → Holds v items → v.received ++ items ≡ v.sent
  held_behind v items may_push may_pop holds = ap (λ l. l ++ items) (holds.pops may_pop) ∙ sym holds.in_order ∙ sym (holds.pushes may_push)

  pub whole : (v : Known T) (items : List T) → v.pushes ≡ true → v.pops ≡ true → Holds v items → IsPrefix v.received v.sent
  whole v items may_push may_pop holds = (items, held_behind v items may_push may_pop holds)

  -- what a pop by a pass that may push too leaves of what is known
  pub still_whole : (v w : Known T) (result : Option T) → v.pushes ≡ true → v.pops ≡ true → IsPrefix v.received v.sent
      → MatchOption result ((w ≡ v) × Held 0 (Holds v)) (λ item. AddsReceived v item w) → (w.pushes ≡ true) × (w.pops ≡ true) × IsPrefix w.received w.sent
  still_whole v w None may_push may_pop before (same, _) = subst (λ (u : Known T). (u.pushes ≡ true) × (u.pops ≡ true) × IsPrefix u.received u.sent) (sym same) (may_push, may_pop, before)
  still_whole v w (Some item) may_push may_pop before (is, (items, holds)) =
      subst (λ (u : Known T). (u.pushes ≡ true) × (u.pops ≡ true) × IsPrefix u.received u.sent) (sym is)
      (may_push, may_pop, (items, append_assoc v.received (item ∷ []) items ∙ held_behind v (item ∷ items) may_push may_pop holds))

  -- such a pop finds nothing exactly where all that was sent was received
  pub none_left : (v w : Known T) (result : Option T) → v.pushes ≡ true → v.pops ≡ true
      → MatchOption result ((w ≡ v) × Held 0 (Holds v)) (λ item. AddsReceived v item w) → IsNone result ↔ (v.received ≡ v.sent)
  none_left v w None may_push may_pop (_, ([], _, holds)) = ((λ _. sym (append-nil v.received) ∙ held_behind v [] may_push may_pop holds), λ _. refl)
  none_left v w None may_push may_pop (_, (x ∷ xs, n, _)) = absurd (omega (arith, n))
  none_left v w (Some item) may_push may_pop (_, (items, holds)) = (
    (λ none. absurd (true≢false none)),
    λ all. let n : length v.received + suc (length items) ≡ length v.received = sym (length-append v.received (item ∷ items)) ∙ ap length (held_behind v (item ∷ items) may_push may_pop holds ∙ sym all) in
        absurd (omega (arith, n)),
  )

  -- a pass that has popped whatever it has pushed finds a queue of one place empty
  pub never_full : (v : Known T) (items : List T) → v ≡ known true true v.received v.received → length items ≡ 1 → Holds v items → ⊥
  never_full v items is one holds =
      let same : v.received ≡ v.received ++ items = sym (ap (λ (y : Known T). y.sent) is) ∙ holds.pushes (ap (λ (y : Known T). y.pushes) is) ∙ holds.in_order
      ∙ ap (λ l. l ++ items) (sym (holds.pops (ap (λ (y : Known T). y.pops) is))) in
      let longer : length v.received ≡ length v.received + length items = ap length same ∙ length-append v.received items in
      omega (arith, longer, one)
