-- The verdict, by the first case that applies.
use Rattle.std.proofs.Common.{◌≡◌, true, false, ◌&&◌}
use Rattle.rt_filter.specs.declared.subscription.Subscription.{Subscription}
use Rattle.rt_catalog.specs.declared.catalog.Catalog.{Catalog}
use Rattle.rt_catalog.specs.Access.{is_secured}
use Rattle.rt_change.specs.declared.change.Change.{Change}
use Rattle.rt_change.specs.declared.decision.Verdict.TheVariants.{Deliver, Error400, Error401, Denied}
use Rattle.rt_change.specs.declared.decision.Denial.TheVariants.{Event, Filter}
use Rattle.rt_change.specs.Verdicts.{Tables, asks_for, lacks_key, hides_key, passes_filter}
use Rattle.rt_change.specs.Verdicts.{writes, judged_row, verdict_of}

module _ (c : Catalog) (tables : Tables) (s : Subscription) (ch : Change) where
  pub event : asks_for s.wanted ch.verb ≡ false → verdict_of c tables s ch ≡ Denied Event
  unfolding verdict_of
  event e = rw e

  module _ (asks : asks_for s.wanted ch.verb ≡ true) where
    pub no_key : lacks_key ch ≡ true → verdict_of c tables s ch ≡ Error400
    unfolding verdict_of
    no_key e = rw (asks, e)

    module _ (has : lacks_key ch ≡ false) where
      pub hidden : hides_key c s.role ch ≡ true → verdict_of c tables s ch ≡ Error401
      unfolding verdict_of
      hidden e = rw (asks, has, e)

      module _ (shown : hides_key c s.role ch ≡ false) where
        pub filtered : passes_filter s ch ≡ false → verdict_of c tables s ch ≡ Denied Filter
        unfolding verdict_of
        filtered e = rw (asks, has, shown, e)

        module _ (passes : passes_filter s ch ≡ true) where
          pub secured : (writes ch.verb && is_secured c ch.table) ≡ true
              → verdict_of c tables s ch ≡ judged_row c tables s ch
          unfolding verdict_of
          secured e = rw (asks, has, shown, passes, e)

          pub open_to_all : (writes ch.verb && is_secured c ch.table) ≡ false → verdict_of c tables s ch ≡ Deliver
          unfolding verdict_of
          open_to_all e = rw (asks, has, shown, passes, e)
