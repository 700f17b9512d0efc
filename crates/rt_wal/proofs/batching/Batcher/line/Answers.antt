use Rattle.std.proofs.Common.{List, ℕ, subst, sym, ◌∙◌}
use Rattle.rt_wal.specs.Batches.{taken}
use Rattle.rt_wal.specs.Records.{IsRecordText}
use Rattle.rt_wal.proofs.Cuts.{keeps_cut}
use Rattle.rt_wal.proofs.batching.Batcher.line.Goals as goal

pub returns-clause-takes : goal.returns-clause-takes
returns-clause-takes c =
    let is = subst (λ (text : List ℕ). IsRecordText text c.in_ok-entry.entry) c.content_of.ensures c.in_ok-entry.ensures in
    taken c.in_ok-entry.entry (sym c.is_blank.ensures ∙ c.if-is_blank.false) is c.in_ok-take.ensures.next

pub returns-clause-cut : goal.returns-clause-cut
returns-clause-cut c = λ lines given has.
    keeps_cut lines given c.args.self.now c.take.new.self c.args.line.now c.in_ok-take.field-0 has (returns-clause-takes c)
