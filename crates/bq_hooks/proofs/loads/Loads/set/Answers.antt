use Rattle.bq_hooks.proofs.LoadLemmas.{refill_set, refill_past}
use Rattle.bq_hooks.proofs.loads.Loads.set.Goals as goal

pub returns-then-processor-counts : goal.returns-then-processor-counts
returns-then-processor-counts c =
    refill_set c.self.inside.counts.items _ _ _ _ c.as_mut_slice-counts.ensures.value c.self.view_is

pub returns-else-processor-counts : goal.returns-else-processor-counts
returns-else-processor-counts c =
    refill_past c.self.inside.counts.items _ _ _ _ c.as_mut_slice-counts.ensures.value c.self.view_is c.if-processor-counts.false
