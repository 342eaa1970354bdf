use Rattle.bq_schedule.proofs.PercentileLemmas.{at_place, none_at_rank}
use Rattle.bq_schedule.proofs.latencies.Latencies.percentile.Goals as goal

pub returns-clause-none : goal.returns-clause-none
returns-clause-none c = rw c.at_rank.ensures (none_at_rank c.args.percent c.args.self.now c.sort.new.self c.sort.ensures.kept)

pub returns-clause-value : goal.returns-clause-value
returns-clause-value c = rw c.at_rank.ensures (at_place c.sort.new.self _)
