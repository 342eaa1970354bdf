use Rattle.std.proofs.Common.{ap, ◌∙◌}
use Rattle.bq_schedule.specs.WakeLatencies.{latencies_of}
use Rattle.bq_schedule.specs.declared.percentiles.Percentiles.{Percentiles}
use Rattle.bq_comparison.specs.Values.{percentile_value}
use Rattle.bq_comparison.proofs.LatencyLemmas.{reordered}
use Rattle.bq_comparison.proofs.values.latency_value.Goals as goal

pub returns-clause-value : goal.returns-clause-value
returns-clause-value c = (
  latencies_of c.percentiles.new.self c.args.task,
  c.percentiles.ensures.kept,
  c.percentiles.ensures.sorted,
  c.percentile_value.ensures ∙ ap (λ (p : Percentiles). percentile_value p c.args.figure) c.percentiles.ensures.values,
)

pub returns-clause-kept : goal.returns-clause-kept
returns-clause-kept c = reordered c.args.task _ _ c.percentiles.ensures.kept c.percentiles.ensures.others
