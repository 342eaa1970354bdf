use Rattle.std.proofs.Common.{rules}
use Rattle.std.proofs.lemmas.List.Sorted.{IsNonDecreasingBy-from_sort_by_key}
use Rattle.bq_schedule.specs.declared.slice.Slice.{Slice}
use Rattle.bq_report.proofs.map_row.sort.Goals as goal

pub returns-clause-order : goal.returns-clause-order
returns-clause-order c =
    IsNonDecreasingBy-from_sort_by_key (λ (run : Slice). run.from) _ c.sort_unstable_by_key.ensures.sorted
    (λ a r q k. search rules)
