use Rattle.std.proofs.Common.{arith}
use Rattle.std.proofs.lemmas.List.{take_rest}
use Rattle.bq_report.proofs.MapLemmas.{left_order, left_times, within_runs}
use Rattle.bq_report.proofs.map_row.not_over.Goals as goal

pub offset_bounds-runs-over : goal.offset_bounds-runs-over
offset_bounds-runs-over c = let short = within_runs c.args.runs.now c.args.at c.over.result c.over.ensures in omega (arith, short)

pub slice_bounds-result-count : goal.slice_bounds-result-count
slice_bounds-result-count c = let short = within_runs c.args.runs.now c.args.at c.over.result c.over.ensures in omega (arith, short)

pub slice_bounds-result-start : goal.slice_bounds-result-start
slice_bounds-result-start c = let short = within_runs c.args.runs.now c.args.at c.over.result c.over.ensures in omega (arith, short)

pub returns-clause-order : goal.returns-clause-order
returns-clause-order c = rw (take_rest c.args.runs.now c.over.result) (left_order c.args.runs.now c.over.result c.requires)

pub returns-clause-times : goal.returns-clause-times
returns-clause-times c = rw (take_rest c.args.runs.now c.over.result) (left_times c.args.runs.now c.args.at c.over.result c.over.ensures)
