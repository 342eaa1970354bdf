use Rattle.bq_report.proofs.MapLemmas.{begun_times}
use Rattle.bq_report.proofs.map_row.begun_before.Goals as goal

pub returns : goal.returns
returns c = λ from. begun_times c.args.runs.now c.args.to c.begun.result c.begun.ensures c.requires from
