use Rattle.std.proofs.lemmas.Result.{on_ok_weaker}
use Rattle.bq_report.proofs.LegendLemmas.{legend_added}
use Rattle.bq_report.proofs.legend.Legend.write.Goals as goal

pub returns : goal.returns
unfolding lib.Utf8.encode
returns c =
    on_ok_weaker c.write_lines.result
    (λ lines runs columns known.
    legend_added c.args.names.now c.args.admitted.now c.tasks.result.now c.args.grid.now c.for_step-unit.result _ _ _ _ _ runs columns
    c.tasks.ensures c.for_step-unit.ensures c.in_ok-write.ensures.bytes (c.in_ok-write_hidden.ensures c.args.grid.now.extent runs columns known)
    c.in_ok-push_str.ensures.bytes (lines c.args.grid.now.extent runs columns known)) c.write_lines.ensures
