use Rattle.std.proofs.Common.{◌∙◌, sym}
use Rattle.std.proofs.lemmas.Result.{on_ok_weaker}
use Rattle.bq_report.proofs.ReportLemmas.{part_there}
use Rattle.bq_report.proofs.legend.Legend.write_line_if.Goals as goal

pub returns : goal.returns
returns c =
    on_ok_weaker c.write_line.result
    (λ line extent runs columns known. (
      (line extent runs columns known).0,
      part_there _ _ _ ((known.ran c.args.task).0 (sym c.contains.ensures ∙ c.if-not-contains.false))
          (line extent runs columns known).1,
      (line extent runs columns known).2,
    )) c.write_line.ensures
