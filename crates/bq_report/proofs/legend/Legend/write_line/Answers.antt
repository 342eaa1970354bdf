use Rattle.std.specs.Prelude.{codes, string_bytes}
use Rattle.std.proofs.lemmas.Result.{on_ok_weaker}
use Rattle.bq_report.proofs.DrawnLemmas.{pushed}
use Rattle.bq_report.proofs.LegendLemmas.{line_added}
use Rattle.bq_report.proofs.legend.Legend.write_line.Goals as goal

pub returns : goal.returns
returns c =
    on_ok_weaker c.push_str.result
    (λ ended extent runs columns known.
    line_added c.args.names.now columns c.args.place c.args.task _ _ _ _ c.in_ok-write_task.ensures
    (c.in_ok-write_note.ensures extent runs columns known) ended)
    (pushed c.push_str.result (string_bytes c.write_note.new.text) (codes "\n") (string_bytes c.push_str.new.self)
    c.push_str.ensures.bytes)
