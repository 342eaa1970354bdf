use Rattle.std.specs.Prelude.{codes, string_bytes}
use Rattle.std.proofs.Common.{refl, ◌∙◌, sym, true≢false}
use Rattle.std.proofs.lemmas.Result.{on_ok_weaker}
use Rattle.bq_report.proofs.DrawnLemmas.{pushed}
use Rattle.bq_report.proofs.ReportLemmas.{adds_part}
use Rattle.bq_report.proofs.legend.Legend.write_note.Goals as goal

pub returns : goal.returns
returns c =
    on_ok_weaker c.push_str.result
    (λ more extent runs columns known.
    adds_part _ _ (string_bytes c.args.text.now) (string_bytes c.push_str.new.self) (codes "  (in no column)")
    (λ stands. true≢false (sym ((known.tasks c.args.task).1 stands) ∙ sym c.contains.ensures ∙ c.if-contains.false)) refl more)
    (pushed c.push_str.result (string_bytes c.args.text.now) (codes "  (in no column)") (string_bytes c.push_str.new.self)
    c.push_str.ensures.bytes)
