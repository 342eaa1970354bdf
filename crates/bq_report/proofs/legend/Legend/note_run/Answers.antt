use Rattle.std.proofs.Common.{arith, refl}
use Rattle.bq_report.specs.Longest.{time_between}
use Rattle.bq_report.proofs.LegendLemmas.{notes_run}
use Rattle.bq_report.proofs.legend.Legend.note_run.Goals as goal

pub returns-in_ok-insert : goal.returns-in_ok-insert
returns-in_ok-insert c =
    notes_run c.args.extent.now c.args.self.now
    (record { ran = c.insert.new.self; tasks = c.args.self.now.tasks; has_hidden = c.args.self.now.has_hidden }) c.args.run.now
    (omega (arith, c.time_between.ensures, c.if-time_between-gt0.true)) c.in_ok-insert.ensures.updates.0 refl refl
