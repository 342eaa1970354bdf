use Rattle.std.proofs.Common.{[], arith, refl}
use Rattle.std.proofs.lemmas.List.{take_all}
use Rattle.bq_report.proofs.LegendLemmas.{notes_none, notes_of, runs_next}
use Rattle.bq_report.proofs.legend.Legend.note_runs.Goals as goal

pub loop-run-init : goal.loop-run-init
loop-run-init c = notes_none c.args.extent.now c.args.self.now

pub loop-run-preserved : goal.loop-run-preserved
loop-run-preserved c =
    runs_next c.args.extent.now c.args.runs.now c.loop-run.run-index _ c.args.self.now c.loop-run.self c.note_run.new.self
    c.loop-run-test.true c.loop-run.invariant c.in_ok-note_run.ensures

pub returns : goal.returns
returns c =
    notes_of c.args.extent.now _ c.args.runs.now [] [] c.args.self.now c.loop-run.self
    (take_all c.loop-run.run-index c.args.runs.now (omega (arith, c.loop-run-test.false))) refl c.loop-run.invariant
