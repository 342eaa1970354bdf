use Rattle.std.proofs.Common.{[], arith, refl}
use Rattle.std.proofs.lemmas.List.{take_all}
use Rattle.bq_report.proofs.LegendLemmas.{notes_next, notes_none, notes_of}
use Rattle.bq_report.proofs.legend.Legend.note_columns.Goals as goal

pub loop-column-init : goal.loop-column-init
loop-column-init c = λ e. notes_none e c.args.self.now

pub loop-column-preserved : goal.loop-column-preserved
loop-column-preserved c = λ e.
    notes_next e c.args.columns.now c.loop-column.column-index _ c.args.self.now c.loop-column.self c.note_column.new.self
    c.loop-column-test.true (c.loop-column.invariant e) (c.in_ok-note_column.ensures e)

pub returns : goal.returns
returns c = λ e.
    notes_of e [] [] _ c.args.columns.now c.args.self.now c.loop-column.self refl
    (take_all c.loop-column.column-index c.args.columns.now (omega (arith, c.loop-column-test.false))) (c.loop-column.invariant e)
