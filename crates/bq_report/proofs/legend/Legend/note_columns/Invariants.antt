use Rattle.std.proofs.Common.{[], take}
use Rattle.bq_report.specs.declared.extent.Extent.{Extent}
use Rattle.bq_report.specs.Legends.{NotesMore}
use Rattle.bq_report.proofs.legend.Legend.note_columns.Given as goal

-- the columns before this one are noted
abbrev pub invariant-loop-column : goal.invariant-loop-column
invariant-loop-column l = (e : Extent) → NotesMore e [] (take l.column-index l.columns) l.initial.self l.self
