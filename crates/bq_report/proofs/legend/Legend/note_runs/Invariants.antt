use Rattle.std.proofs.Common.{[], take}
use Rattle.bq_report.specs.Legends.{NotesMore}
use Rattle.bq_report.proofs.legend.Legend.note_runs.Given as goal

-- the runs before this one are noted
abbrev pub invariant-loop-run : goal.invariant-loop-run
invariant-loop-run l = NotesMore l.extent (take l.run-index l.runs) [] l.initial.self l.self
