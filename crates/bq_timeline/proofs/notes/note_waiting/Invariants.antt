use Rattle.std.proofs.Common.{◌≡◌, ◌++◌}
use Rattle.std.specs.Prelude.{string_bytes}
use Rattle.bq_timeline.specs.Notes.{waiting_notes}
use Rattle.bq_timeline.proofs.notes.note_waiting.Given as goal

-- the notes on the tasks before this one
abbrev pub invariant-loop-task : goal.invariant-loop-task
invariant-loop-task l = string_bytes l.notes ≡ string_bytes l.initial.notes ++ waiting_notes l.schedule l.task
