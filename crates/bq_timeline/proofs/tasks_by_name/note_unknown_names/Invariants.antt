use Rattle.std.proofs.Common.{◌≡◌, ◌++◌, take}
use Rattle.std.specs.Prelude.{string_bytes}
use Rattle.bq_timeline.specs.TasksByName.{unknown_name_notes}
use Rattle.bq_timeline.proofs.tasks_by_name.note_unknown_names.Given as goal

-- the notes on this many names
abbrev pub invariant-loop-name : goal.invariant-loop-name
invariant-loop-name l = string_bytes l.notes ≡ string_bytes l.initial.notes ++ unknown_name_notes l.names (take l.name-index l.asked)
