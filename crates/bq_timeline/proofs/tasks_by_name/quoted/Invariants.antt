use Rattle.std.proofs.Common.{◌≡◌, map, string_bytes}
use Rattle.std.proofs.Math.Utf8.{encodes}
use Rattle.bq_timeline.specs.TasksByName.{shown_letter}
use Rattle.bq_timeline.proofs.tasks_by_name.quoted.Given as goal

-- what stands there is shown
abbrev pub invariant-loop-letter : goal.invariant-loop-letter
invariant-loop-letter l = string_bytes l.text ≡ encodes (map shown_letter l.yielded)
