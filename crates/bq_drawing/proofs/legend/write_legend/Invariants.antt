use Rattle.std.proofs.Common.{◌≡◌, ◌++◌, drop}
use Rattle.std.specs.Prelude.{string_bytes}
use Rattle.bq_drawing.specs.Legends.{entries_text}
use Rattle.bq_drawing.specs.Frames.{picture_setting}
use Rattle.bq_drawing.proofs.legend.write_legend.Given as goal

-- the tasks that are left complete the text
abbrev pub invariant-loop-place : goal.invariant-loop-place
invariant-loop-place l =
    string_bytes l.text ++ entries_text (picture_setting l.frame) l.first l.place (drop l.place l.tasks)
    ≡ string_bytes l.initial.text ++ entries_text (picture_setting l.frame) l.first 0 l.tasks
