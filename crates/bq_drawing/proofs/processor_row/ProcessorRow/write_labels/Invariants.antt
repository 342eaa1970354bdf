use Rattle.std.proofs.Common.{◌≡◌, ◌++◌, drop}
use Rattle.std.specs.Prelude.{flat_map, string_bytes}
use Rattle.bq_drawing.specs.Frames.{picture_setting}
use Rattle.bq_drawing.specs.Shapes.{label_text}
use Rattle.bq_drawing.proofs.processor_row.ProcessorRow.write_labels.Given as goal

-- the names upon the runs that are left complete the text
abbrev pub invariant-loop-run : goal.invariant-loop-run
invariant-loop-run l =
    string_bytes l.labels ++ flat_map (label_text (picture_setting l.frame) l.top) (drop l.run-index l.self.runs)
    ≡ string_bytes l.initial.labels ++ flat_map (label_text (picture_setting l.frame) l.top) l.self.runs
