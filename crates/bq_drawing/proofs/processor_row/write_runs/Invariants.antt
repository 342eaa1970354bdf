use Rattle.std.proofs.Common.{◌≡◌, ◌++◌, drop}
use Rattle.std.specs.Prelude.{flat_map, string_bytes}
use Rattle.bq_drawing.specs.Frames.{picture_setting}
use Rattle.bq_drawing.specs.Shapes.{drawn_run_text}
use Rattle.bq_drawing.proofs.processor_row.write_runs.Given as goal

-- the runs that are left complete the text
abbrev pub invariant-loop-run : goal.invariant-loop-run
invariant-loop-run l =
    string_bytes l.text ++ flat_map (drawn_run_text (picture_setting l.frame) l.top) (drop l.run-index l.runs)
    ≡ string_bytes l.initial.text ++ flat_map (drawn_run_text (picture_setting l.frame) l.top) l.runs
