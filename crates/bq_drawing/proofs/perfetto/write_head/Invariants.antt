use Rattle.std.proofs.Common.{◌≡◌, ◌≤◌}
use Rattle.std.specs.Prelude.{string_bytes}
use Rattle.bq_report.specs.Reports.{GrowsByPart, AreParts}
use Rattle.bq_drawing.specs.Events.{tracks_text}
use Rattle.bq_drawing.proofs.perfetto.write_head.Given as goal

-- the tracks of the processors before this one
abbrev pub invariant-loop-processor : goal.invariant-loop-processor
invariant-loop-processor l = record {
  within : l.processor ≤ l.fn.processors;
  tracks : GrowsByPart (AreParts (λ p own. own ≡ tracks_text p) l.processor) (string_bytes l.initial.text) (string_bytes l.text);
}
