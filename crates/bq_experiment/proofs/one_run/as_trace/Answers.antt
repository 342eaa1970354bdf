-- The writer of the trace has the images of the policies.
use Rattle.std.proofs.Common.{ap, ◌∙◌}
use Rattle.bq_simulate.specs.Texts.{image_at}
use Rattle.bq_simulate.specs.declared.trace_writer.TraceWriter.{TraceWriter}
use Rattle.bq_experiment.proofs.one_run.as_trace.Goals as goal

pub write_trace-requires-clause-images : goal.write_trace-requires-clause-images
write_trace-requires-clause-images g c =
    ap (λ (s : TraceWriter). image_at s.images) c.sink_of_run-run.ensures.sink
    ∙ ap image_at c.new-writer.ensures.images ∙ c.images.ensures
