use Rattle.bq_verify.specs.declared.graph_cause.GraphCause.TheVariants.{Jump, NoExit}
use Rattle.bq_verify.proofs.SoundLemmas.{sound_graph}
use Rattle.bq_verify.proofs.GraphLemmas.{most_calls_at, most_calls_are_made}
use Rattle.bq_verify.proofs.program.check_graph.Goals as goal

pub returns-in-Ok-clause-made : goal.returns-in-Ok-clause-made
returns-in-Ok-clause-made c = (
  most_calls_at c.check.new.most,
  most_calls_are_made c.args.slots.now c.check.new.most c.in-Ok.ensures.ok c.in-Ok.ensures.counted
      (sound_graph c.args.slots.now c.requires.whole (c.in-Ok.ensures.ok Jump) (c.in-Ok.ensures.ok NoExit)),
)
