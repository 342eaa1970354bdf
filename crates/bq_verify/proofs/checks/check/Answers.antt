use Rattle.bq_verify.proofs.SoundLemmas.{sound_graph}
use Rattle.bq_verify.proofs.checks.check.Goals as goal

pub count_calls-requires-clause-sound : goal.count_calls-requires-clause-sound
count_calls-requires-clause-sound c =
    sound_graph c.args.slots.now c.requires.whole c.in_ok-check_for.ensures.ok c.in_ok-check_for-2.ensures.ok
