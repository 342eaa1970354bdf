use Rattle.std.specs.String.{string_bytes}
use Rattle.bq_policy_run.proofs.TraceLemmas.{first_and_rest, one_more, reported_all}
use Rattle.bq_policy_run.proofs.traces.steps_text.Goals as goal

pub loop-rest-preserved : goal.loop-rest-preserved
loop-rest-preserved c =
    one_more c.args.verified.now c.args.snapshots.now c.loop-rest.rest.now _ _ (string_bytes c.loop-rest.text)
    (string_bytes c.in_ok-place.place) (string_bytes c.in_ok-step.step) (string_bytes c.write.new.self)
    (first_and_rest c.loop-rest.rest.now _ c.in-len1-up.len_at_least) c.loop-rest.invariant c.in_ok-step.ensures
    c.in_ok-write.ensures.bytes

pub returns : goal.returns
returns c =
    reported_all c.args.verified.now c.args.snapshots.now c.loop-rest.rest.now (string_bytes c.loop-rest.text)
    c.in_default.len_below c.loop-rest.invariant
