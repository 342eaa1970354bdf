use Rattle.bq_policy_run.proofs.OftenLemmas.{when_none, left_after}
use Rattle.bq_policy_run.proofs.one_run.run_often.Goals as goal

pub returns-in_err-run_once-clause-left : goal.returns-in_err-run_once-clause-left
returns-in_err-run_once-clause-left c =
    when_none c.from_residual.result
    (left_after c.args.verified.now c.args.inputs.now c.loop-done.inputs c.run_once.new.inputs c.loop-done.done
    c.loop-done.invariant.left c.loop-done.invariant.fits c.loop-done.invariant.context c.loop-done.invariant.shapes
    c.in_err-run_once.ensures.none c.in_err-run_once.ensures.left)
