use Rattle.std.proofs.Common.{◌≤◌, sym, ◌∙◌, arith}
use Rattle.bq_policy_run.proofs.ShownLemmas.{shows_one, shows_none}
use Rattle.bq_policy_run.proofs.permitted.shows_task.Goals as goal

pub returns-then-from-r0 : goal.returns-then-from-r0
returns-then-from-r0 c =
    shows_one c.args.context.now c.args.r0 c.number_at.result c.min-shown.result c.loop-place.place c.number_at-id.result
    c.number_at.ensures c.min-shown.ensures c.loop-place-test.true c.number_at-id.ensures (sym c.from.ensures ∙ c.if-from-r0.true)

pub returns : goal.returns
returns c =
    let last : c.min-shown.result ≤ c.loop-place.place = omega arith in
    shows_none c.args.context.now c.args.r0 c.number_at.result c.min-shown.result c.loop-place.place
    c.number_at.ensures c.min-shown.ensures last c.loop-place.invariant
