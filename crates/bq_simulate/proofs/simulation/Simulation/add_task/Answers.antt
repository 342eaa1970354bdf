use Rattle.std.proofs.Common.{◌≡◌, ◌++◌, ◌∷◌, [], length, refl, ap, ◌∙◌, arith}
use Rattle.rand_pcg.specs.Lcg.{Lcg}
use Rattle.bq_workload.specs.Streams.{stream_of_task}
use Rattle.bq_workload.specs.declared.progress.TaskProgress.{TaskProgress}
use Rattle.bq_workload.specs.declared.roster.Roster.{Roster}
use Rattle.bq_workload.specs.TaskProgress.{fresh_task}
use Rattle.bq_workload.specs.Next.{StaysAgreed}
use Rattle.bq_workload.proofs.RosterAgreesLemmas.{added-agreed}
use Rattle.bq_simulate.proofs.DeedLemmas.{GoesOnUnreported-joins}
use Rattle.bq_simulate.proofs.simulation.Simulation.add_task.Goals as goal

pub returns-in-Ok-clause-goes_on : goal.returns-in-Ok-clause-goes_on
returns-in-Ok-clause-goes_on c =
    let was = c.args.self.now in
    let place : c.args.task ≡ length was.streams.items = grind (arith, c.len.ensures, c.from.ensures, c.if-len-from.false) in
    let stream = c.of_task.ensures ∙ ap (stream_of_task was.seed) place in
    let added = c.in_ok-add.ensures in
    let plan = c.in_ok-plan.ensures in
    let old : Roster = was.roster in
    let mid : Roster = c.add.new.self in
    let new : Roster = c.plan.new.self in
    let progress = c.new.result in
    let agrees : length was.streams.items ≡ length old.by_task.items → StaysAgreed old new =
    λ equal.
    added-agreed c.args.task c.args.start progress old mid new (place ∙ equal)
    (ap (λ (k : TaskProgress). k.task_state) c.new.ensures) (ap (λ (k : TaskProgress). k.timer) c.new.ensures) added.by_task
    added.by_processor added.event_queue added.periods plan.planned plan.by_task plan.by_processor plan.periods in
    λ kinds of first equal.
    GoesOnUnreported-joins kinds _ _ c.args.kind c.args.home (agrees equal) (plan.periods ∙ added.periods) refl refl refl
    (ap (λ l. l.items) plan.by_task ∙ added.by_task
    ∙ ap (λ (k : TaskProgress). was.roster.by_task.items ++ k ∷ []) (c.new.ensures ∙ ap (fresh_task c.args.kind c.args.home) first))
    (ap (λ l. l.items) (plan.by_processor ∙ added.by_processor))
    (c.in-Ok.ensures.items ∙ ap (λ (g : Lcg). was.streams.items ++ g ∷ []) stream) of
