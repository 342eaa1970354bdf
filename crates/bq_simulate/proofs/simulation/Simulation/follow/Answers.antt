use Rattle.std.proofs.Common.{◌≡◌, None, Some, refl, ap, ◌∙◌}
use Rattle.std.proofs.lemmas.Result.{on_ok_weaker}
use Rattle.bq_workload.specs.declared.action.Action.{Action}
use Rattle.bq_workload.specs.declared.action.Action.TheVariants.{Run, Sleep, Wait, Wake}
use Rattle.bq_simulate.specs.Steps.{FollowsAction}
use Rattle.bq_simulate.proofs.DeedLemmas.{FollowsAction-same, GoesOnBy-same, OnlyPlansOrCounts-here}
use Rattle.bq_simulate.proofs.simulation.Simulation.follow.Goals as goal

pub returns-in-Some-Run-clause-goes_on : goal.returns-in-Some-Run-clause-goes_on
returns-in-Some-Run-clause-goes_on g c =
    let takes = g.S.Sink.takes in
    let arm = c.in-Some-Run in
    let action = Some (Run arm.field-0-0) in
    let is : c.args.doing.now.action ≡ action = arm.is ∙ ap (λ (a : Action). Some a) (rw arm.is at arm.field-0-is) in
    let processor = c.args.processor in
    let now = c.args.now in
    λ kinds.
    FollowsAction-same takes kinds c.args.doing.now.progress_before _ action processor now _ _ _ _ is
    (GoesOnBy-same takes (FollowsAction action None processor now) refl _ _ _ (OnlyPlansOrCounts-here _) kinds)

pub returns-in-Some-Sleep-clause-goes_on : goal.returns-in-Some-Sleep-clause-goes_on
returns-in-Some-Sleep-clause-goes_on g c =
    let arm = c.in-Some-Sleep in
    let action = Some (Sleep arm.field-0-0) in
    let is : c.args.doing.now.action ≡ action = arm.is ∙ ap (λ (a : Action). Some a) (rw arm.is at arm.field-0-is) in
    on_ok_weaker c.block.result
    (λ h kinds. FollowsAction-same g.S.Sink.takes kinds c.args.doing.now.progress_before _ action c.args.processor c.args.now _ _ _ _ is (h kinds))
    c.block.ensures.goes_on

pub returns-in-Some-Wait-clause-goes_on : goal.returns-in-Some-Wait-clause-goes_on
returns-in-Some-Wait-clause-goes_on g c =
    let is : c.args.doing.now.action ≡ Some Wait =
    c.in-Some-Wait.is ∙ ap (λ (a : Action). Some a) (rw c.in-Some-Wait.is at c.in-Some-Wait.field-0-is) in
    on_ok_weaker c.block-in-Some-Wait.result
    (λ h kinds. FollowsAction-same g.S.Sink.takes kinds c.args.doing.now.progress_before _ (Some Wait) c.args.processor c.args.now _ _ _ _ is (h kinds))
    c.block-in-Some-Wait.ensures.goes_on

pub returns-in-Some-Wake-clause-goes_on : goal.returns-in-Some-Wake-clause-goes_on
returns-in-Some-Wake-clause-goes_on g c =
    let action = Some (Wake c.in-Some-Wake.kind) in
    let is : c.args.doing.now.action ≡ action =
    c.in-Some-Wake.is ∙ ap (λ (a : Action). Some a) (rw c.in-Some-Wake.is at c.in-Some-Wake.field-0-is) in
    on_ok_weaker c.wake_next.result
    (λ h kinds. FollowsAction-same g.S.Sink.takes kinds c.args.doing.now.progress_before _ action c.args.processor c.args.now _ _ _ _ is (h kinds))
    c.wake_next.ensures.goes_on

pub returns-in-None-clause-goes_on : goal.returns-in-None-clause-goes_on
returns-in-None-clause-goes_on g c =
    on_ok_weaker c.block-in-None.result
    (λ h kinds.
    FollowsAction-same g.S.Sink.takes kinds c.args.doing.now.progress_before _ None c.args.processor c.args.now _ _ _ _
    c.in-None.is (h kinds)) c.block-in-None.ensures.goes_on
