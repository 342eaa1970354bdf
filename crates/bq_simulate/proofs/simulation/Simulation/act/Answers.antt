use Rattle.std.proofs.Common.{List, ◌++◌, ap}
use Rattle.std.proofs.lemmas.Result.{on_ok_weaker}
use Rattle.bq_workload.specs.declared.due.Due.TheVariants.{End}
use Rattle.bq_simulate.specs.Actions.{aim_of}
use Rattle.bq_simulate.specs.Deeds.{Deed}
use Rattle.bq_simulate.specs.Steps.{FollowsAction, IsAct, DeedsMeet}
use Rattle.bq_simulate.proofs.DeedLemmas.{GoesOnBy-join, GoesOnBy-unreported}
use Rattle.bq_simulate.proofs.NextActionLemmas.{can_follow}
use Rattle.bq_simulate.proofs.simulation.Simulation.act.Goals as goal

pub returns-clause-goes_on : goal.returns-clause-goes_on
returns-clause-goes_on g c =
    let kinds = c.args.workload.now.tasks.items in
    let takes = g.S.Sink.takes in
    let processor = c.args.processor in
    let now = c.args.now in
    let doing = c.in_ok-doing.doing in
    let aim = aim_of kinds doing.progress_before doing.action in
    let acts = IsAct processor doing.task now doing.action aim in
    let follows = FollowsAction doing.action aim processor now in
    let meets : (xs ys : List Deed) → acts xs → follows ys → DeedsMeet (End processor) now (xs ++ ys) =
    λ xs ys act follow. (doing.task, doing.action, aim, ys, ap (λ (l : List Deed). l ++ ys) act, follow) in
    on_ok_weaker c.follow.result (λ h.
    GoesOnBy-join takes kinds acts follows (DeedsMeet (End processor) now) meets _ _ _ _ _ _
    (GoesOnBy-unreported takes kinds acts _ _ _ c.in_ok-doing.ensures.acts)
    (h kinds)) c.follow.ensures.goes_on

-- what it has taken up can follow
pub returns-clause-ends : goal.returns-clause-ends
returns-clause-ends g c = λ well next.
    let w = c.args.workload.now in
    let doing = c.in_ok-doing.doing in
    let processor = c.args.processor in
    let now = c.args.now in
    let mid = c.take_action.new.self in
    let goes = c.in_ok-doing.ensures.acts well.drawn well.streams well.firsts in
    let follows = can_follow doing.action w doing.progress_before now processor doing.task c.args.self.now mid well goes in
    c.follow.ensures.ends w follows
