use Rattle.std.proofs.Common.{ap, ◌∙◌, sym, subst, List, ℕ}
use Rattle.bq_workload.specs.declared.periods.Periods.{Periods}
use Rattle.bq_workload.specs.declared.roster.Roster.{Roster}
use Rattle.bq_workload.specs.Accounts.{accounts_of, of_task}
use Rattle.bq_workload.specs.TaskProgress.{progress_woken}
use Rattle.bq_workload.specs.Next.{QueueAgrees}
use Rattle.bq_workload.proofs.roster.Roster.wake.Goals as goal
use Rattle.bq_workload.proofs.RosterAgreesLemmas.{same-accounts}
use Rattle.bq_workload.proofs.TaskAgreesLemmas.{woken-agrees}

pub returns-clause-agrees : goal.returns-clause-agrees
returns-clause-agrees c h =
    let old : Roster = c.args.self.now in
    let mid : Roster = c.drop_plan.new.self in
    let new : Roster = c.rouse.new.self in
    let plan = c.in_ok-drop_plan.ensures in
    let here = same-accounts _ _ _ _ (ap (λ v. v.items) plan.by_task) (ap (λ v. v.items) plan.by_processor) in
    let end = old.periods.end in
    subst (λ (p : Periods). QueueAgrees p.end (accounts_of new) new.event_queue) (sym (c.rouse.ensures.periods ∙ plan.periods))
    (subst (λ (l : List ℕ). QueueAgrees end (accounts_of new) l) (sym c.rouse.ensures.event_queue)
    (woken-agrees end c.args.task (accounts_of old) (accounts_of new) old.event_queue mid.event_queue
    c.in_ok-find_at_rest.ensures.rests (c.rouse.ensures.accounts ∙ ap (of_task progress_woken c.args.task) here) plan.dropped h))
