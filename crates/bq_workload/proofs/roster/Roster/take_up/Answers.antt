use Rattle.std.proofs.Common.{ap, ◌∙◌, sym, subst, List, ℕ}
use Rattle.std.specs.Prelude.{slice_get}
use Rattle.std.proofs.lemmas.Result.{on_ok_weaker}
use Rattle.bq_workload.specs.declared.processor_state.ProcessorState.{ProcessorState}
use Rattle.bq_workload.specs.declared.periods.Periods.{Periods}
use Rattle.bq_workload.specs.declared.roster.Roster.{Roster}
use Rattle.bq_workload.specs.Accounts.{accounts_of}
use Rattle.bq_workload.specs.Next.{QueueAgrees}
use Rattle.bq_workload.specs.Plans.{PlansProgress}
use Rattle.bq_workload.proofs.roster.Roster.take_up.Goals as goal
use Rattle.bq_workload.proofs.TaskAgreesLemmas.{taken_up-agrees}

pub returns-clause-agrees : goal.returns-clause-agrees
returns-clause-agrees c =
    let old : Roster = c.args.self.now in
    let mid : Roster = c.set_progress.new.self in
    let new : Roster = c.plan_progress.new.self in
    let set = c.in_ok-set_progress.ensures in
    let plan = c.plan_progress.ensures in
    let end = old.periods.end in
    let planned : (processor_state : ProcessorState)
    → PlansProgress mid.periods.end c.args.processor c.args.task processor_state c.args.progress mid.event_queue new.event_queue
    → PlansProgress end c.args.processor c.args.task processor_state c.args.progress old.event_queue new.event_queue =
    λ processor_state p.
    subst (λ (l : List ℕ). PlansProgress end c.args.processor c.args.task processor_state c.args.progress l new.event_queue)
    set.event_queue (subst
    (λ (k : Periods). PlansProgress k.end c.args.processor c.args.task processor_state c.args.progress mid.event_queue new.event_queue)
    set.periods p) in
    on_ok_weaker c.plan_progress.result
    (λ w h.
    subst (λ (k : Periods). QueueAgrees k.end (accounts_of new) new.event_queue) (sym (plan.periods ∙ set.periods))
    (taken_up-agrees end c.args.processor c.args.task w.0 c.args.progress (accounts_of old) (accounts_of new)
    old.event_queue new.event_queue (ap (λ v. slice_get v.items c.args.processor) (sym set.by_processor) ∙ w.1)
    (ap (λ v. v.items) plan.by_task ∙ set.by_task) (ap (λ v. v.items) (plan.by_processor ∙ set.by_processor))
    (planned w.0 w.2) h)) plan.plans
