use Rattle.std.proofs.Common.{inr, sym, subst}
use Rattle.std.proofs.lemmas.Result.{IfErr-weaker, IfOk-weaker}
use Rattle.bq_workload.specs.declared.periods.Periods.{Periods}
use Rattle.bq_workload.specs.declared.roster.Roster.{Roster}
use Rattle.bq_workload.specs.Accounts.{Accounts, accounts_of}
use Rattle.bq_workload.specs.Next.{QueueAgrees}
use Rattle.bq_workload.specs.Strays.{NoneIsDone}
use Rattle.bq_workload.proofs.roster.Roster.end_phase.Goals as goal
use Rattle.bq_workload.proofs.TaskAgreesLemmas.{done-agrees}

pub returns-clause-agrees : goal.returns-clause-agrees
returns-clause-agrees c =
    let old : Roster = c.args.self.now in
    let new : Roster = c.charge.new.self in
    let charge = c.in_ok-charge.ensures in
    let since = charge.since in
    IfOk-weaker c.done_at.result _ _
    (λ ended done h.
    subst (λ (k : Periods). QueueAgrees k.end (accounts_of new) new.event_queue) (sym charge.periods)
    (done-agrees old.periods.end c.args.processor c.args.now ended.0 since.0 ended.1 (accounts_of old) (accounts_of new)
    old.event_queue new.event_queue since.1 since.2 c.ranges.now.fits charge.accounts charge.event_queue done h))
    c.done_at.ensures.done

pub returns-clause-stray : goal.returns-clause-stray
returns-clause-stray c =
    IfErr-weaker c.done_at.result _ _
    (λ why none. inr (subst (λ (a : Accounts). NoneIsDone c.args.processor a) c.in_ok-charge.ensures.accounts none))
    c.done_at.ensures.stray
