-- Each event of a processor does what some steps do.
use Rattle.std.proofs.Common.{◌≡◌, ℕ, Bool, true, false, cond, eqb, List, [], ◌∷◌, Option, None, Some, refl, ap, sym, ◌∙◌, eqb-true, eq-eqb}
use Rattle.bq_disc.specs.Tasks.{Task, find_task, without, inserted, present}
use Rattle.bq_disc.specs.Queues.{HasDistinctIds}
use Rattle.bq_disc.specs.Discipline.{Discipline, woken}
use Rattle.bq_disc.specs.OneProcessor.{Running, present_at, marked, charge, choice_started, decided, own_preempt, entered}
use Rattle.bq_disc.proofs.QueueLemmas.{without-absent}
use Rattle.bq_fairness.specs.Steps.{Decide, Leave, stepped, after_steps, kept_current}
use Rattle.bq_fairness.specs.Events.{entries, EventsAreSteps}
use Rattle.bq_fairness.proofs.TickLemmas.{charged_distinct}

-- where the current task leaves, nothing runs and the queue is as it was
stops : (d : Discipline) (q : List Task) (mark : ℕ) (o : Option Task) (last : ℕ) (t : Task)
    → (let c : Running = record { queue = q; mark = mark; current = o; last = last } in
    HasDistinctIds (present_at c) → o ≡ Some t → record c { current = None } ≡ stepped d c (Leave t.id))
stops d q mark None last t h e = cc
stops d q mark (Some u) last t h e =
    let same : u ≡ t = cc in
    let id = ap (λ (x : Task). x.id) same in
    let absent : find_task t.id q ≡ None = ap (λ k. find_task k q) (sym id) ∙ h.0 in
    let gone : kept_current t.id (Some u) ≡ None = rw (eq-eqb u.id t.id id) refl in
    let full : Option Task → List Task → Running = λ o q. record { queue = q; mark = mark; current = o; last = last } in
    sym (ap (λ o. full o (without t.id q)) gone ∙ ap (λ q. full None q) (without-absent t.id q absent))

-- to let woken tasks enter and then decide is to make their entries, one after another
drained : (d : Discipline) (q : List Task) (mark : ℕ) (o : Option Task) (last : ℕ) (tasks : List Task)
    → (let e : Running = record { queue = entered d mark q tasks; mark = mark; current = o; last = last } in
    decided d e e.current (own_preempt d e.queue e.current)
    ≡ after_steps d (record { queue = q; mark = mark; current = o; last = last }) (entries d mark tasks))
drained d q mark o last [] = refl
drained d q mark o last (t ∷ tasks) = drained d (inserted (woken d mark t) q) mark o last tasks

-- where nothing runs, to start the queue's choice is to decide
starts : (d : Discipline) (q : List Task) (mark : ℕ) (o : Option Task) (last : ℕ)
    → (let p : Running = record { queue = q; mark = mark; current = o; last = last } in o ≡ None → choice_started d p ≡ stepped d p Decide)
starts d q mark None last e = refl
starts d q mark (Some t) last e = cc

-- the current task is not the one of the queue that leaves
keeps_by : (k : ℕ) (q : List Task) (c t : Task) (b : Bool) → eqb c.id k ≡ b → find_task c.id q ≡ None → find_task k q ≡ Some t
    → Some c ≡ cond b None (Some c)
keeps_by k q c t true e n f = let same = ap (λ k. find_task k q) (eqb-true c.id k e) in cc
keeps_by k q c t false e n f = refl

keeps_current : (k : ℕ) (q : List Task) (o : Option Task) (t : Task)
    → HasDistinctIds (present o q) → find_task k q ≡ Some t → o ≡ kept_current k o
keeps_current k q None t h f = refl
keeps_current k q (Some c) t h f = keeps_by k q c t (eqb c.id k) refl h.0 f

-- what each event does at a processor where only the discipline decides is what some steps do
pub events_are_steps : EventsAreSteps
events_are_steps = record {
  tick = λ d p now. refl;
  block = λ d p now t h e.
      let c = charge d p now in
      ap (λ x. stepped d x Decide) (stops d c.queue c.mark c.current c.last t (charged_distinct d p now h) e);
  drain = λ d p now tasks. let c = charge d p now in drained d c.queue c.mark c.current c.last tasks;
  wake = λ d p now. refl;
  pull = λ d p now t. refl;
  idle = λ d p e. starts d p.queue p.mark p.current p.last e;
  pulled_away = λ d p id t h f.
      let m = marked d p in
      ap (λ o. record m { current = o; queue = without id p.queue }) (keeps_current id p.queue p.current t h f);
}
