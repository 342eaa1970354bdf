-- What a Tick does to each task that is present: the one that runs is charged, and the others stay as they are.
use Rattle.std.proofs.Common.{◌≡◌, ℕ, ◌-◌, Bool, true, false, cond, eqb, List, Option, Some, None, refl, ap, sym, ◌∙◌, subst}
use Rattle.std.proofs.lemmas.Option.{same_Some}
use Rattle.bq_weights.specs.VirtualTime.{vdelta_of}
use Rattle.bq_disc.specs.Tasks.{Task, find_task}
use Rattle.bq_disc.specs.Queues.{HasDistinctIds}
use Rattle.bq_disc.specs.Discipline.{Discipline, charged}
use Rattle.bq_disc.specs.OneProcessor.{Running, present_at, reading, charge, own_preempt, ticked, rise}
use Rattle.bq_fairness.specs.Histories.{task_at, tick_charge}
use Rattle.bq_fairness.proofs.DecideLemmas.{KeepsPresent, keeps_present}

-- how a task of id i changes at a Tick: it stays, or it runs and is charged
pub data Change (d : Discipline) (p : Running) (now i : ℕ) (t u : Task) : Type 0 where
  Stays : u ≡ t → tick_charge i p now ≡ 0 → Change d p now i t u
  Runs : p.current ≡ Some t → u ≡ charged d t (rise p now) → tick_charge i p now ≡ vdelta_of (rise p now) t.weight → Change d p now i t u

-- a task and how it changed
abbrev pub Changed : Discipline → Running → ℕ → ℕ → Task → Option Task → Type 0
Changed d p now i t o = (u : Task) × (o ≡ Some u) × Change d p now i t u

-- a charge changes the task of an id so, whether it is the one that runs or not
charged_by_test : (d : Discipline) (q : List Task) (mark last now i : ℕ) (c t : Task) (b : Bool)
    → eqb c.id i ≡ b → cond b (Some c) (find_task i q) ≡ Some t
    → Changed d (record { queue = q; mark = mark; current = Some c; last = last }) now i t
    (cond b (Some (charged d c (reading last now - last))) (find_task i q))
charged_by_test d q mark last now i c t true e f =
    let same = same_Some c t f in (
      charged d c (reading last now - last),
      refl,
      Runs f (ap (λ x. charged d x (reading last now - last)) same)
          (rw e (ap (λ (x : Task). vdelta_of (reading last now - last) x.weight) same)),
    )
charged_by_test d q mark last now i c t false e f = (t, f, Stays refl (rw e refl))

-- a charge changes a task that is present so, and ids stay distinct, at a processor given by its parts
charge_changes : (d : Discipline) (q : List Task) (mark : ℕ) (o : Option Task) (last now i : ℕ) (t : Task)
    → (let p : Running = record { queue = q; mark = mark; current = o; last = last } in
    task_at i p ≡ Some t → Changed d p now i t (task_at i (charge d p now)))
charge_changes d q mark None last now i t f = (t, f, Stays refl refl)
charge_changes d q mark (Some c) last now i t f = charged_by_test d q mark last now i c t (eqb c.id i) refl f

charge_distinct : (d : Discipline) (q : List Task) (mark : ℕ) (o : Option Task) (last now : ℕ)
    → (let p : Running = record { queue = q; mark = mark; current = o; last = last } in
    HasDistinctIds (present_at p) → HasDistinctIds (present_at (charge d p now)))
charge_distinct d q mark None last now h = h
charge_distinct d q mark (Some c) last now h = h

-- a charge changes a task that is present so
pub charge_changed : (d : Discipline) (p : Running) (now i : ℕ) (t : Task)
    → task_at i p ≡ Some t → Changed d p now i t (task_at i (charge d p now))
charge_changed d p now i t f = charge_changes d p.queue p.mark p.current p.last now i t f

-- the processor once time has been charged, with who is present as it stays
pub charged_distinct : (d : Discipline) (p : Running) (now : ℕ)
    → HasDistinctIds (present_at p) → HasDistinctIds (present_at (charge d p now))
charged_distinct d p now h = charge_distinct d p.queue p.mark p.current p.last now h

-- a decision keeps who is present
pub tick_keeps : (d : Discipline) (p : Running) (now : ℕ) → HasDistinctIds (present_at p) → KeepsPresent (charge d p now) (ticked d p now)
tick_keeps d p now h =
    let c = charge d p now in
    keeps_present d c (own_preempt d c.queue c.current) (charged_distinct d p now h)

-- a task that is present stays present, and changes so
pub tick_changed : (d : Discipline) (p : Running) (now i : ℕ) (t : Task)
    → HasDistinctIds (present_at p) → task_at i p ≡ Some t → Changed d p now i t (task_at i (ticked d p now))
tick_changed d p now i t h f =
    let c = charge_changes d p.queue p.mark p.current p.last now i t f in
    let k = tick_keeps d p now h in
    (c.0, k.same i ∙ c.1, c.2)

-- an id that no task has before a charge, none has after it
nobody_by_test : (b : Bool) (c u v : Task) (o : Option Task) → cond b (Some c) o ≡ None → cond b (Some v) o ≡ Some u → ⊥
nobody_by_test true c u v o e f = cc
nobody_by_test false c u v o e f = cc

nobody : (d : Discipline) (q : List Task) (mark : ℕ) (o : Option Task) (last now i : ℕ) (u : Task)
    → (let p : Running = record { queue = q; mark = mark; current = o; last = last } in
    task_at i p ≡ None → task_at i (charge d p now) ≡ Some u → ⊥)
nobody d q mark None last now i u e f = cc
nobody d q mark (Some c) last now i u e f = nobody_by_test (eqb c.id i) c u (charged d c (reading last now - last)) (find_task i q) e f

-- each task that is present after a charge was present before, and has changed so, given what its id stood for
came_by : (d : Discipline) (p : Running) (now i : ℕ) (u : Task) (o : Option Task)
    → task_at i p ≡ o → task_at i (charge d p now) ≡ Some u
    → (t : Task) × (task_at i p ≡ Some t) × Change d p now i t u
came_by d p now i u (Some t) e f =
    let c = charge_changed d p now i t e in
    let same : c.0 ≡ u = same_Some c.0 u (sym c.1 ∙ f) in
    (t, e, subst (λ x. Change d p now i t x) same c.2)
came_by d p now i u None e f = absurd (nobody d p.queue p.mark p.current p.last now i u e f)

-- each task that is present after a charge was present before, and has changed so
pub charge_came : (d : Discipline) (p : Running) (now i : ℕ) (u : Task)
    → task_at i (charge d p now) ≡ Some u → (t : Task) × (task_at i p ≡ Some t) × Change d p now i t u
charge_came d p now i u f = came_by d p now i u (task_at i p) refl f

-- each task that is present after a Tick was present before, and has changed so
pub tick_came : (d : Discipline) (p : Running) (now i : ℕ) (u : Task)
    → HasDistinctIds (present_at p) → task_at i (ticked d p now) ≡ Some u
    → (t : Task) × (task_at i p ≡ Some t) × Change d p now i t u
tick_came d p now i u h f = charge_came d p now i u (sym ((tick_keeps d p now h).same i) ∙ f)
