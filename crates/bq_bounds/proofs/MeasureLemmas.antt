-- No measure of a charge passes its bound.
use Rattle.std.proofs.Common.{◌≡◌, ℕ, ◌+◌, ◌-◌, ◌^◌, ◌≤◌, max, min, Bool, true, false, cond, leb, List, [], ◌∷◌, ◌++◌, map, suc, Option, Some, None, refl, ap, sym, ◌∙◌, subst, arith}
use Rattle.std.specs.Prelude.{Contains, IfSome}
use Rattle.std.specs.Option.{option_map}
use Rattle.bq_weights.specs.VirtualTime.{IsWeight, vdelta_of, advance_of}
use Rattle.bq_disc.specs.Tasks.{Task, find_task, present}
use Rattle.bq_disc.specs.Queues.{HasDistinctIds}
use Rattle.bq_disc.specs.Discipline.{Discipline, charged}
use Rattle.bq_disc.specs.OneProcessor.{Running, present_at, reading, charge, own_preempt, rise}
use Rattle.bq_disc.proofs.SetLemmas.{find_task-Contains}
use Rattle.bq_cfs.specs.Cfs.{cfs}
use Rattle.bq_cfs.specs.Spread.{AreTasksSound}
use Rattle.bq_eevdf.specs.Eevdf.{eevdf}
use Rattle.bq_fairness.specs.Histories.{task_at}
use Rattle.bq_fairness.specs.Steps.{Decide, Pass, stepped, after_steps}
use Rattle.bq_fairness.proofs.DecideLemmas.{keeps_present}
use Rattle.bq_fairness.proofs.PlaceLemmas.{current_present}
use Rattle.bq_fairness.proofs.SoundLemmas.{well_formed}
use Rattle.bq_hooks.specs.declared.settled.By.{By}
use Rattle.bq_hooks.specs.declared.settled.By.TheVariants as who
use Rattle.bq_parts.specs.declared.event.Event.{Event}
use Rattle.bq_parts.specs.declared.reply.Reply.{Reply}
use Rattle.bq_words.specs.declared.discipline_name.DisciplineName.{DisciplineName}
use Rattle.bq_words.specs.declared.discipline_name.DisciplineName.TheVariants.{Cfs, Eevdf}
use Rattle.bq_bounds.specs.declared.charge.Charge.{Charge}
use Rattle.bq_bounds.specs.declared.running_task.RunningTask.{RunningTask}
use Rattle.bq_bounds.specs.declared.watch.Watch.{Watch}
use Rattle.bq_bounds.specs.Charges.{least_waiting, charge_from, measured_charge}
use Rattle.bq_bounds.specs.RunningTasks.{IsRunningTask}
use Rattle.bq_bounds.specs.Watches.{greater, risen, measured_if, watch_charged as charged_by, decided_by_event, watch_decided, watch_pulled}
use Rattle.bq_bounds.specs.Nearness.{runs_on, risen_since}
use Rattle.bq_bounds.specs.Measures.{KeepsItsBound, MeasureWithin, MeasuresWithin, IsWatchOf, WatchWithin, WatchesWithin}
use Rattle.bq_bounds.proofs.NearnessLemmas.{cfs_stays_near, eevdf_stays_near}

-- Readings of the clock

-- a reading more is a charge
after_read : (d : Discipline) (p : Running) (nows : List ℕ) (now : ℕ)
    → after_steps d p (map Pass (nows ++ now ∷ [])) ≡ charge d (after_steps d p (map Pass nows)) now
after_read d p [] now = refl
after_read d p (n ∷ nows) now = after_read d (charge d p n) nows now

-- readings leave the queue
queue_stays : (d : Discipline) (p : Running) (nows : List ℕ) → (after_steps d p (map Pass nows)).queue ≡ p.queue
queue_stays d p [] = refl
queue_stays d p (n ∷ nows) = queue_stays d (charge d p n) nows

-- the clock does not fall, nor does it come further than it goes
clock_goes : (d : Discipline) (p : Running) (nows : List ℕ)
    → (p.last ≤ (after_steps d p (map Pass nows)).last) × ((after_steps d p (map Pass nows)).last ≤ max p.last (2 ^ 48 - 1))
clock_goes d p [] = (omega arith, omega arith)
clock_goes d p (n ∷ nows) = let rest = clock_goes d (charge d p n) nows in (omega (arith, rest.0), omega (arith, rest.1))

-- where nothing runs, nothing runs after them
none_runs : (d : Discipline) (p : Running) (nows : List ℕ) → p.current ≡ None → (after_steps d p (map Pass nows)).current ≡ None
none_runs d p [] e = e
none_runs d p (n ∷ nows) e = none_runs d (charge d p n) nows (ap (option_map (λ (t : Task). charged d t (reading p.last n - p.last))) e)

-- a task that runs after readings means that one ran before them:
none_ran : (d : Discipline) (p : Running) (nows : List ℕ) (u : Task) → p.current ≡ None → (after_steps d p (map Pass nows)).current ≡ Some u → ⊥
none_ran d p nows u e f = let none = none_runs d p nows e in cc

ran_by : (d : Discipline) (p : Running) (nows : List ℕ) (u : Task) (o : Option Task)
    → p.current ≡ o → (after_steps d p (map Pass nows)).current ≡ Some u → (a : Task) × (p.current ≡ Some a)
ran_by d p nows u None e f = absurd (none_ran d p nows u e f)
ran_by d p nows u (Some a) e f = (a, e)

-- The task that runs, as it stands before a charge

-- what is known of the running task is what this task has, and the least v that waits in the queue
record Stands (queue : List Task) (t : Task) (s : RunningTask) : Type 0 where
  v : s.v ≡ t.v
  weight : s.weight ≡ t.weight
  least : s.least ≡ least_waiting queue

-- where a running task is known, a task runs there, and it stands as known
stands_by : (o : Option Task) (queue : List Task) (s : RunningTask)
    → IsRunningTask o queue (Some s) → (t : Task) × (o ≡ Some t) × Stands queue t s
stands_by None queue s h = absurd h
stands_by (Some t) queue s h = (t, refl, record { v = h.0; weight = h.1; least = h.2 })

-- a task that waits is found by its id among those that are present
waits_by : (q : List Task) (o : Option Task) (b : Task) → HasDistinctIds (present o q) → Contains q b → find_task b.id (present o q) ≡ Some b
waits_by q None b d c = find_task-Contains q b c.0 d c.1 c.2
waits_by q (Some a) b d c = find_task-Contains (a ∷ q) b (suc c.0) d (let k = c.1 in omega arith) c.2

-- what is known of it: when the discipline had decided it ran, as a task of a sound processor, and it runs once it is charged
record Runs (d : Discipline) (p : Running) (nows : List ℕ) (now : ℕ) (s : RunningTask) : Type 0 where
  first : Task
  task : Task
  stands : Stands (runs_on d p nows).queue task s
  began : (stepped d p Decide).current ≡ Some first
  weight : IsWeight first.weight
  ends : first.v ≤ 2 ^ 62
  runs : (runs_on d p (nows ++ now ∷ [])).current ≡ Some (charged d task (rise (runs_on d p nows) now))
  waiting : (b : Task) → Contains (runs_on d p nows).queue b → task_at b.id p ≡ Some b

-- what is known of the running task is so at a sound processor, after a decision and some readings
runs_by : (d : Discipline) (p : Running) (nows : List ℕ) (now : ℕ) (s : RunningTask)
    → AreTasksSound p → IsRunningTask (runs_on d p nows).current (runs_on d p nows).queue (Some s)
    → Runs d p nows now s
runs_by d p nows now s sound h =
    let start = stepped d p Decide in
    let q = runs_on d p nows in
    let st = stands_by q.current q.queue s h in
    let began = ran_by d start nows st.0 start.current refl st.1 in
    let a = began.0 in
    let k = keeps_present d p (own_preempt d p.queue p.current) sound.distinct in
    let w = well_formed p sound in
    let there : task_at a.id p ≡ Some a = sym (k.same a.id) ∙ current_present start.queue start.mark start.current start.last a began.1 in
    record {
      first = a;
      task = st.0;
      stands = st.2;
      began = began.1;
      weight = w.weights a.id a there;
      ends = w.ends a.id a there;
      runs = ap (λ (x : Running). x.current) (after_read d start nows now) ∙ ap (option_map (λ (t : Task). charged d t (rise q now))) st.1;
      waiting = λ b c.
          let there : Contains start.queue b = subst (λ xs. Contains xs b) (queue_stays d start nows) c in
          sym (k.same b.id) ∙ waits_by start.queue start.current b k.distinct there;
    }

-- The measure

-- a task that comes no further than the allowance beyond a base makes a charge that keeps its bound:
near_bound : (base allowance v r w W since : ℕ) → w ≡ W → advance_of v r w ≤ base + (allowance + vdelta_of since W)
    → KeepsItsBound (charge_from base allowance v w r since)
near_bound base allowance v r w W since e h = let same = ap (λ n. vdelta_of since n) e in omega (arith, h, same)

standing_bound : (queue : List Task) (base allowance r W since : ℕ) (s : RunningTask) (u : Task)
    → Stands queue u s → u.weight ≡ W → advance_of u.v r u.weight ≤ base + (allowance + vdelta_of since W)
    → KeepsItsBound (charge_from base allowance s.v s.weight r since)
standing_bound queue base allowance r W since s u st e h = rw (st.v, st.weight) (near_bound base allowance u.v r u.weight W since e h)

-- if the charge against each waiting task keeps its bound, so does the charge against the least of them
least_by : (f : ℕ → Charge) (queue : List Task) → ((b : Task) → Contains queue b → KeepsItsBound (f b.v))
    → IfSome (option_map f (least_waiting queue)) KeepsItsBound
least_by f [] h = tt
least_by f (b ∷ queue) h = h b (0, omega arith, refl)

-- under CFS no measure of a charge passes its bound
cfs_measures : MeasureWithin Cfs cfs
cfs_measures p nows now s sound h =
    let q = runs_on cfs p nows in
    let r = rise q now in
    let since = risen_since cfs p (nows ++ now ∷ []) in
    let known = runs_by cfs p nows now s sound h in
    let a = known.first in
    let u = known.task in
    let f : ℕ → Charge = λ least. charge_from least 1000000 s.v s.weight r since in
    let each : (b : Task) → Contains q.queue b → KeepsItsBound (f b.v) =
    λ b c.
    let near =
    cfs_stays_near p (nows ++ now ∷ []) b.id a b (charged cfs u r) sound.distinct known.weight known.began
    (known.waiting b c) known.runs in
    standing_bound q.queue b.v 1000000 r a.weight since s u known.stands near.0 near.1 in
    subst (λ o. IfSome (option_map f o) KeepsItsBound) (sym known.stands.least) (least_by f q.queue each)

-- under EEVDF the task that runs is ahead of the mean by no more than the rise since the decision takes at its weight
eevdf_near : (p : Running) (nows : List ℕ) (now : ℕ) (a u : Task)
    → HasDistinctIds (present_at p) → IsWeight a.weight → a.v ≤ 2 ^ 62 → (stepped eevdf p Decide).current ≡ Some a
    → (runs_on eevdf p (nows ++ now ∷ [])).current ≡ Some u
    → (u.weight ≡ a.weight)
    × (u.v ≤ (runs_on eevdf p (nows ++ now ∷ [])).mark + vdelta_of (risen_since eevdf p (nows ++ now ∷ [])) a.weight)
eevdf_near p [] now a u distinct weight ends began runs = eevdf_stays_near p now [] a u distinct weight ends began runs
eevdf_near p (n ∷ nows) now a u distinct weight ends began runs =
    eevdf_stays_near p n (nows ++ now ∷ []) a u distinct weight ends began runs

-- under EEVDF no measure of a charge passes its bound
eevdf_measures : MeasureWithin Eevdf eevdf
eevdf_measures p nows now s sound h =
    let q = runs_on eevdf p nows in
    let r = rise q now in
    let since = risen_since eevdf p (nows ++ now ∷ []) in
    let known = runs_by eevdf p nows now s sound h in
    let a = known.first in
    let u = known.task in
    let near = eevdf_near p nows now a (charged eevdf u r) sound.distinct known.weight known.ends known.began known.runs in
    let mean = ap (λ (x : Running). x.mark) (after_read eevdf (stepped eevdf p Decide) nows now) in
    let le : advance_of u.v r u.weight ≤ (charge eevdf q now).mark + (0 + vdelta_of since a.weight) = omega (arith, near.1, mean) in
    standing_bound q.queue (charge eevdf q now).mark 0 r a.weight since s u known.stands near.0 le

-- from a decision of the discipline on, as long as nothing comes or goes, no measure of a charge passes its bound
pub measures_within : MeasuresWithin
measures_within = record { cfs = cfs_measures; eevdf = eevdf_measures }

-- A watch

-- of two charges that keep their bounds, either does
greater_by : (c g : Charge) (b : Bool) → KeepsItsBound g → KeepsItsBound c → KeepsItsBound (cond b g c)
greater_by c g true h k = h
greater_by c g false h k = k

-- the greater of two that keep their bounds keeps its own
pub greater_within : (o : Option Charge) (c : Charge) → IfSome o KeepsItsBound → KeepsItsBound c → KeepsItsBound (greater o c)
greater_within None c h k = k
greater_within (Some g) c h k = greater_by c g (leb c.difference g.difference) h k

-- a watch is still one of its processor after one more charge that keeps its bound, or none
measured_by : (d : Discipline) (p : Running) (nows : List ℕ) (o : Option Charge) (w : Watch)
    → IfSome o KeepsItsBound → IsWatchOf d p nows w → IsWatchOf d p nows (measured_if o w)
measured_by d p nows None w h is = is
measured_by d p nows (Some c) w h is = record { elapsed = is.elapsed; greatest = greater_within w.greatest c is.greatest h }

-- the rise up to one reading, and that reading's own, are the rise up to the next, and fit in 64 bits
counted : (start last now : ℕ) → start ≤ last → last ≤ max start (2 ^ 48 - 1)
    → min ((last - start) + (reading last now - last)) (2 ^ 64 - 1) ≡ reading last now - start
counted start last now low high = omega arith

-- a watch counts how far the clock has risen
counts : (d : Discipline) (p : Running) (nows : List ℕ) (now : ℕ) (w : Watch)
    → IsWatchOf d p nows w → IsWatchOf d p (nows ++ now ∷ []) (risen (rise (runs_on d p nows) now) w)
counts d p nows now w is =
    let start = stepped d p Decide in
    let q = runs_on d p nows in
    let goes = clock_goes d start nows in
    let sum = counted start.last q.last now goes.0 goes.1 in
    let end = ap (λ (x : Running). x.last - start.last) (after_read d start nows now) in
    record {
      elapsed = ap (option_map (λ (n : ℕ). min (n + rise q now) (2 ^ 64 - 1))) is.elapsed ∙ ap (λ (n : ℕ). Some n) (sum ∙ sym end);
      greatest = is.greatest;
    }

-- where no measure passes its bound, what a watch keeps does not after one more reading
watch_within : (discipline : DisciplineName) (d : Discipline) → MeasureWithin discipline d → WatchWithin discipline d
watch_within discipline d law p nows now None w sound is h = counts d p nows now w is
watch_within discipline d law p nows now (Some s) w sound is h =
    let q = runs_on d p nows in
    let r = rise q now in
    let mean = (charge d q now).mark in
    let next = risen r w in
    let counted = counts d p nows now w is in
    let P : Option ℕ → Type 0 = λ o. IsWatchOf d p (nows ++ now ∷ []) (charged_by discipline s r mean o next) in
    subst P (sym counted.elapsed) (measured_by d p (nows ++ now ∷ [])
    (measured_charge discipline s r (risen_since d p (nows ++ now ∷ [])) mean) next (law p nows now s sound h) counted)

-- who decides changes nothing of what is kept

decided_leaves : (by : By) (w : Watch) → (watch_decided by w).greatest ≡ w.greatest
decided_leaves who.Discipline w = refl
decided_leaves who.Policy w = refl

pulled_leaves : (task : Option ℕ) (busy : Bool) (w : Watch) → (watch_pulled task busy w).greatest ≡ w.greatest
pulled_leaves task false w = refl
pulled_leaves None true w = refl
pulled_leaves (Some id) true w = refl

decided_by_event_leaves : (e : Event) (r : Reply) (busy : Bool) (w : Watch) → (decided_by_event e r busy w).greatest ≡ w.greatest
decided_by_event_leaves e r busy w = grind (arith, decided_leaves, pulled_leaves)

-- from a decision of the discipline on a watch counts the rise of the clock, and what it keeps does not pass its bound
pub watches_within : WatchesWithin
watches_within = record {
  begins = λ d p w h. record { elapsed = ap (λ (n : ℕ). Some n) (omega arith); greatest = h };
  cfs = watch_within Cfs cfs cfs_measures;
  eevdf = watch_within Eevdf eevdf eevdf_measures;
  leaves = decided_by_event_leaves;
}
