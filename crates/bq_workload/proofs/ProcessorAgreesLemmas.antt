-- Changes of one processor after which the event queue agrees with the accounts: its time is counted, a task begins to run, none runs any more.
use Rattle.std.proofs.Common.{◌≡◌, ◌≢◌, ℕ, ◌+◌, ◌-◌, ◌<◌, inl, inr, List, Option, Some, None, refl, sym, ap, ◌∙◌, subst, arith}
use Rattle.std.specs.Prelude.{option_and_then, slice_get, option_map, unwrap_or}
use Rattle.std.specs.Option.{option_map_or}
use Rattle.std.proofs.lemmas.Bool.{cases_eq}
use Rattle.std.proofs.lemmas.Option.{none-some, same_Some}
use Rattle.bq_workload.specs.declared.progress.TaskProgress.{TaskProgress}
use Rattle.bq_workload.specs.declared.due.Due.{Due}
use Rattle.bq_workload.specs.declared.due.Due.TheVariants.{End, Wake, Tick, Look}
use Rattle.bq_workload.specs.declared.processor_state.ProcessorState.{ProcessorState}
use Rattle.bq_workload.specs.declared.due.TheConstants.{FIRST_LOOK, FIRST_TICK, FIRST_WAKE}
use Rattle.bq_workload.specs.declared.event_queue.TheConstants.{LEAVES}
use Rattle.bq_workload.specs.declared.periods.Periods.{Periods}
use Rattle.bq_workload.specs.Accounts.{Accounts, changed_at, accounts_charged, runner_charged, idled, occupied, of_processor, taken_over}
use Rattle.bq_workload.specs.Dues.{IsDue, phase_end, due_rank, until, next_multiple}
use Rattle.bq_workload.specs.Minima.{at_rank}
use Rattle.bq_workload.specs.Next.{AgreesAt, HasHome, HaveHomes, TaskRests, comes_at, phase_ends_at, QueueAgrees, rings_at}
use Rattle.bq_workload.specs.TaskProgress.{moved_to, run_for}
use Rattle.bq_workload.specs.Plans.{PlansLook, PlansNone, PlansTask, PlansTick}
use Rattle.bq_workload.proofs.ListLemmas.{some_or_none, changed_at-others, changed_at-here, changed_at-read, stood_before_change}
use Rattle.bq_workload.proofs.AgreesAtLemmas.{agrees_if_kept, agrees_if_planned, agrees_if_dropped, kept-end, kept-home, one-home, resting_runs_nowhere}
use Rattle.bq_disc.specs.declared.limits.TheConstants.{PROCESSORS}

-- accounts of these tasks' progress and processors
abbrev pub both : List TaskProgress → List ProcessorState → Accounts
both cs ls = record { by_task = cs; by_processor = ls }

-- when the timer of a task's progress rings
abbrev ring : ℕ → TaskProgress → Option ℕ
ring end c = rings_at end c.task_state c.timer

-- when a processor ticks, if it does before the end
abbrev pub tick_at : ℕ → ProcessorState → Option ℕ
tick_at end l = option_and_then (until end) l.tick

-- when a processor looks, if it does before the end
abbrev pub look_at : ℕ → ProcessorState → Option ℕ
look_at end l = option_and_then (until end) l.look

-- an event queue that is the same at a rank
pub agrees_if_same_there : (end : ℕ) (b : Accounts) (x y : List ℕ) (due : Due)
    → (IsDue due → at_rank y (due_rank due) ≡ at_rank x (due_rank due)) → AgreesAt end b x due
    → AgreesAt end b y due
agrees_if_same_there end b x y due rank h = agrees_if_kept end b b x y due refl rank h

-- all but the end of the phase at a processor agrees
pub record AgreesBut (end p : ℕ) (a : Accounts) (x : List ℕ) : Type 0 where
  pub ends : (q : ℕ) → q ≢ p → AgreesAt end a x (End q)
  pub wakes : (k : ℕ) → AgreesAt end a x (Wake k)
  pub ticks : (q : ℕ) → AgreesAt end a x (Tick q)
  pub looks : (q : ℕ) → AgreesAt end a x (Look q)
  pub homes : HaveHomes a

-- what agrees, except for that end
pub agrees_but_one_end : (end p : ℕ) (a : Accounts) (x : List ℕ) → QueueAgrees end a x → AgreesBut end p a x
agrees_but_one_end end p a x h = record {
  ends = λ q other. h.all (End q);
  wakes = λ k. h.all (Wake k);
  ticks = λ q. h.all (Tick q);
  looks = λ q. h.all (Look q);
  homes = h.homes;
}

-- what agrees except for an end agrees with that end, too
pub with_end : (end p : ℕ) (a : Accounts) (x : List ℕ) → AgreesBut end p a x → AgreesAt end a x (End p) → (due : Due) → AgreesAt end a x due
with_end end p a x h at (End q) =
    elim (cases_eq q p) [ inl same ↦ subst (λ k. AgreesAt end a x (End k)) (sym same) at | inr other ↦ h.ends q other ]
with_end end p a x h at (Wake k) = h.wakes k
with_end end p a x h at (Tick q) = h.ticks q
with_end end p a x h at (Look q) = h.looks q

-- only at the ranks of a processor has an event queue changed
abbrev Elsewhere : ℕ → List ℕ → List ℕ → Type 0
Elsewhere p x y = (k : ℕ) → k < LEAVES → k ≢ p → k ≢ FIRST_TICK + p → k ≢ FIRST_LOOK + p → at_rank y k ≡ at_rank x k

-- only one processor has changed, and what is due there agrees
pub record Changes (end p : ℕ) (a b : Accounts) (x y : List ℕ) : Type 0 where
  pub low : p < PROCESSORS
  pub by_processor : (q : ℕ) → q ≢ p → slice_get b.by_processor q ≡ slice_get a.by_processor q
  pub by_task : (q task : ℕ) (processor_state : ProcessorState)
      → q ≢ p → slice_get a.by_processor q ≡ Some processor_state → processor_state.run ≡ Some task
      → slice_get b.by_task task ≡ slice_get a.by_task task
  pub rings : (k : ℕ) → comes_at end b (Wake k) ≡ comes_at end a (Wake k)
  pub ranks : Elsewhere p x y
  pub ends : AgreesAt end b y (End p)
  pub ticks : AgreesAt end b y (Tick p)
  pub looks : AgreesAt end b y (Look p)
  pub home : (task : ℕ) (processor_state : ProcessorState) → slice_get b.by_processor p ≡ Some processor_state
      → processor_state.run ≡ Some task
      → HasHome b task p

-- all agrees after a change of one processor
pub after-change : (end p : ℕ) (a b : Accounts) (x y : List ℕ) → AgreesBut end p a x → Changes end p a b x y → QueueAgrees end b y
after-change end p a b x y h c =
    let low = c.low in
    let ends : (q : ℕ) → q ≢ p → AgreesAt end b y (End q) = λ q other.
    kept-end end q a b x y (c.by_processor q other) (λ task processor_state at runs. c.by_task q task processor_state other at runs)
    (λ few. c.ranks q (omega arith) other (omega arith) (omega arith)) (h.ends q other) in
    let wakes : (k : ℕ) → AgreesAt end b y (Wake k) = λ k.
    agrees_if_kept end a b x y (Wake k) (c.rings k)
    (λ few. c.ranks (FIRST_WAKE + k) (omega arith) (omega arith) (omega arith) (omega arith)) (h.wakes k) in
    let ticks : (q : ℕ) → AgreesAt end b y (Tick q) = λ q. elim (cases_eq q p) [
      | inl same ↦ subst (λ k. AgreesAt end b y (Tick k)) (sym same) c.ticks
      | inr other ↦
          agrees_if_kept end a b x y (Tick q)
          (ap (λ (o : Option ProcessorState). option_and_then (tick_at end) o) (c.by_processor q other))
          (λ few. c.ranks (FIRST_TICK + q) (omega arith) (omega arith) (omega arith) (omega arith)) (h.ticks q)
    ] in
    let looks : (q : ℕ) → AgreesAt end b y (Look q) = λ q. elim (cases_eq q p) [
      | inl same ↦ subst (λ k. AgreesAt end b y (Look k)) (sym same) c.looks
      | inr other ↦
          agrees_if_kept end a b x y (Look q)
          (ap (λ (o : Option ProcessorState). option_and_then (look_at end) o) (c.by_processor q other))
          (λ few. c.ranks (FIRST_LOOK + q) (omega arith) (omega arith) (omega arith) (omega arith)) (h.looks q)
    ] in
    let homes : HaveHomes b = λ q task processor_state at runs. elim (cases_eq q p) [
      | inl same ↦
          subst (λ k. HasHome b task k) (sym same)
          (c.home task processor_state (ap (slice_get b.by_processor) (sym same) ∙ at) runs)
      | inr other ↦
          let was : slice_get a.by_processor q ≡ Some processor_state = sym (c.by_processor q other) ∙ at in
          kept-home a b task q (c.by_task q task processor_state other was runs) (h.homes q task processor_state was runs)
    ] in
    record {
      all = with_end end p b y (record { ends = ends; wakes = wakes; ticks = ticks; looks = looks; homes = homes }) c.ends;
      homes = homes;
    }

-- the home of a task's progress
abbrev home_of : TaskProgress → Option ℕ
home_of c = Some c.home

-- a task whose home has not changed has it
home-read : (a b : Accounts) (task q : ℕ)
    → option_and_then home_of (slice_get b.by_task task) ≡ option_and_then home_of (slice_get a.by_task task)
    → HasHome a task q
    → HasHome b task q
home-read a b task q same h =
    let at : option_and_then home_of (slice_get b.by_task task) ≡ Some q =
    same ∙ ap (λ (o : Option TaskProgress). option_and_then home_of o) h.there ∙ ap (λ (n : ℕ). Some n) h.home in
    elim (some_or_none (slice_get b.by_task task)) [
      | inl none ↦ absurd (none-some q (sym (ap (λ (o : Option TaskProgress). option_and_then home_of o) none) ∙ at))
      | inr (c, is) ↦ record {
        progress = c;
        there = is;
        home = same_Some c.home q (sym (ap (λ (o : Option TaskProgress). option_and_then home_of o) is) ∙ at);
      }
    ]

-- where no processor runs another task, and no home is another, tasks have their homes
pub homes-read : (f : ProcessorState → ProcessorState) → ((l : ProcessorState) → (f l).run ≡ l.run)
    → (p : ℕ) (a b : Accounts) → b.by_processor ≡ changed_at f a.by_processor p
    → ((k : ℕ) → option_and_then home_of (slice_get b.by_task k) ≡ option_and_then home_of (slice_get a.by_task k))
    → HaveHomes a
    → HaveHomes b
homes-read f same p a b by_processor home h q task processor_state at runs =
    let was =
    stood_before_change f a.by_processor p q processor_state
    (ap (λ (ls : List ProcessorState). slice_get ls q) (sym by_processor) ∙ at) in
    let run : was.0.run ≡ Some task = elim was.2 [
      | inl is ↦ sym (ap (λ (l : ProcessorState). l.run) is) ∙ runs
      | inr is ↦ sym (ap (λ (l : ProcessorState). l.run) is ∙ same was.0) ∙ runs
    ] in
    home-read a b task q (home task) (h q task was.0 was.1 run)

-- a processor whose task, time, tick and look have not changed changes nothing that is due
pub agrees_if_times_same : (end p : ℕ) (f : ProcessorState → ProcessorState) (a b : Accounts) (x y : List ℕ)
    → ((l : ProcessorState) → (f l).run ≡ l.run)
    → ((cs : List TaskProgress) (l : ProcessorState) → phase_ends_at end cs (f l) ≡ phase_ends_at end cs l)
    → ((l : ProcessorState) → (f l).tick ≡ l.tick) → ((l : ProcessorState) → (f l).look ≡ l.look) → b ≡ of_processor f p a
    → y ≡ x → QueueAgrees end a x
    → QueueAgrees end b y
agrees_if_times_same end p f a b x y run ends tick look is event_queue h =
    let c = of_processor f p a in
    let rank : (due : Due) → IsDue due → at_rank y (due_rank due) ≡ at_rank x (due_rank due) =
    λ due there. ap (λ (l : List ℕ). at_rank l (due_rank due)) event_queue in
    let at : AgreesBut end PROCESSORS c y = record {
      ends = λ q other.
          agrees_if_kept end a c x y (End q) (changed_at-read f (phase_ends_at end a.by_task) (ends a.by_task) a.by_processor p q)
          (rank (End q)) (h.all (End q));
      wakes = λ k. agrees_if_kept end a c x y (Wake k) refl (rank (Wake k)) (h.all (Wake k));
      ticks = λ q.
          agrees_if_kept end a c x y (Tick q)
          (changed_at-read f (tick_at end) (λ l. ap (λ (o : Option ℕ). option_and_then (until end) o) (tick l)) a.by_processor p q)
          (rank (Tick q)) (h.all (Tick q));
      looks = λ q.
          agrees_if_kept end a c x y (Look q)
          (changed_at-read f (look_at end) (λ l. ap (λ (o : Option ℕ). option_and_then (until end) o) (look l)) a.by_processor p q)
          (rank (Look q)) (h.all (Look q));
      homes = homes-read f run p a c refl (λ k. refl) h.homes;
    } in
    let whole : QueueAgrees end c y = record {
      all =
          with_end end PROCESSORS c y at (agrees_if_kept end a c x y (End PROCESSORS)
          (changed_at-read f (phase_ends_at end a.by_task) (ends a.by_task) a.by_processor p PROCESSORS) (rank (End PROCESSORS)) (h.all (End PROCESSORS)));
      homes = at.homes;
    } in
    subst (λ (z : Accounts). QueueAgrees end z y) (sym is) whole

-- since when the time of a processor is counted
abbrev pub since_now : ℕ → ProcessorState → ProcessorState
since_now now l = record l { since = now }

-- the time of the task that runs there, if one does, is counted
abbrev pub counted : ProcessorState → ℕ → List TaskProgress → List TaskProgress
counted processor_state now cs = option_map_or (λ task. changed_at (run_for (now - processor_state.since)) cs task) processor_state.run cs

-- once the time of the task that runs is counted, only tasks' progress has changed
charged_by-is : (processor_state : ProcessorState) (now : ℕ) (a : Accounts)
    → runner_charged processor_state now a ≡ both (counted processor_state now a.by_task) a.by_processor
charged_by-is processor_state now a =
    elim processor_state.run as (λ (o : Option ℕ).
    runner_charged (record processor_state { run = o }) now a
    ≡ both (counted (record processor_state { run = o }) now a.by_task) a.by_processor) [ None ↦ refl | Some task ↦ refl ]

-- the accounts once that is so
pub charged-is : (p now : ℕ) (processor_state : ProcessorState) (a : Accounts)
    → slice_get a.by_processor p ≡ Some processor_state
    → accounts_charged p now a ≡ both (counted processor_state now a.by_task) (changed_at (since_now now) a.by_processor p)
charged-is p now processor_state a at =
    ap (λ (o : Option ProcessorState). option_map_or (λ (l : ProcessorState). of_processor (since_now now) p (runner_charged l now a)) o a) at
    ∙ ap (of_processor (since_now now) p) (charged_by-is processor_state now a)

-- what is read of a task's progress, and does not change with its time
counted-read : {B : Type 0} (v : TaskProgress → Option B) (processor_state : ProcessorState)
    (now : ℕ) (cs : List TaskProgress) (k : ℕ)
    → ((c : TaskProgress) (ran : ℕ) → v (run_for ran c) ≡ v c)
    → option_and_then v (slice_get (counted processor_state now cs) k) ≡ option_and_then v (slice_get cs k)
counted-read {B} v processor_state now cs k same =
    elim processor_state.run as (λ (o : Option ℕ).
    option_and_then v (slice_get (counted (record processor_state { run = o }) now cs) k)
    ≡ option_and_then v (slice_get cs k)) [
      | None ↦ refl
      | Some task ↦
          changed_at-read (run_for (now - processor_state.since)) v (λ c. same c (now - processor_state.since)) cs task k
    ]

-- of other tasks no time is counted
counted-other : (processor_state : ProcessorState) (now : ℕ) (cs : List TaskProgress) (k : ℕ)
    → (processor_state.run ≡ Some k → ⊥) → slice_get (counted processor_state now cs) k ≡ slice_get cs k
counted-other processor_state now cs k other =
    let at : Option ℕ → List TaskProgress = λ o. option_map_or (λ task. changed_at (run_for (now - processor_state.since)) cs task) o cs in
    elim (some_or_none processor_state.run) [
      | inl none ↦ ap (λ (o : Option ℕ). slice_get (at o) k) none
      | inr (task, is) ↦
          ap (λ (o : Option ℕ). slice_get (at o) k) is
          ∙ changed_at-others (run_for (now - processor_state.since)) cs task k (λ e. other (is ∙ ap (λ (n : ℕ). Some n) (sym e)))
    ]

-- the time of the task that runs there is counted
pub counted-here : (processor_state : ProcessorState) (now : ℕ) (cs : List TaskProgress) (k : ℕ) (c : TaskProgress)
    → processor_state.run ≡ Some k → slice_get cs k ≡ Some c
    → slice_get (counted processor_state now cs) k ≡ Some (run_for (now - processor_state.since) c)
counted-here processor_state now cs k c runs there =
    ap (λ (o : Option ℕ). slice_get (option_map_or (λ task. changed_at (run_for (now - processor_state.since)) cs task) o cs) k) runs
    ∙ changed_at-here (run_for (now - processor_state.since)) cs k c there

-- once its time is counted all but the end of the phase of a processor agrees
pub charged-agrees : (end p now : ℕ) (processor_state : ProcessorState) (a : Accounts) (x : List ℕ)
    → slice_get a.by_processor p ≡ Some processor_state → QueueAgrees end a x
    → AgreesBut end p (accounts_charged p now a) x
charged-agrees end p now processor_state a x at h =
    let f = since_now now in
    let c = both (counted processor_state now a.by_task) (changed_at f a.by_processor p) in
    let apart : (q task : ℕ) (l : ProcessorState) → q ≢ p → slice_get a.by_processor q ≡ Some l → l.run ≡ Some task
    → processor_state.run ≡ Some task
    → ⊥ =
    λ q task l other there runs mine. other (one-home a task q p (h.homes q task l there runs) (h.homes p task processor_state at mine)) in
    let new : AgreesBut end p c x = record {
      ends = λ q other.
          kept-end end q a c x x (changed_at-others f a.by_processor p q other)
          (λ task l there runs. counted-other processor_state now a.by_task task (apart q task l other there runs))
          (λ low. refl) (h.all (End q));
      wakes = λ k.
          agrees_if_kept end a c x x (Wake k) (counted-read (ring end) processor_state now a.by_task k (λ d ran. refl))
          (λ low. refl) (h.all (Wake k));
      ticks = λ q.
          agrees_if_kept end a c x x (Tick q) (changed_at-read f (tick_at end) (λ l. refl) a.by_processor p q)
          (λ low. refl) (h.all (Tick q));
      looks = λ q.
          agrees_if_kept end a c x x (Look q) (changed_at-read f (look_at end) (λ l. refl) a.by_processor p q)
          (λ low. refl) (h.all (Look q));
      homes = homes-read f (λ l. refl) p a c refl (λ k. counted-read home_of processor_state now a.by_task k (λ d ran. refl)) h.homes;
    } in
    subst (λ (z : Accounts). AgreesBut end p z x) (sym (charged-is p now processor_state a at)) new

-- a processor ticks when its processor says
pub tick-of : (end p : ℕ) (a : Accounts) (l : ProcessorState)
    → slice_get a.by_processor p ≡ Some l → comes_at end a (Tick p) ≡ tick_at end l
tick-of end p a l at = ap (λ (o : Option ProcessorState). option_and_then (tick_at end) o) at

-- a processor looks when its processor state says
pub look-of : (end p : ℕ) (a : Accounts) (l : ProcessorState)
    → slice_get a.by_processor p ≡ Some l → comes_at end a (Look p) ≡ look_at end l
look-of end p a l at = ap (λ (o : Option ProcessorState). option_and_then (look_at end) o) at

-- the phase of a task that runs at a processor ends when it has got what is left of it
pub end-of : (end p task : ℕ) (a : Accounts) (l : ProcessorState) (c : TaskProgress)
    → slice_get a.by_processor p ≡ Some l → l.run ≡ Some task → slice_get a.by_task task ≡ Some c
    → comes_at end a (End p) ≡ until end (phase_end l.since c)
end-of end p task a l c at runs there =
    let v : TaskProgress → Option ℕ = λ d. until end (phase_end l.since d) in
    ap (λ (o : Option ProcessorState). option_and_then (phase_ends_at end a.by_task) o) at
    ∙ ap (λ (o : Option ℕ). option_and_then (λ (k : ℕ). option_and_then v (slice_get a.by_task k)) o) runs
    ∙ ap (λ (o : Option TaskProgress). option_and_then v o) there

-- where nothing runs no phase ends
end-none : (end p : ℕ) (a : Accounts) (l : ProcessorState) → slice_get a.by_processor p ≡ Some l → l.run ≡ None
    → comes_at end a (End p) ≡ None
end-none end p a l at none =
    let v : TaskProgress → Option ℕ = λ d. until end (phase_end l.since d) in
    ap (λ (o : Option ProcessorState). option_and_then (phase_ends_at end a.by_task) o) at
    ∙ ap (λ (o : Option ℕ). option_and_then (λ (k : ℕ). option_and_then v (slice_get a.by_task k)) o) none

-- a tick that is put down where there was none
tick-planned : (periods : Periods) (p now : ℕ) (tick : Option ℕ) (a b : Accounts) (x y : List ℕ)
    → comes_at periods.end a (Tick p) ≡ option_and_then (until periods.end) tick
    → comes_at periods.end b (Tick p) ≡ until periods.end (unwrap_or tick (next_multiple periods.tick now))
    → PlansTick periods p now tick x y → AgreesAt periods.end a x (Tick p)
    → AgreesAt periods.end b y (Tick p)
tick-planned periods p now None a b x y was is plans h =
    agrees_if_planned periods.end (next_multiple periods.tick now) b x y (Tick p) plans is
tick-planned periods p now (Some time) a b x y was is same h =
    agrees_if_kept periods.end a b x y (Tick p) (is ∙ sym was) (λ low. ap (λ (l : List ℕ). at_rank l (FIRST_TICK + p)) same) h

-- a tick that is put down leaves what is due at every other rank
tick-others : (periods : Periods) (p now : ℕ) (tick : Option ℕ) (x y : List ℕ)
    → PlansTick periods p now tick x y → (k : ℕ) → k < LEAVES → k ≢ FIRST_TICK + p → at_rank y k ≡ at_rank x k
tick-others periods p now None x y plans k few other = plans.others k few other
tick-others periods p now (Some time) x y same k few other = ap (λ (l : List ℕ). at_rank l k) same

-- a look that is put down where there are looks
look-planned : (periods : Periods) (p now : ℕ) (look : Option ℕ) (a b : Accounts) (x y : List ℕ)
    → comes_at periods.end a (Look p) ≡ option_and_then (until periods.end) look
    → comes_at periods.end b (Look p) ≡ option_and_then (until periods.end) (option_map (λ _. now) look)
    → PlansLook periods p now look x y → AgreesAt periods.end a x (Look p)
    → AgreesAt periods.end b y (Look p)
look-planned periods p now None a b x y was is same h =
    agrees_if_kept periods.end a b x y (Look p) (is ∙ sym was) (λ low. ap (λ (l : List ℕ). at_rank l (FIRST_LOOK + p)) same) h
look-planned periods p now (Some time) a b x y was is plans h = agrees_if_planned periods.end now b x y (Look p) plans is

-- a look that is put down leaves what is due at every other rank
look-others : (periods : Periods) (p now : ℕ) (look : Option ℕ) (x y : List ℕ)
    → PlansLook periods p now look x y → (k : ℕ) → k < LEAVES → k ≢ FIRST_LOOK + p → at_rank y k ≡ at_rank x k
look-others periods p now None x y same k few other = ap (λ (l : List ℕ). at_rank l k) same
look-others periods p now (Some time) x y plans k few other = plans.others k few other

-- a task that rests begins to run at a processor
pub started-agrees : (periods : Periods) (p t now : ℕ) (processor_state : ProcessorState) (c : TaskProgress)
    (a b : Accounts) (x y : List ℕ)
    → AgreesBut periods.end p a x → slice_get a.by_processor p ≡ Some processor_state
    → TaskRests a t → b ≡ taken_over p (Some t) now periods a → slice_get b.by_task t ≡ Some c
    → PlansTask periods p now processor_state.tick c x y
    → QueueAgrees periods.end b y
started-agrees periods p t now processor_state c a b x y h at rests is there plans =
    let end = periods.end in
    let f : ProcessorState → ProcessorState = occupied periods.tick t now in
    let g : TaskProgress → TaskProgress = moved_to p periods.migration_cost in
    let d : Accounts = both (changed_at g a.by_task t) (changed_at f a.by_processor p) in
    let new : slice_get d.by_processor p ≡ Some (f processor_state) = changed_at-here f a.by_processor p processor_state at in
    let runs : slice_get d.by_task t ≡ Some c = ap (λ (z : Accounts). slice_get z.by_task t) (sym is) ∙ there in
    let low : p < PROCESSORS = plans.ends.there in
    let alone : (q task : ℕ) (l : ProcessorState) → slice_get a.by_processor q ≡ Some l → l.run ≡ Some task → task ≢ t =
    λ q task l here mine same. resting_runs_nowhere a t h.homes rests q l here (mine ∙ ap (λ (n : ℕ). Some n) same) in
    let mid : AgreesAt end d plans.mid (Tick p) =
    tick-planned periods p now processor_state.tick a d x plans.mid (tick-of end p a processor_state at)
    (tick-of end p d (f processor_state) new) plans.ticks (h.ticks p) in
    let whole : QueueAgrees end d y = after-change end p a d x y h (record {
      low = low;
      by_processor = λ q other. changed_at-others f a.by_processor p q other;
      by_task = λ q task l other here mine. changed_at-others g a.by_task t task (alone q task l here mine);
      rings = λ k. changed_at-read g (ring end) (λ e. refl) a.by_task t k;
      ranks = λ k few one two three.
          plans.ends.others k few one ∙ tick-others periods p now processor_state.tick x plans.mid plans.ticks k few two;
      ends = agrees_if_planned end (phase_end now c) d plans.mid y (End p) plans.ends (end-of end p t d (f processor_state) c new refl runs);
      ticks = agrees_if_same_there end d plans.mid y (Tick p) (λ few. plans.ends.others (FIRST_TICK + p) (omega arith) (omega arith)) mid;
      looks =
          agrees_if_kept end a d x y (Look p)
          (look-of end p d (f processor_state) new ∙ sym (look-of end p a processor_state at))
          (λ few.
          plans.ends.others (FIRST_LOOK + p) (omega arith) (omega arith)
          ∙ tick-others periods p now processor_state.tick x plans.mid plans.ticks (FIRST_LOOK + p) (omega arith) (omega arith))
          (h.looks p);
      home = λ task l here mine.
          let processor_state_is : l ≡ f processor_state = same_Some l (f processor_state) (sym here ∙ new) in
          let task_is : t ≡ task = same_Some t task (sym (ap (λ (m : ProcessorState). m.run) processor_state_is) ∙ mine) in
          subst (λ (k : ℕ). HasHome d k p) task_is
          (record { progress = g rests.progress; there = changed_at-here g a.by_task t rests.progress rests.there; home = refl });
    }) in
    subst (λ (z : Accounts). QueueAgrees end z y) (sym is) whole

-- nothing runs at a processor from now on
pub idled-agrees : (periods : Periods) (p now : ℕ) (processor_state : ProcessorState) (a b : Accounts) (x y : List ℕ)
    → AgreesBut periods.end p a x → slice_get a.by_processor p ≡ Some processor_state → b ≡ taken_over p None now periods a
    → PlansNone periods p now processor_state.look x y
    → QueueAgrees periods.end b y
idled-agrees periods p now processor_state a b x y h at is plans =
    let end = periods.end in
    let f : ProcessorState → ProcessorState = idled now in
    let d : Accounts = both a.by_task (changed_at f a.by_processor p) in
    let new : slice_get d.by_processor p ≡ Some (f processor_state) = changed_at-here f a.by_processor p processor_state at in
    let low : p < PROCESSORS = plans.ends.there in
    let one = plans.ends.others in
    let two = plans.ticks.others in
    let three = look-others periods p now processor_state.look plans.still y plans.looks in
    let still : AgreesAt end a plans.still (Look p) =
    agrees_if_same_there end a x plans.still (Look p)
    (λ few. two (FIRST_LOOK + p) (omega arith) (omega arith) ∙ one (FIRST_LOOK + p) (omega arith) (omega arith)) (h.looks p) in
    let whole : QueueAgrees end d y = after-change end p a d x y h (record {
      low = low;
      by_processor = λ q other. changed_at-others f a.by_processor p q other;
      by_task = λ q task l other here mine. refl;
      rings = λ k. refl;
      ranks = λ k few i j l. three k few l ∙ two k few j ∙ one k few i;
      ends =
          agrees_if_same_there end d plans.ended y (End p)
          (λ few. three p (omega arith) (omega arith) ∙ two p (omega arith) (omega arith))
          (agrees_if_dropped end d x plans.ended (End p) plans.ends (end-none end p d (f processor_state) new refl));
      ticks =
          agrees_if_same_there end d plans.still y (Tick p) (λ few. three (FIRST_TICK + p) (omega arith) (omega arith))
          (agrees_if_dropped end d plans.ended plans.still (Tick p) plans.ticks (tick-of end p d (f processor_state) new));
      looks =
          look-planned periods p now processor_state.look a d plans.still y (look-of end p a processor_state at)
          (look-of end p d (f processor_state) new) plans.looks still;
      home = λ task l here mine.
          absurd (none-some task (sym (ap (λ (m : ProcessorState). m.run) (same_Some l (f processor_state) (sym here ∙ new))) ∙ mine));
    }) in
    subst (λ (z : Accounts). QueueAgrees end z y) (sym is) whole
