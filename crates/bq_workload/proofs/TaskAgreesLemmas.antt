-- Changes of one task after which the event queue agrees with the accounts: its phase ends, it takes its next action up, it wakes, it is new.
use Rattle.std.proofs.Common.{◌≡◌, ◌≢◌, ℕ, ◌+◌, ◌-◌, ◌<◌, ◌≤◌, ◌^◌, inl, inr, List, [], ◌∷◌, ◌++◌, length, Option, Some, refl, sym, ap, ◌∙◌, subst, arith}
use Rattle.std.specs.Prelude.{option_and_then, slice_get, slice_set, IfSome}
use Rattle.std.proofs.lemmas.Bool.{cases_eq}
use Rattle.std.proofs.lemmas.Option.{same_Some}
use Rattle.bq_workload.specs.declared.progress.TaskProgress.{TaskProgress}
use Rattle.bq_workload.specs.declared.due.Due.TheVariants.{End, Wake, Tick, Look}
use Rattle.bq_workload.specs.declared.processor_state.ProcessorState.{ProcessorState}
use Rattle.bq_workload.specs.declared.due.TheConstants.{FIRST_LOOK, FIRST_TICK, FIRST_WAKE}
use Rattle.bq_workload.specs.declared.event_queue.TheConstants.{LEAVES}
use Rattle.bq_workload.specs.declared.progress.TaskState.{TaskState}
use Rattle.bq_workload.specs.declared.progress.TaskState.TheVariants.{Asleep, Waiting, Runnable, Over}
use Rattle.bq_workload.specs.Accounts.{Accounts, changed_at, accounts_charged, IsPhaseDone, of_task}
use Rattle.bq_workload.specs.Dues.{IsDropped, IsPlanned, phase_end, until}
use Rattle.bq_workload.specs.Minima.{at_rank}
use Rattle.bq_workload.specs.Next.{AgreesAt, HasHome, HaveHomes, TaskRests, comes_at, QueueAgrees, rings_at}
use Rattle.bq_workload.specs.TaskProgress.{run_for, progress_woken}
use Rattle.bq_workload.specs.Plans.{PlansProgress, PlansTimer}
use Rattle.bq_workload.proofs.ListLemmas.{slice_get-set_other, slice_get-set_here, changed_at-others, changed_at-here, in-longer, appended, appended_others}
use Rattle.bq_workload.proofs.AgreesAtLemmas.{agrees_if_kept, agrees_if_planned, agrees_if_dropped, kept-end, kept-home, one-home, resting_runs_nowhere}
use Rattle.bq_workload.proofs.ProcessorAgreesLemmas.{both, agrees_if_same_there, AgreesBut, with_end, since_now, counted, charged-is, counted-here, charged-agrees, end-of}
use Rattle.bq_disc.specs.declared.limits.TheConstants.{PROCESSORS, TASKS}

-- a phase that has just ended ends when it was to
ends-now : (since now : ℕ) (c : TaskProgress) → since ≤ now → now < 2 ^ 64 → c.got + (now - since) ≡ c.due
    → phase_end now (run_for (now - since) c) ≡ phase_end since c
ends-now since now c early late done = omega arith

-- the phase of the task that runs at a processor has just ended
pub done-agrees : (end p now task : ℕ) (processor_state : ProcessorState) (c : TaskProgress) (a b : Accounts) (x y : List ℕ)
    → slice_get a.by_processor p ≡ Some processor_state → IfSome processor_state.run (λ _. processor_state.since ≤ now)
    → now < 2 ^ 64 → b ≡ accounts_charged p now a → y ≡ x → IsPhaseDone b p task c → QueueAgrees end a x
    → QueueAgrees end b y
done-agrees end p now task processor_state c a b x y at early late is event_queue done h =
    let d = both (counted processor_state now a.by_task) (changed_at (since_now now) a.by_processor p) in
    let same : b ≡ d = is ∙ charged-is p now processor_state a at in
    let new : slice_get d.by_processor p ≡ Some (since_now now processor_state) =
    changed_at-here (since_now now) a.by_processor p processor_state at in
    let processor_state_is : done.processor_state ≡ since_now now processor_state =
    same_Some done.processor_state (since_now now processor_state)
    (sym done.at ∙ ap (λ (z : Accounts). slice_get z.by_processor p) same ∙ new) in
    let runs : processor_state.run ≡ Some task = sym (ap (λ (l : ProcessorState). l.run) processor_state_is) ∙ done.runs in
    let home : HasHome a task p = h.homes p task processor_state at runs in
    let there : slice_get d.by_task task ≡ Some (run_for (now - processor_state.since) home.progress) =
    counted-here processor_state now a.by_task task home.progress runs home.there in
    let progress_is : c ≡ run_for (now - processor_state.since) home.progress =
    same_Some c (run_for (now - processor_state.since) home.progress)
    (sym done.there ∙ ap (λ (z : Accounts). slice_get z.by_task task) same ∙ there) in
    let exact : home.progress.got + (now - processor_state.since) ≡ home.progress.due =
    sym (ap (λ (k : TaskProgress). k.got) progress_is) ∙ done.done ∙ ap (λ (k : TaskProgress). k.due) progress_is in
    let soon : processor_state.since ≤ now = subst (λ (o : Option ℕ). IfSome o (λ _. processor_state.since ≤ now)) runs early in
    let e : comes_at end d (End p) ≡ comes_at end a (End p) =
    end-of end p task d (since_now now processor_state) (run_for (now - processor_state.since) home.progress) new runs there
    ∙ ap (until end) (ends-now processor_state.since now home.progress soon late exact)
    ∙ sym (end-of end p task a processor_state home.progress at runs home.there) in
    let others : AgreesBut end p d x =
    subst (λ (z : Accounts). AgreesBut end p z x) (charged-is p now processor_state a at)
    (charged-agrees end p now processor_state a x at h) in
    let whole : QueueAgrees end d x = record {
      all = with_end end p d x others (agrees_if_kept end a d x x (End p) e (λ low. refl) (h.all (End p)));
      homes = others.homes;
    } in
    subst (λ (z : Accounts). QueueAgrees end z y) (sym same) (subst (λ (l : List ℕ). QueueAgrees end d l) (sym event_queue) whole)

-- a task's timer rings when its progress says
pub ring-of : (end task : ℕ) (a : Accounts) (c : TaskProgress) → slice_get a.by_task task ≡ Some c
    → comes_at end a (Wake task) ≡ rings_at end c.task_state c.timer
ring-of end task a c there = ap (λ (o : Option TaskProgress). option_and_then (λ d. rings_at end d.task_state d.timer) o) there

-- a timer that is put down, or none
timer-planned : (end task timer : ℕ) (task_state : TaskState) (b : Accounts) (x y : List ℕ)
    → comes_at end b (Wake task) ≡ rings_at end task_state timer → PlansTimer end task task_state timer x y
    → AgreesAt end b y (Wake task)
timer-planned end task timer Asleep b x y is plan = agrees_if_planned end timer b x y (Wake task) plan is
timer-planned end task timer Waiting b x y is plan = agrees_if_dropped end b x y (Wake task) plan is
timer-planned end task timer Runnable b x y is plan = agrees_if_dropped end b x y (Wake task) plan is
timer-planned end task timer Over b x y is plan = agrees_if_dropped end b x y (Wake task) plan is

-- a timer that is put down, or dropped, leaves what is due at every other rank
timer-others : (end task timer : ℕ) (task_state : TaskState) (x y : List ℕ)
    → PlansTimer end task task_state timer x y → (k : ℕ) → k < LEAVES → k ≢ FIRST_WAKE + task
    → at_rank y k ≡ at_rank x k
timer-others end task timer Asleep x y plan k few other = plan.others k few other
timer-others end task timer Waiting x y plan k few other = plan.others k few other
timer-others end task timer Runnable x y plan k few other = plan.others k few other
timer-others end task timer Over x y plan k few other = plan.others k few other

-- a task whose timer is put down, or dropped, has a number below the most tasks
timer-there : (end task timer : ℕ) (task_state : TaskState) (x y : List ℕ) → PlansTimer end task task_state timer x y → task < TASKS
timer-there end task timer Asleep x y plan = plan.there
timer-there end task timer Waiting x y plan = plan.there
timer-there end task timer Runnable x y plan = plan.there
timer-there end task timer Over x y plan = plan.there

-- the task that runs at a processor has come so far
pub taken_up-agrees : (end p task : ℕ) (processor_state : ProcessorState) (c : TaskProgress) (a b : Accounts) (x y : List ℕ)
    → slice_get a.by_processor p ≡ Some processor_state → b.by_task ≡ slice_set a.by_task task c
    → b.by_processor ≡ a.by_processor → PlansProgress end p task processor_state c x y → QueueAgrees end a x
    → QueueAgrees end b y
taken_up-agrees end p task processor_state c a b x y at by_task by_processor plan h =
    let d = both (slice_set a.by_task task c) a.by_processor in
    let is : b ≡ d =
    ap (λ (l : List TaskProgress). both l b.by_processor) by_task
    ∙ ap (λ (l : List ProcessorState). both (slice_set a.by_task task c) l) by_processor in
    let low : p < PROCESSORS = plan.ends.there in
    let few : task < TASKS = timer-there end task c.timer c.task_state x plan.mid plan.timer in
    let home : HasHome a task p = h.homes p task processor_state at plan.runs in
    let there : slice_get d.by_task task ≡ Some c = slice_get-set_here a.by_task task c home.progress home.there in
    let others : (k : ℕ) → k ≢ task → slice_get d.by_task k ≡ slice_get a.by_task k =
    λ k other. slice_get-set_other a.by_task task k c other in
    let mine : HasHome d task p = record { progress = c; there = there; home = plan.home } in
    let one = plan.ends.others in
    let two = timer-others end task c.timer c.task_state x plan.mid plan.timer in
    let wakes : (k : ℕ) → AgreesAt end d y (Wake k) = λ k. elim (cases_eq k task) [
      | inl same ↦
          subst (λ (n : ℕ). AgreesAt end d y (Wake n)) (sym same)
          (agrees_if_same_there end d plan.mid y (Wake task) (λ small. one (FIRST_WAKE + task) (omega arith) (omega arith))
          (timer-planned end task c.timer c.task_state d x plan.mid (ring-of end task d c there) plan.timer))
      | inr other ↦
          agrees_if_kept end a d x y (Wake k)
          (ap (λ (o : Option TaskProgress). option_and_then (λ e. rings_at end e.task_state e.timer) o) (others k other))
          (λ small. one (FIRST_WAKE + k) (omega arith) (omega arith) ∙ two (FIRST_WAKE + k) (omega arith) (omega arith)) (h.all (Wake k))
    ] in
    let homes : HaveHomes d = λ q k l here runs. elim (cases_eq k task) [
      | inl same ↦
          subst (λ (n : ℕ). HasHome d n q) (sym same)
          (subst (λ (n : ℕ). HasHome d task n)
          (one-home a task p q home (subst (λ (n : ℕ). HasHome a n q) same (h.homes q k l here runs))) mine)
      | inr other ↦ kept-home a d k q (others k other) (h.homes q k l here runs)
    ] in
    let alone : (q k : ℕ) (l : ProcessorState) → q ≢ p → slice_get a.by_processor q ≡ Some l → l.run ≡ Some k → k ≢ task =
    λ q k l other here runs same.
    other (one-home a task q p (subst (λ (n : ℕ). HasHome a n q) same (h.homes q k l here runs)) home) in
    let rest : AgreesBut end p d y = record {
      ends = λ q other.
          kept-end end q a d x y refl (λ k l here runs. others k (alone q k l other here runs))
          (λ small. one q (omega arith) other ∙ two q (omega arith) (omega arith)) (h.all (End q));
      wakes = wakes;
      ticks = λ q.
          agrees_if_kept end a d x y (Tick q) refl
          (λ small. one (FIRST_TICK + q) (omega arith) (omega arith) ∙ two (FIRST_TICK + q) (omega arith) (omega arith)) (h.all (Tick q));
      looks = λ q.
          agrees_if_kept end a d x y (Look q) refl
          (λ small. one (FIRST_LOOK + q) (omega arith) (omega arith) ∙ two (FIRST_LOOK + q) (omega arith) (omega arith)) (h.all (Look q));
      homes = homes;
    } in
    let ends =
    agrees_if_planned end (phase_end processor_state.since c) d plan.mid y (End p) plan.ends
    (end-of end p task d processor_state c at plan.runs there) in
    let whole : QueueAgrees end d y = record { all = with_end end p d y rest ends; homes = homes } in
    subst (λ (z : Accounts). QueueAgrees end z y) (sym is) whole

-- a task that rests is woken
pub woken-agrees : (end task : ℕ) (a b : Accounts) (x y : List ℕ)
    → TaskRests a task → b ≡ of_task progress_woken task a → IsDropped (Wake task) x y → QueueAgrees end a x → QueueAgrees end b y
woken-agrees end task a b x y rests is plan h =
    let d = of_task progress_woken task a in
    let there : slice_get d.by_task task ≡ Some (progress_woken rests.progress) = changed_at-here progress_woken a.by_task task rests.progress rests.there in
    let others : (k : ℕ) → k ≢ task → slice_get d.by_task k ≡ slice_get a.by_task k =
    λ k other. changed_at-others progress_woken a.by_task task k other in
    let few : task < TASKS = plan.there in
    let alone : (q k : ℕ) (l : ProcessorState) → slice_get a.by_processor q ≡ Some l → l.run ≡ Some k → k ≢ task =
    λ q k l here runs same. resting_runs_nowhere a task h.homes rests q l here (runs ∙ ap (λ (n : ℕ). Some n) same) in
    let homes : HaveHomes d = λ q k l here runs. kept-home a d k q (others k (alone q k l here runs)) (h.homes q k l here runs) in
    let ends : (q : ℕ) → AgreesAt end d y (End q) = λ q.
    kept-end end q a d x y refl (λ k l here runs. others k (alone q k l here runs))
    (λ small. plan.others q (omega arith) (omega arith)) (h.all (End q)) in
    let rest : AgreesBut end PROCESSORS d y = record {
      ends = λ q other. ends q;
      wakes = λ k. elim (cases_eq k task) [
        | inl same ↦
            subst (λ (n : ℕ). AgreesAt end d y (Wake n)) (sym same)
            (agrees_if_dropped end d x y (Wake task) plan (ring-of end task d (progress_woken rests.progress) there))
        | inr other ↦
            agrees_if_kept end a d x y (Wake k)
            (ap (λ (o : Option TaskProgress). option_and_then (λ e. rings_at end e.task_state e.timer) o) (others k other))
            (λ small. plan.others (FIRST_WAKE + k) (omega arith) (omega arith)) (h.all (Wake k))
      ];
      ticks = λ q. agrees_if_kept end a d x y (Tick q) refl (λ small. plan.others (FIRST_TICK + q) (omega arith) (omega arith)) (h.all (Tick q));
      looks = λ q. agrees_if_kept end a d x y (Look q) refl (λ small. plan.others (FIRST_LOOK + q) (omega arith) (omega arith)) (h.all (Look q));
      homes = homes;
    } in
    let whole : QueueAgrees end d y = record { all = with_end end PROCESSORS d y rest (ends PROCESSORS); homes = homes } in
    subst (λ (z : Accounts). QueueAgrees end z y) (sym is) whole

-- one task more, which sleeps until its timer rings
pub added-agrees : (end task : ℕ) (c : TaskProgress) (a b : Accounts) (x y : List ℕ)
    → task ≡ length a.by_task → c.task_state ≡ Asleep → b.by_task ≡ a.by_task ++ c ∷ [] → b.by_processor ≡ a.by_processor
    → IsPlanned end (Wake task) c.timer x y → QueueAgrees end a x
    → QueueAgrees end b y
added-agrees end task c a b x y number asleep by_task by_processor plan h =
    let d = both (a.by_task ++ c ∷ []) a.by_processor in
    let is : b ≡ d =
    ap (λ (l : List TaskProgress). both l b.by_processor) by_task
    ∙ ap (λ (l : List ProcessorState). both (a.by_task ++ c ∷ []) l) by_processor in
    let few : task < TASKS = plan.there in
    let there : slice_get d.by_task task ≡ Some c = ap (slice_get d.by_task) number ∙ appended a.by_task c in
    let others : (k : ℕ) → k ≢ task → slice_get d.by_task k ≡ slice_get a.by_task k =
    λ k other. appended_others a.by_task c k (λ e. other (e ∙ sym number)) in
    let stays : (q k : ℕ) (l : ProcessorState) → slice_get a.by_processor q ≡ Some l → l.run ≡ Some k
    → slice_get d.by_task k ≡ slice_get a.by_task k =
    λ q k l here runs.
    let home : HasHome a k q = h.homes q k l here runs in
    in-longer a.by_task (c ∷ []) k home.progress home.there ∙ sym home.there in
    let homes : HaveHomes d = λ q k l here runs. kept-home a d k q (stays q k l here runs) (h.homes q k l here runs) in
    let ends : (q : ℕ) → AgreesAt end d y (End q) =
    λ q. kept-end end q a d x y refl (stays q) (λ small. plan.others q (omega arith) (omega arith)) (h.all (End q)) in
    let rest : AgreesBut end PROCESSORS d y = record {
      ends = λ q other. ends q;
      wakes = λ k. elim (cases_eq k task) [
        | inl same ↦
            subst (λ (n : ℕ). AgreesAt end d y (Wake n)) (sym same)
            (agrees_if_planned end c.timer d x y (Wake task) plan
            (ring-of end task d c there ∙ ap (λ (s : TaskState). rings_at end s c.timer) asleep))
        | inr other ↦
            agrees_if_kept end a d x y (Wake k)
            (ap (λ (o : Option TaskProgress). option_and_then (λ e. rings_at end e.task_state e.timer) o) (others k other))
            (λ small. plan.others (FIRST_WAKE + k) (omega arith) (omega arith)) (h.all (Wake k))
      ];
      ticks = λ q. agrees_if_kept end a d x y (Tick q) refl (λ small. plan.others (FIRST_TICK + q) (omega arith) (omega arith)) (h.all (Tick q));
      looks = λ q. agrees_if_kept end a d x y (Look q) refl (λ small. plan.others (FIRST_LOOK + q) (omega arith) (omega arith)) (h.all (Look q));
      homes = homes;
    } in
    let whole : QueueAgrees end d y = record { all = with_end end PROCESSORS d y rest (ends PROCESSORS); homes = homes } in
    subst (λ (z : Accounts). QueueAgrees end z y) (sym is) whole
