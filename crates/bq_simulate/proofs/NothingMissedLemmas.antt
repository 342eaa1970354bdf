-- Nothing is missed: what comes next is not past, and nothing is past then.
use Rattle.std.proofs.Common.{◌≡◌, ℕ, ◌≤◌, inl, inr, Bool, true, false, cond, Option, Some, None, refl, sym, subst, ap, ◌∙◌, arith}
use Rattle.std.specs.Prelude.{◌&&◌, nat_le, option_and_then, slice_get}
use Rattle.std.proofs.lemmas.Bool.{and_from, and_parts, cases_lt, le-leb, leb-true}
use Rattle.std.proofs.lemmas.Option.{none-some}
use Rattle.bq_workload.specs.declared.due.Due.{Due}
use Rattle.bq_workload.specs.declared.due.Due.TheVariants.{End, Wake, Tick, Look}
use Rattle.bq_workload.specs.declared.progress.TaskProgress.{TaskProgress}
use Rattle.bq_workload.specs.declared.progress.TaskState.{TaskState}
use Rattle.bq_workload.specs.declared.progress.TaskState.TheVariants.{Asleep, Waiting, Runnable, Over}
use Rattle.bq_workload.specs.declared.processor_state.ProcessorState.{ProcessorState}
use Rattle.bq_workload.specs.Accounts.{Accounts}
use Rattle.bq_workload.specs.Dues.{phase_end, until}
use Rattle.bq_workload.specs.Next.{IsNextDue, NothingComes, comes_at, phase_ends_at, rings_at}
use Rattle.bq_workload.proofs.ListLemmas.{some_or_none}
use Rattle.bq_workload.proofs.ProcessorAgreesLemmas.{end-of, look-of, look_at, tick-of, tick_at}
use Rattle.bq_workload.proofs.TaskAgreesLemmas.{ring-of}
use Rattle.bq_simulate.specs.Agreement.{IsOnTime, ProcessorIsOnTime, RunsOnTime}
use Rattle.bq_simulate.specs.AgreementLaws.{NothingIsMissed}
use Rattle.bq_disc.specs.declared.clock.TheConstants.{LATEST}

-- what comes until the end comes when it is to, and no later than the end
until_by_test : (b : Bool) (end x time : ℕ) → (nat_le x end && nat_le x LATEST) ≡ b → cond b (Some x) None ≡ Some time
    → (x ≡ time) × (time ≤ end)
until_by_test true end x time test h =
    let same : x ≡ time = cc in
    (same, subst (λ n. n ≤ end) same (leb-true x end (and_parts (nat_le x end) (nat_le x LATEST) test).0))
until_by_test false end x time test h = cc

-- what comes until the end comes when it says, and no later than the end
pub until_is : (end x time : ℕ) → until end x ≡ Some time → (x ≡ time) × (time ≤ end)
until_is end x time h = until_by_test (nat_le x end && nat_le x LATEST) end x time refl h

-- what is to come no later than the end comes
until_some : (end x : ℕ) → x ≤ end → x ≤ LATEST → until end x ≡ Some x
until_some end x low early =
    ap (λ b. cond b (Some x) None) (and_from (nat_le x end) (nat_le x LATEST) (le-leb x end low) (le-leb x LATEST early))

-- what comes next is no later than another thing that is to come
next_first : (end time x : ℕ) (a : Accounts) (due other : Due)
    → IsNextDue end a due time → time ≤ end → end ≤ LATEST → comes_at end a other ≡ until end x → time ≤ x
next_first end time x a due other next low early is = elim (cases_lt x time) [
  | inl before ↦ absurd (next.first other x (is ∙ until_some end x (omega arith) (omega arith)) (inl before))
  | inr later ↦ later
]

-- the timer of a task that is asleep rings at its time, if that is by the end
ring-asleep : (end timer : ℕ) (s : TaskState) → s ≡ Asleep → rings_at end s timer ≡ until end timer
ring-asleep end timer s is = ap (λ x. rings_at end x timer) is

-- a timer that rings is that of a task that sleeps until then
pub rings_asleep : (end timer time : ℕ) (s : TaskState) → rings_at end s timer ≡ Some time → (s ≡ Asleep) × (timer ≡ time) × (time ≤ end)
rings_asleep end timer time Asleep h = let u = until_is end timer time h in (refl, u.0, u.1)
rings_asleep end timer time Waiting h = cc
rings_asleep end timer time Runnable h = cc
rings_asleep end timer time Over h = cc

-- a processor that comes at some time is there
pub record Comes (now time end : ℕ) : Type 0 where
  pub later : now ≤ time
  pub until : time ≤ end

-- what comes is not past and comes by the end, be it the end of a phase, a wake, a tick or a look:
end_comes : (end now time processor : ℕ) (a : Accounts) → end ≤ LATEST → IsOnTime now a
    → comes_at end a (End processor) ≡ Some time
    → Comes now time end
end_comes end now time processor a early h comes = elim (some_or_none (slice_get a.by_processor processor)) [
  | inl none ↦ absurd (none-some time (sym (ap (λ (o : Option ProcessorState). option_and_then (phase_ends_at end a.by_task) o) none) ∙ comes))
  | inr (l, at) ↦
      let p : ProcessorIsOnTime now a.by_task l = h.processors processor l at in
      let ends : phase_ends_at end a.by_task l ≡ Some time =
      sym (ap (λ (o : Option ProcessorState). option_and_then (phase_ends_at end a.by_task) o) at) ∙ comes in
      elim (some_or_none l.run) [
        | inl none ↦
            absurd (none-some time (sym (ap
            (λ (o : Option ℕ).
            option_and_then (λ task. option_and_then (λ (c : TaskProgress). until end (phase_end l.since c)) (slice_get a.by_task task)) o)
            none)
            ∙ ends))
        | inr (task, runs) ↦
            let r : RunsOnTime now a.by_task l task = p.runs task runs in
            let u =
            until_is end (phase_end l.since r.progress) time
            (sym (end-of end processor task a l r.progress at runs r.there) ∙ comes) in
            record { later = omega (arith, u.0, u.1, r.phase, p.since, early); until = u.1 }
      ]
]

wake_comes : (end now time task : ℕ) (a : Accounts) → IsOnTime now a → comes_at end a (Wake task) ≡ Some time → Comes now time end
wake_comes end now time task a h comes = elim (some_or_none (slice_get a.by_task task)) [
  | inl none ↦
      absurd (none-some time
      (sym (ap (λ (o : Option TaskProgress). option_and_then (λ (x : TaskProgress). rings_at end x.task_state x.timer) o) none) ∙ comes))
  | inr (c, at) ↦
      let u = rings_asleep end c.timer time c.task_state (sym (ring-of end task a c at) ∙ comes) in
      record { later = subst (λ n. now ≤ n) u.1 ((h.tasks task c at).timer u.0); until = u.2 }
]

tick_comes : (end now time processor : ℕ) (a : Accounts) → IsOnTime now a → comes_at end a (Tick processor) ≡ Some time → Comes now time end
tick_comes end now time processor a h comes = elim (some_or_none (slice_get a.by_processor processor)) [
  | inl none ↦ absurd (none-some time (sym (ap (λ (o : Option ProcessorState). option_and_then (tick_at end) o) none) ∙ comes))
  | inr (l, at) ↦
      let p : ProcessorIsOnTime now a.by_task l = h.processors processor l at in
      let ticks : option_and_then (until end) l.tick ≡ Some time = sym (tick-of end processor a l at) ∙ comes in
      elim (some_or_none l.run) [
        | inl none ↦ absurd (none-some time (sym (ap (λ (o : Option ℕ). option_and_then (until end) o) (p.rests none)) ∙ ticks))
        | inr (task, runs) ↦
            let r : RunsOnTime now a.by_task l task = p.runs task runs in
            let u = until_is end r.next time (sym (ap (λ (o : Option ℕ). option_and_then (until end) o) r.tick) ∙ ticks) in
            record { later = subst (λ n. now ≤ n) u.0 r.later; until = u.1 }
      ]
]

look_comes : (end now time processor : ℕ) (a : Accounts) → IsOnTime now a → comes_at end a (Look processor) ≡ Some time → Comes now time end
look_comes end now time processor a h comes = elim (some_or_none (slice_get a.by_processor processor)) [
  | inl none ↦ absurd (none-some time (sym (ap (λ (o : Option ProcessorState). option_and_then (look_at end) o) none) ∙ comes))
  | inr (l, at) ↦
      let p : ProcessorIsOnTime now a.by_task l = h.processors processor l at in
      let looks : option_and_then (until end) l.look ≡ Some time = sym (look-of end processor a l at) ∙ comes in
      elim (some_or_none l.look) [
        | inl none ↦ absurd (none-some time (sym (ap (λ (o : Option ℕ). option_and_then (until end) o) none) ∙ looks))
        | inr (x, is) ↦
            let u = until_is end x time (sym (ap (λ (o : Option ℕ). option_and_then (until end) o) is) ∙ looks) in
            record { later = subst (λ n. now ≤ n) u.0 (p.looks x is); until = u.1 }
      ]
]

-- nothing comes that is past
comes_later : (end now time : ℕ) (a : Accounts) (due : Due) → end ≤ LATEST → IsOnTime now a → comes_at end a due ≡ Some time
    → Comes now time end
comes_later end now time a (End processor) early h comes = end_comes end now time processor a early h comes
comes_later end now time a (Wake task) early h comes = wake_comes end now time task a h comes
comes_later end now time a (Tick processor) early h comes = tick_comes end now time processor a h comes
comes_later end now time a (Look processor) early h comes = look_comes end now time processor a h comes

-- what is on time at an instant is so at a later one, before which nothing comes
on_time_later : (end now time : ℕ) (a : Accounts) → now ≤ time
    → ((other : Due) (x : ℕ) → comes_at end a other ≡ until end x → time ≤ x) → IsOnTime now a
    → IsOnTime time a
on_time_later end now time a later first h =
    record {
      tasks = λ task k at. record {
        phase = (h.tasks task k at).phase;
        timer = λ asleep. first (Wake task) k.timer (ring-of end task a k at ∙ ring-asleep end k.timer k.task_state asleep);
      };
      processors = λ processor l at.
          let p : ProcessorIsOnTime now a.by_task l = h.processors processor l at in
          record {
            since = omega (arith, p.since, later);
            looks =
                λ x is.
                first (Look processor) x (look-of end processor a l at ∙ ap (λ (o : Option ℕ). option_and_then (until end) o) is);
            runs = λ task runs.
                let r : RunsOnTime now a.by_task l task = p.runs task runs in
                let ends : time ≤ phase_end l.since r.progress =
                first (End processor) (phase_end l.since r.progress)
                (end-of end processor task a l r.progress at runs r.there) in
                record {
                  progress = r.progress;
                  there = r.there;
                  phase = omega (arith, ends, r.phase, p.since, later);
                  next = r.next;
                  tick = r.tick;
                  later =
                      first (Tick processor) r.next
                      (tick-of end processor a l at ∙ ap (λ (o : Option ℕ). option_and_then (until end) o) r.tick);
                };
            rests = p.rests;
          };
    }

-- when the next event comes nothing that is due before it is missed
pub nothing_is_missed : NothingIsMissed
nothing_is_missed end now time a due early h next =
    let c : Comes now time end = comes_later end now time a due early h next.comes in
    let first : (other : Due) (x : ℕ) → comes_at end a other ≡ until end x → time ≤ x =
    λ other x is. next_first end time x a due other next c.until early is in
    (c.later, c.until, on_time_later end now time a c.later first h)

-- what does not come until the end comes no earlier than the end
not_until : (end x : ℕ) → end ≤ LATEST → until end x ≡ None → end ≤ x
not_until end x early none = elim (cases_lt x end) [
  | inl before ↦ absurd (none-some x (sym none ∙ until_some end x (omega (arith, before)) (omega (arith, before, early))))
  | inr later ↦ later
]

-- nothing is past at the end where nothing comes any more
pub on_time_to_end : (end now : ℕ) (a : Accounts) → end ≤ LATEST → now ≤ end → NothingComes end a → IsOnTime now a → IsOnTime end a
on_time_to_end end now a early later none h =
    on_time_later end now end a later (λ other x is. not_until end x early (sym is ∙ none other)) h
