-- No switch goes astray while all is kept: what ran at a processor ran within its phase, and what is to run there rests until then.
use Rattle.std.proofs.Common.{◌≡◌, ◌≢◌, ℕ, ◌+◌, ◌-◌, ◌/◌, ◌<◌, ◌≤◌, inl, inr, Bool, true, false, List, length, Option, Some, None, refl, sym, subst, ap, ◌∙◌, arith}
use Rattle.std.specs.Prelude.{slice_get, if◌then◌else◌}
use Rattle.std.specs.Option.{option_map_or}
use Rattle.std.proofs.lemmas.Bool.{cases_eq, eq-eqb, true≢false}
use Rattle.std.proofs.lemmas.Option.{none-some, same_Some}
use Rattle.std.proofs.Math.Nat.{add-mul}
use Rattle.std.proofs.lemmas.Nat.{div-add-mod'}
use Rattle.bq_parts.specs.World.{World, count_in}
use Rattle.bq_workload.specs.declared.progress.TaskProgress.{TaskProgress}
use Rattle.bq_workload.specs.declared.processor_state.ProcessorState.{ProcessorState}
use Rattle.bq_workload.specs.declared.periods.Periods.{Periods}
use Rattle.bq_workload.specs.Accounts.{Accounts, accounts_charged, is_same, of_processor, accounts_switched, taken_over}
use Rattle.bq_workload.specs.Next.{TaskRests, runs_at}
use Rattle.bq_workload.specs.Strays.{HasNoNext, IsStrayCharge, IsStrayProcessor, IsStrayRun, IsStraySwitch, IsStrayTakeover}
use Rattle.bq_workload.proofs.ListLemmas.{changed_at-here, changed_at-others, some_or_none}
use Rattle.bq_simulate.specs.Agreement.{AgreesWith, IsOnTime, ProcessorIsOnTime, RunsOnTime, runner_at}
use Rattle.bq_simulate.specs.AgreementLaws.{RunsAlone}
use Rattle.bq_simulate.proofs.AccountsReadLemmas.{Reads, charged_there, reads_charged, reads_switched, same_run}
use Rattle.bq_simulate.proofs.MeetOnTimeLemmas.{sized_alone, sized_on_time}
use Rattle.bq_simulate.proofs.MirrorLemmas.{state_there}
use Rattle.bq_simulate.proofs.StaysOnTimeLemmas.{charged_on_time, runner_low, taken_over_tasks, task_there, tasks_run_alone}
use Rattle.bq_disc.specs.declared.clock.TheConstants.{LATEST}

-- a time between two things that has a next multiple: 64 bits count it
pub next_counted : (between now : ℕ) → 1 ≤ between → between ≤ LATEST → now ≤ LATEST → HasNoNext between now → ⊥
next_counted between now some short early (inl none) = omega (arith, some, none)
next_counted between now some short early (inr late) =
    omega (arith, late, short, early, add-mul (now / between) 1 between, div-add-mod' now between)

-- a processor at which another task may begin to run at an instant: it is one of 64, what runs there runs nowhere
-- else, nothing is past, and its next tick is counted
pub record CanSwitch (periods : Periods) (processor now : ℕ) (a : Accounts) : Type 0 where
  pub state : ProcessorState
  pub at : slice_get a.by_processor processor ≡ Some state
  pub low : processor < 64
  pub alone : RunsAlone a processor
  pub on_time : IsOnTime now a
  pub ticks : HasNoNext periods.tick now → ⊥

-- each processor is one where the accounts agree with a world of no more than 64
pub can_switch : (periods : Periods) (w : World) (a : Accounts) (processor now : ℕ)
    → AgreesWith w a → IsOnTime now a → count_in w ≤ 64 → processor < count_in w → (HasNoNext periods.tick now → ⊥)
    → CanSwitch periods processor now a
can_switch periods w a processor now h time few low ticks =
    let l = state_there w a processor h.mirrors.processors low in
    record { state = l.0; at = l.1; low = omega (arith, low, few); alone = tasks_run_alone w a processor h; on_time = time; ticks = ticks }

-- how many tasks a processor has makes no difference
pub can_switch_sized : (periods : Periods) (processor now at : ℕ) (g : ℕ → ℕ) (a : Accounts)
    → CanSwitch periods processor now a
    → CanSwitch periods processor now (of_processor (λ l. record l { size = g l.size }) at a)
can_switch_sized periods processor now at g a h =
    let f : ProcessorState → ProcessorState = λ l. record l { size = g l.size } in
    let there : (l : ProcessorState) × (slice_get (of_processor f at a).by_processor processor ≡ Some l) =
    elim (cases_eq processor at) [
      | inl same ↦ (
        f h.state,
        subst (λ n. slice_get (of_processor f n a).by_processor processor ≡ Some (f h.state)) same
            (changed_at-here f a.by_processor processor h.state h.at),
      )
      | inr apart ↦ (h.state, changed_at-others f a.by_processor at processor apart ∙ h.at)
    ] in
    record {
      state = there.0;
      at = there.1;
      low = h.low;
      alone = sized_alone at processor g a h.alone;
      on_time = sized_on_time now at g a h.on_time;
      ticks = h.ticks;
    }

-- a task that runs on time is not astray
no_stray_run : (task now : ℕ) (a : Accounts) (l : ProcessorState)
    → l.since ≤ now → RunsOnTime now a.by_task l task → IsStrayRun task l.since now a → ⊥
no_stray_run task now a l since r (inl before) = omega (arith, before, since)
no_stray_run task now a l since r (inr (inl none)) = none-some r.progress (sym none ∙ r.there)
no_stray_run task now a l since r (inr (inr over)) =
    let is : r.progress ≡ over.progress = same_Some r.progress over.progress (sym r.there ∙ over.there) in
    let phase : over.progress.got + (now - l.since) ≤ over.progress.due =
    subst (λ (c : TaskProgress). c.got + (now - l.since) ≤ c.due) is r.phase in
    omega (arith, over.overrun, phase)

-- the time of a processor is counted
pub no_stray_charge : (processor now : ℕ) (a : Accounts) (l : ProcessorState)
    → slice_get a.by_processor processor ≡ Some l → IsOnTime now a → IsStrayCharge processor now a → ⊥
no_stray_charge processor now a l at time (inl none) = none-some l (sym none ∙ at)
no_stray_charge processor now a l at time (inr astray) =
    let p : ProcessorIsOnTime now a.by_task astray.processor_state = time.processors processor astray.processor_state astray.at in
    no_stray_run astray.task now a astray.processor_state p.since (p.runs astray.task astray.runs) astray.astray

-- what runs at a processor
runs_there : (ls : List ProcessorState) (processor task : ℕ) → runs_at ls processor task ≡ true → runner_at ls processor ≡ Some task
runs_there ls processor task runs =
    let test : Option ProcessorState → Bool = λ o. option_map_or (λ (l : ProcessorState). is_same l.run (Some task)) o false in
    let read : Option ProcessorState → Option ℕ = λ o. option_map_or (λ (l : ProcessorState). l.run) o None in
    elim (some_or_none (slice_get ls processor)) [
      | inl none ↦ absurd (true≢false (sym runs ∙ ap test none))
      | inr (l, at) ↦ ap read at ∙ same_run l.run (Some task) (sym (ap test at) ∙ runs)
    ]

-- a processor at which another task runs, or none
pub runs_elsewhere : (ls : List ProcessorState) (processor task : ℕ) → runner_at ls processor ≢ Some task → runs_at ls processor task ≡ false
runs_elsewhere ls processor task apart = by_test (runs_at ls processor task) refl
  where
    by_test : (t : Bool) → runs_at ls processor task ≡ t → runs_at ls processor task ≡ false
    by_test true runs = absurd (apart (runs_there ls processor task runs))
    by_test false runs = runs

-- a task that is to run at a processor, which runs another or none, rests until then
starter_rests : (periods : Periods) (v : World) (processor task now : ℕ) (a : Accounts) (l : ProcessorState)
    → slice_get a.by_processor processor ≡ Some l → is_same l.run (Some task) ≡ false
    → AgreesWith v (accounts_switched processor (Some task) now periods a)
    → TaskRests (accounts_charged processor now a) task
starter_rests periods v processor task now a l at other agrees =
    let mid : Accounts = accounts_charged processor now a in
    let over : Accounts = taken_over processor (Some task) now periods mid in
    let b : Accounts = accounts_switched processor (Some task) now periods a in
    let is : b ≡ over =
    ap (λ (o : Option ProcessorState). option_map_or (λ (x : ProcessorState). if is_same x.run (Some task) then a else over) o a) at
    ∙ ap (λ t. if t then a else over) other in
    let before : Reads processor l.run l.size a mid = reads_charged processor now a l at in
    let after : Reads processor (Some task) l.size a b = reads_switched processor (Some task) now periods a l at in
    let low : task < length mid.by_task = omega (
      arith,
      runner_low v b processor task agrees after.run_here,
      ap (λ (x : Accounts). length x.by_task) is,
      taken_over_tasks processor (Some task) now periods mid,
    ) in
    let t = task_there mid.by_task task low in
    let home : ℕ = t.0.home in
    let nowhere : runner_at mid.by_processor home ≢ Some task = λ runs. elim (cases_eq home processor) [
      | inl same ↦
          let here : l.run ≡ Some task = sym before.run_here ∙ ap (runner_at mid.by_processor) (sym same) ∙ runs in
          true≢false (sym (ap (λ o. is_same o (Some task)) here ∙ eq-eqb task task refl) ∙ other)
      | inr apart ↦
          apart
          (tasks_run_alone v b processor agrees home task after.run_here (after.runs home apart ∙ sym (before.runs home apart) ∙ runs))
    ] in
    record { progress = t.0; there = t.1; still = runs_elsewhere mid.by_processor home task nowhere }

-- a processor that is one of 64
no_stray_processor : (periods : Periods) (processor now : ℕ) (a : Accounts)
    → CanSwitch periods processor now a → IsStrayProcessor processor (accounts_charged processor now a) → ⊥
no_stray_processor periods processor now a h (inl none) =
    none-some (record h.state { since = now }) (sym none ∙ charged_there processor now a h.state h.at)
no_stray_processor periods processor now a h (inr high) = omega (arith, high, h.low)

-- no takeover goes astray after which the accounts agree with a world, whether a task is to run or none
no_stray_takeover : (run : Option ℕ) (periods : Periods) (v : World) (processor now : ℕ) (a : Accounts) (l : ProcessorState)
    → slice_get a.by_processor processor ≡ Some l → is_same l.run run ≡ false
    → CanSwitch periods processor now a → AgreesWith v (accounts_switched processor run now periods a)
    → IsStrayTakeover periods processor run now (accounts_charged processor now a)
    → ⊥
no_stray_takeover None periods v processor now a l at other h agrees astray = no_stray_processor periods processor now a h astray
no_stray_takeover (Some task) periods v processor now a l at other h agrees (inl moves) =
    moves (starter_rests periods v processor task now a l at other agrees)
no_stray_takeover (Some task) periods v processor now a l at other h agrees (inr (inl over)) =
    omega (arith, over.overrun, ((charged_on_time now processor a l at h.alone h.on_time).tasks task over.progress over.there).phase)
no_stray_takeover (Some task) periods v processor now a l at other h agrees (inr (inr (inl late))) = h.ticks late
no_stray_takeover (Some task) periods v processor now a l at other h agrees (inr (inr (inr astray))) =
    no_stray_processor periods processor now a h astray

-- no switch goes astray after which the accounts agree with a world
pub no_stray_switch : (periods : Periods) (v : World) (processor : ℕ) (run : Option ℕ) (now : ℕ) (a : Accounts)
    → CanSwitch periods processor now a → AgreesWith v (accounts_switched processor run now periods a)
    → IsStraySwitch periods processor run now a
    → ⊥
no_stray_switch periods v processor run now a h agrees (inl none) = none-some h.state (sym none ∙ h.at)
no_stray_switch periods v processor run now a h agrees (inr astray) = elim astray.astray [
  | inl charge ↦ no_stray_charge processor now a h.state h.at h.on_time charge
  | inr takeover ↦ no_stray_takeover run periods v processor now a astray.processor_state astray.at astray.other h agrees takeover
]
