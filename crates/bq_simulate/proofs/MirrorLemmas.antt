-- How accounts that mirror a world mirror the one that an event leaves.
use Rattle.std.proofs.Common.{◌≡◌, ℕ, ◌-◌, ◌<◌, inl, inr, Bool, true, false, cond, List, [], ◌∷◌, length, Option, Some, None, refl, sym, subst, ap, ◌∙◌, arith, get_or}
use Rattle.std.specs.Prelude.{Ok, slice_get, if◌then◌else◌}
use Rattle.std.specs.Option.{option_map_or}
use Rattle.std.proofs.lemmas.Bool.{lt-leb}
use Rattle.std.proofs.lemmas.List.{length-set}
use Rattle.std.proofs.lemmas.Option.{slice_get-get_or}
use Rattle.bq_bpf.specs.declared.board.CounterCall.{CounterCall}
use Rattle.bq_disc.specs.Tasks.{Task, id_of}
use Rattle.bq_disc.specs.Discipline.{Discipline}
use Rattle.bq_disc.specs.OneProcessor.{Running, present_at, charge, decided}
use Rattle.bq_parts.specs.declared.event.Event.{Event}
use Rattle.bq_parts.specs.declared.reply.Reply.{Reply}
use Rattle.bq_parts.specs.declared.refusal.Refusal.TheVariants as no
use Rattle.bq_parts.specs.Processors.{Processor, new_processor, size_of}
use Rattle.bq_parts.specs.World.{World, processor_at, entry_of_id, count_in, with_processor}
use Rattle.bq_parts.specs.Choices.{PolicySemantics}
use Rattle.bq_parts.specs.Refusals.{first_refusal, no_processor}
use Rattle.bq_parts.specs.Orderly.{IsOrderly}
use Rattle.bq_parts.specs.Steps.{WorldStep}
use Rattle.bq_parts.proofs.TallyLemmas.{tally, tally-charge, tally-decided}
use Rattle.bq_core.proofs.EachProcessorLemmas.{at_set, at_set_else}
use Rattle.bq_core.proofs.OrderLemmas.{step_keeps}
use Rattle.bq_core.proofs.SizeLemmas.{step_count}
use Rattle.bq_workload.specs.declared.progress.TaskProgress.{TaskProgress}
use Rattle.bq_workload.specs.declared.processor_state.ProcessorState.{ProcessorState}
use Rattle.bq_workload.specs.declared.periods.Periods.{Periods}
use Rattle.bq_workload.specs.Accounts.{Accounts, accounts_charged, runner_charged, is_same, occupied, of_processor, of_task, accounts_switched, taken_over}
use Rattle.bq_workload.specs.TaskProgress.{moved_to, run_for}
use Rattle.bq_workload.specs.Dues.{size_at}
use Rattle.bq_workload.proofs.ListLemmas.{stood_before_change}
use Rattle.bq_simulate.specs.Agreement.{AgreesWith, HaveProcessors, IsSettled, Mirrors, RunsAs, StandsAs, runner_at, state_at}
use Rattle.bq_simulate.proofs.AccountsReadLemmas.{Reads}

-- how many some tasks are
abbrev pub each : ℕ → ℕ → ℕ
each id mask = 1

-- where each counts as one, a tally is how many there are
pub tally_length : (xs : List Task) → tally each xs ≡ length xs
tally_length [] = refl
tally_length (x ∷ xs) = omega (arith, tally_length xs)

-- as many run or wait after time has passed, and it was decided who runs
pub size_decided : (d : Discipline) (p : Running) (now : ℕ) (gives_way : Bool)
    → length (present_at (decided d (charge d p now) (charge d p now).current gives_way)) ≡ length (present_at p)
size_decided d p now gives_way =
    let c : Running = charge d p now in
    let e : Running = decided d c c.current gives_way in
    sym (tally_length (present_at e)) ∙ tally-decided each d c c.current gives_way refl ∙ tally-charge each d p now
    ∙ tally_length (present_at p)

-- a processor of the accounts
pub state_there : (w : World) (a : Accounts) (processor : ℕ) → RunsAs w a → processor < count_in w
    → (l : ProcessorState) × (slice_get a.by_processor processor ≡ Some l)
state_there w a processor h low =
    let none : ProcessorState = record { run = None; since = 0; size = 0; tick = None; look = None } in
    (get_or a.by_processor processor none, slice_get-get_or a.by_processor processor none (omega (arith, h.many)))

-- it has as many tasks as the world says
pub size_there : (w : World) (a : Accounts) (processor : ℕ) (l : ProcessorState)
    → RunsAs w a → slice_get a.by_processor processor ≡ Some l → l.size ≡ size_of (processor_at w processor)
size_there w a processor l h at =
    sym (ap (λ (o : Option ProcessorState). option_map_or (λ (x : ProcessorState). x.size) o 0) at) ∙ h.sizes processor

-- a processor of the accounts runs what the world says
pub run_there : (w : World) (a : Accounts) (processor : ℕ) (l : ProcessorState)
    → RunsAs w a → slice_get a.by_processor processor ≡ Some l
    → l.run ≡ id_of (processor_at w processor).running.current
run_there w a processor l h at =
    sym (ap (λ (o : Option ProcessorState). option_map_or (λ (x : ProcessorState). x.run) o None) at) ∙ h.runs processor

-- one processor is written, and the accounts say of it what it is
pub runs_written : (w : World) (a b : Accounts) (processor : ℕ) (q : Processor) (run : Option ℕ) (size : ℕ)
    → RunsAs w a → processor < count_in w → Reads processor run size a b → run ≡ id_of q.running.current → size ≡ size_of q
    → RunsAs (with_processor w processor q) b
runs_written w a b processor q run size h low reads runs sizes = record {
  many = reads.many ∙ h.many ∙ sym (length-set w.processors processor q);
  runs =
      at_set_else (λ n (p : Processor). runner_at b.by_processor n ≡ id_of p.running.current) w.processors processor q new_processor
      low (reads.run_here ∙ runs) (λ other apart. reads.runs other apart ∙ h.runs other);
  sizes =
      at_set_else (λ n (p : Processor). size_at b.by_processor n ≡ size_of p) w.processors processor q new_processor low
      (reads.size_here ∙ sizes) (λ other apart. reads.sizes other apart ∙ h.sizes other);
}

-- tasks are in the states that they were in
pub tasks_kept : (w : World) (a b : Accounts) → ((task : ℕ) → state_at b.by_task task ≡ state_at a.by_task task)
    → ((task : ℕ) → StandsAs (state_at a.by_task task) (entry_of_id w task))
    → (task : ℕ) → StandsAs (state_at b.by_task task) (entry_of_id w task)
tasks_kept w a b same h task = subst (λ s. StandsAs s (entry_of_id w task)) (sym (same task)) (h task)

-- a hand that is empty stays so
pub settled_written : (w : World) (processor : ℕ) (q : Processor) → IsSettled w → q.hand ≡ None → IsSettled (with_processor w processor q)
settled_written w processor q h empty = record {
  hands = at_set (λ n (p : Processor). p.hand ≡ None) w.processors processor q new_processor empty h.hands;
  inboxes = h.inboxes;
}

-- homes

-- a task has come further, and was last at one of the processors
pub homes_task : (count task : ℕ) (f : TaskProgress → TaskProgress) (a : Accounts)
    → ((c : TaskProgress) → c.home < count → (f c).home < count) → HaveProcessors count a
    → HaveProcessors count (of_task f task a)
homes_task count task f a kept h k c at =
    let was = stood_before_change f a.by_task task k c at in
    elim was.2 [
      | inl is ↦ subst (λ (x : TaskProgress). x.home < count) (sym is) (h k was.0 was.1)
      | inr is ↦ subst (λ (x : TaskProgress). x.home < count) (sym is) (kept was.0 (h k was.0 was.1))
    ]

-- the time of the task that runs is counted, and each task was still last at one of the processors
homes_charged_by : (count : ℕ) (l : ProcessorState) (now : ℕ) (a : Accounts)
    → HaveProcessors count a → HaveProcessors count (runner_charged l now a)
homes_charged_by count l now a h =
    elim l.run as (λ (o : Option ℕ). HaveProcessors count (runner_charged (record l { run = o }) now a))
    [ None ↦ h | Some task ↦ homes_task count task (run_for (now - l.since)) a (λ c low. low) h ]

-- the time of a processor is counted
pub homes_charged : (count processor now : ℕ) (a : Accounts) → HaveProcessors count a → HaveProcessors count (accounts_charged processor now a)
homes_charged count processor now a h =
    let f : ProcessorState → ProcessorState = λ x. record x { since = now } in
    elim (slice_get a.by_processor processor) as (λ (o : Option ProcessorState).
    HaveProcessors count (option_map_or (λ (l : ProcessorState). of_processor f processor (runner_charged l now a)) o a))
    [ None ↦ h | Some l ↦ homes_charged_by count l now a h ]

-- another task runs there, or none, and each task was still last at one of the processors
homes_taken_over : (count processor : ℕ) (run : Option ℕ) (now : ℕ) (periods : Periods) (a : Accounts)
    → processor < count → HaveProcessors count a
    → HaveProcessors count (taken_over processor run now periods a)
homes_taken_over count processor None now periods a low h = h
homes_taken_over count processor (Some task) now periods a low h =
    homes_task count task (moved_to processor periods.migration_cost)
    (of_processor (occupied periods.tick task now) processor a) (λ c was. low) h

-- who runs there from now on is at home there
pub homes_switched : (count processor : ℕ) (run : Option ℕ) (now : ℕ) (periods : Periods) (a : Accounts)
    → processor < count → HaveProcessors count a
    → HaveProcessors count (accounts_switched processor run now periods a)
homes_switched count processor run now periods a low h =
    let over : Accounts = taken_over processor run now periods (accounts_charged processor now a) in
    let taken : HaveProcessors count over =
    homes_taken_over count processor run now periods (accounts_charged processor now a) low (homes_charged count processor now a h) in
    elim (slice_get a.by_processor processor) as (λ (o : Option ProcessorState).
    HaveProcessors count (option_map_or (λ (l : ProcessorState). if is_same l.run run then a else over) o a)) [
      | None ↦ h
      | Some l ↦
          elim (is_same l.run run) as (λ (b : Bool). HaveProcessors count (if b then a else over)) [ true ↦ h | false ↦ taken ]
    ]

-- Events

-- a processor that is there is not refused
pub there : (count processor : ℕ) → processor < count → first_refusal (no_processor count processor ∷ []) ≡ None
there count processor low = ap (λ b. cond b (Some no.NoProcessor) None) (lt-leb count processor low)

-- a world that an event leaves, in another form
pub agree_after : (s : PolicySemantics) (w form v : World) (e : Event) (calls : List CounterCall) (r : Reply) (b : Accounts)
    → IsOrderly w → WorldStep s w e calls (Ok r) v → v ≡ form → length form.lobby ≡ 1024 → IsSettled form
    → Mirrors form b → HaveProcessors (count_in w) b
    → AgreesWith v b
agree_after s w form v e calls r b h step is entries settled mirrors homes = record {
  orderly = step_keeps s w e calls (Ok r) v step h;
  entries = ap (λ (x : World). length x.lobby) is ∙ entries;
  settled = subst IsSettled (sym is) settled;
  mirrors = subst (λ x. Mirrors x b) (sym is) mirrors;
  homes = subst (λ n. HaveProcessors n b) (sym (step_count s w e calls (Ok r) v step)) homes;
}
