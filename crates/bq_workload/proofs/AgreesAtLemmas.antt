-- An event queue that agrees with the accounts, thing by thing.
use Rattle.std.proofs.Common.{◌≡◌, ℕ, ◌<◌, inl, inr, Bool, false, List, Option, Some, None, refl, sym, ap, ◌∙◌}
use Rattle.std.specs.Prelude.{option_and_then, slice_get}
use Rattle.std.specs.Option.{option_map_or}
use Rattle.std.proofs.lemmas.Bool.{true≢false, eq-eqb}
use Rattle.std.proofs.lemmas.Option.{same_Some}
use Rattle.bq_workload.specs.declared.progress.TaskProgress.{TaskProgress}
use Rattle.bq_workload.specs.declared.due.Due.{Due}
use Rattle.bq_workload.specs.declared.due.Due.TheVariants.{End}
use Rattle.bq_workload.specs.declared.processor_state.ProcessorState.{ProcessorState}
use Rattle.bq_workload.specs.Accounts.{Accounts, is_same}
use Rattle.bq_workload.specs.Dues.{IsDropped, IsDue, IsPlanned, phase_end, due_rank, until}
use Rattle.bq_workload.specs.Minima.{at_rank, due_number}
use Rattle.bq_workload.specs.Next.{AgreesAt, HasHome, HaveHomes, TaskRests, comes_at, phase_ends_at, runs_at}
use Rattle.bq_workload.proofs.ListLemmas.{some_or_none}
use Rattle.bq_disc.specs.declared.limits.TheConstants.{PROCESSORS}

-- what comes when it came, and of whose rank the event queue says what it said
pub agrees_if_kept : (end : ℕ) (a b : Accounts) (x y : List ℕ) (due : Due)
    → comes_at end b due ≡ comes_at end a due → (IsDue due → at_rank y (due_rank due) ≡ at_rank x (due_rank due))
    → AgreesAt end a x due
    → AgreesAt end b y due
agrees_if_kept end a b x y due same rank h = record {
  at = λ there. rank there ∙ h.at there ∙ ap (due_number (due_rank due)) (sym same);
  there = λ time is. h.there time (sym same ∙ is);
}

-- what is put down for when it comes
pub agrees_if_planned : (end time : ℕ) (b : Accounts) (x y : List ℕ) (due : Due)
    → IsPlanned end due time x y → comes_at end b due ≡ until end time → AgreesAt end b y due
agrees_if_planned end time b x y due p is =
    record { at = λ there. p.at ∙ ap (due_number (due_rank due)) (sym is); there = λ t some. p.there }

-- a queue agrees with the accounts where what does not come is dropped
pub agrees_if_dropped : (end : ℕ) (b : Accounts) (x y : List ℕ) (due : Due)
    → IsDropped due x y → comes_at end b due ≡ None → AgreesAt end b y due
agrees_if_dropped end b x y due d is = record { at = λ there. d.at ∙ ap (due_number (due_rank due)) (sym is); there = λ t some. d.there }

-- a phase of a task that has not changed ends when it did
ends-same : (end : ℕ) (cs ds : List TaskProgress) (processor_state : ProcessorState)
    → ((task : ℕ) → processor_state.run ≡ Some task → slice_get ds task ≡ slice_get cs task)
    → phase_ends_at end ds processor_state ≡ phase_ends_at end cs processor_state
ends-same end cs ds processor_state same =
    let v : TaskProgress → Option ℕ = λ c. until end (phase_end processor_state.since c) in
    let at : List TaskProgress → Option ℕ → Option ℕ = λ xs o. option_and_then (λ task. option_and_then v (slice_get xs task)) o in
    elim (some_or_none processor_state.run) [
      | inl none ↦ ap (at ds) none ∙ sym (ap (at cs) none)
      | inr (task, is) ↦ ap (at ds) is ∙ ap (λ (o : Option TaskProgress). option_and_then v o) (same task is) ∙ sym (ap (at cs) is)
    ]

-- a processor that has not changed, and whose task has not, ends its phase when it did
pub kept-end : (end q : ℕ) (a b : Accounts) (x y : List ℕ) → slice_get b.by_processor q ≡ slice_get a.by_processor q
    → ((task : ℕ) (processor_state : ProcessorState) → slice_get a.by_processor q ≡ Some processor_state →
    processor_state.run ≡ Some task → slice_get b.by_task task ≡ slice_get a.by_task task)
    → (q < PROCESSORS → at_rank y q ≡ at_rank x q) → AgreesAt end a x (End q)
    → AgreesAt end b y (End q)
kept-end end q a b x y by_processor by_task rank h =
    let at : List TaskProgress → Option ProcessorState → Option ℕ = λ cs o. option_and_then (phase_ends_at end cs) o in
    let same : at b.by_task (slice_get a.by_processor q) ≡ at a.by_task (slice_get a.by_processor q) =
    elim (some_or_none (slice_get a.by_processor q)) [
      | inl none ↦ ap (at b.by_task) none ∙ sym (ap (at a.by_task) none)
      | inr (processor_state, is) ↦
          ap (at b.by_task) is ∙ ends-same end a.by_task b.by_task processor_state (λ task runs. by_task task processor_state is runs)
          ∙ sym (ap (at a.by_task) is)
    ] in
    agrees_if_kept end a b x y (End q) (ap (at b.by_task) by_processor ∙ same) rank h

-- a task that has not changed has the home that it had
pub kept-home : (a b : Accounts) (task q : ℕ) → slice_get b.by_task task ≡ slice_get a.by_task task → HasHome a task q → HasHome b task q
kept-home a b task q same h = record { progress = h.progress; there = same ∙ h.there; home = h.home }

-- a task runs at only one processor
pub one-home : (a : Accounts) (task p q : ℕ) → HasHome a task p → HasHome a task q → p ≡ q
one-home a task p q g h = sym g.home ∙ ap (λ (c : TaskProgress). c.home) (same_Some g.progress h.progress (sym g.there ∙ h.there)) ∙ h.home

-- a task that does not run where it ran last runs nowhere
pub resting_runs_nowhere : (a : Accounts) (task : ℕ) → HaveHomes a → TaskRests a task → (q : ℕ) (processor_state : ProcessorState)
    → slice_get a.by_processor q ≡ Some processor_state → processor_state.run ≡ Some task
    → ⊥
resting_runs_nowhere a task homes rests q processor_state at runs =
    let h : HasHome a task q = homes q task processor_state at runs in
    let home : rests.progress.home ≡ q =
    ap (λ (c : TaskProgress). c.home) (same_Some rests.progress h.progress (sym rests.there ∙ h.there)) ∙ h.home in
    let test : Option ProcessorState → Bool = λ o. option_map_or (λ (l : ProcessorState). is_same l.run (Some task)) o false in
    let here : runs_at a.by_processor rests.progress.home task ≡ is_same (Some task) (Some task) =
    ap (λ k. runs_at a.by_processor k task) home ∙ ap test at ∙ ap (λ o. is_same o (Some task)) runs in
    true≢false (sym (here ∙ eq-eqb task task refl) ∙ rests.still)
