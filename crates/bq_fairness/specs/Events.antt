-- The events of a processor as steps: what each does by the definitions of one processor, if only the discipline decides.
use Rattle.std.specs.Prelude.{◌≡◌, ℕ, List, [], ◌∷◌, None, Some}
use Rattle.bq_disc.specs.Tasks.{Task, find_task}
use Rattle.bq_disc.specs.Queues.{HasDistinctIds}
use Rattle.bq_disc.specs.Discipline.{Discipline, woken, pulled}
use Rattle.bq_disc.specs.OneProcessor.{Running, present_at, marked, charge, choice_started, decided, own_preempt, enter_all, ticked}
use Rattle.bq_parts.specs.Moves.{with_pulled, without_task}
use Rattle.bq_fairness.specs.Steps.{ProcessorStep, Pass, Decide, Enter, Leave, Mark, after_steps}

-- some woken tasks enter at a mark, then the discipline decides
abbrev pub entries : Discipline → ℕ → List Task → List ProcessorStep
entries d mark [] = Decide ∷ []
entries d mark (t ∷ tasks) = Enter (woken d mark t) ∷ entries d mark tasks

-- Block: the current task goes, then the queue's choice runs
abbrev pub after_block : Discipline → Running → ℕ → Running
after_block d p now = choice_started d (record (charge d p now) { current = None })

-- Drain: woken tasks enter in their order, then it is decided who runs
abbrev pub after_drain : Discipline → Running → ℕ → List Task → Running
after_drain d p now tasks = let e = enter_all d (charge d p now) tasks in decided d e e.current (own_preempt d e.queue e.current)

-- each event is some steps at the processor
pub record EventsAreSteps : Type 0 where
  -- Tick
  pub tick : (d : Discipline) (p : Running) (now : ℕ) → ticked d p now ≡ after_steps d p (Pass now ∷ Decide ∷ [])
  pub block : (d : Discipline) (p : Running) (now : ℕ) (t : Task) → HasDistinctIds (present_at p) → (charge d p now).current ≡ Some t →
      after_block d p now ≡ after_steps d p (Pass now ∷ Leave t.id ∷ Decide ∷ [])
  pub drain : (d : Discipline) (p : Running) (now : ℕ) (tasks : List Task) → after_drain d p now tasks ≡ after_steps d p (Pass now ∷ entries d (charge d p now).mark tasks)
  -- the end of a wake
  pub wake : (d : Discipline) (p : Running) (now : ℕ) → charge d p now ≡ after_steps d p (Pass now ∷ [])
  -- Pull: a task enters; if nothing runs, the queue's choice does
  pub pull : (d : Discipline) (p : Running) (now : ℕ) (t : Task) → (let c = charge d p now in with_pulled d c (Some t) ≡ after_steps d p (Pass now ∷ Enter (pulled d c.mark t) ∷ []))
  pub idle : (d : Discipline) (p : Running) → p.current ≡ None → choice_started d p ≡ after_steps d p (Decide ∷ [])
  -- Pull, at the other processor: a task leaves the queue
  pub pulled_away : (d : Discipline) (p : Running) (id : ℕ) (t : Task) → HasDistinctIds (present_at p) → find_task id p.queue ≡ Some t →
      without_task (marked d p) (Some id) ≡ after_steps d p (Mark ∷ Leave id ∷ [])
