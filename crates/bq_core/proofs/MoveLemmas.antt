-- What a task that goes from one processor to another leaves of every tally.
use Rattle.std.proofs.Common.{◌≡◌, ℕ, ◌+◌, Option, Some, None, [], ◌∷◌, refl, ap, ◌∙◌, arith}
use Rattle.std.specs.Option.{option_map, option_to_list}
use Rattle.bq_disc.specs.Tasks.{Task, find_task, without, inserted, present}
use Rattle.bq_disc.specs.Discipline.{Discipline, pulled, left_at}
use Rattle.bq_disc.specs.OneProcessor.{Running, present_at}
use Rattle.bq_disc.proofs.QueueLemmas.{without-absent}
use Rattle.bq_parts.specs.Moves.{after_leaving, taken_from, without_task, with_pulled, started_if_idle}
use Rattle.bq_parts.proofs.TallyLemmas.{tally, worth, tally-inserted, tally-without, tally-present, tally-start}

-- the task that leaves and those that stay are those that were there
pub tally-after_leaving : (g : ℕ → ℕ → ℕ) (d : Discipline) (p : Running) (t : Task)
    → p.current ≡ Some t
    → tally g (present_at (after_leaving d p)) + tally g (t ∷ []) ≡ tally g (present_at p)
tally-after_leaving g d p t e =
    let rest : Running = record p { current = None } in
    let was : tally g (present_at p) ≡ worth g t + tally g p.queue = ap (λ o. tally g (present o p.queue)) e in
    omega (arith, was, tally-start g d rest refl)

-- the task that is taken from a queue, if it is there, and those that stay are those of the queue
taken_by_case : (g : ℕ → ℕ → ℕ) (id : ℕ) (p : Running) (o : Option Task)
    → find_task id p.queue ≡ o
    → tally g (without id p.queue) + tally g (option_to_list (option_map (left_at p.mark) o)) ≡ tally g p.queue
taken_by_case g id p None e = omega (arith, ap (λ xs. tally g xs) (without-absent id p.queue e))
taken_by_case g id p (Some t) e = omega (arith, tally-without g id p.queue t e)

-- the task that is taken and those that stay are those that were there
pub tally-without_task : (g : ℕ → ℕ → ℕ) (p : Running) (task : Option ℕ)
    → tally g (present_at (without_task p task)) + tally g (option_to_list (taken_from p task)) ≡ tally g (present_at p)
tally-without_task g p None = omega arith
tally-without_task g p (Some id) =
    omega (arith, taken_by_case g id p (find_task id p.queue) refl, tally-present g p.current p.queue (without id p.queue))

-- the task that enters comes to those that were there
pub tally-with_pulled : (g : ℕ → ℕ → ℕ) (d : Discipline) (p : Running) (o : Option Task)
    → tally g (present_at (with_pulled d p o)) ≡ tally g (present_at p) + tally g (option_to_list o)
tally-with_pulled g d p None = omega arith
tally-with_pulled g d p (Some t) =
    omega (arith, tally-inserted g (pulled d p.mark t) p.queue, tally-present g p.current p.queue (inserted (pulled d p.mark t) p.queue))

-- a task that enters does not run
pub with_pulled-current : (d : Discipline) (p : Running) (o : Option Task) → (with_pulled d p o).current ≡ p.current
with_pulled-current d p None = refl
with_pulled-current d p (Some t) = refl

-- who begins to run stays
tally-started : (g : ℕ → ℕ → ℕ) (d : Discipline) (p : Running) (o : Option Task)
    → p.current ≡ o → tally g (present_at (started_if_idle d p o)) ≡ tally g (present_at p)
tally-started g d p None e = tally-start g d p e
tally-started g d p (Some t) e = refl

-- the task that enters comes to those that were there, where the queue's choice then runs
pub tally-pulled : (g : ℕ → ℕ → ℕ) (d : Discipline) (p : Running) (o : Option Task)
    → tally g (present_at (started_if_idle d (with_pulled d p o) p.current)) ≡ tally g (present_at p) + tally g (option_to_list o)
tally-pulled g d p o = tally-started g d (with_pulled d p o) p.current (with_pulled-current d p o) ∙ tally-with_pulled g d p o
