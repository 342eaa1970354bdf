-- The task at which a wake aims while a simulation goes well is there.
use Rattle.std.proofs.Common.{◌≡◌, ℕ, zero, suc, ◌+◌, ◌<◌, ◌≤◌, inl, inr, List, [], ◌∷◌, length, Option, Some, None, sym, ap, ◌∙◌, arith, take}
use Rattle.std.specs.Prelude.{slice_get}
use Rattle.std.specs.Option.{option_map_or}
use Rattle.std.proofs.lemmas.List.Sums.{sum_by-cons}
use Rattle.std.proofs.lemmas.Option.{none-some, slice_get-get_or, slice_get_within}
use Rattle.bq_workload.specs.declared.progress.TaskProgress.{TaskProgress}
use Rattle.bq_workload.specs.declared.workload.TaskKind.{TaskKind}
use Rattle.bq_workload.specs.declared.workload.Workload.{Workload}
use Rattle.bq_workload.specs.Kinds.{kind_count, tasks_in}
use Rattle.bq_workload.specs.TaskProgress.{fresh_task}
use Rattle.bq_workload.proofs.SoundLemmas.{sound-few}
use Rattle.bq_workload.proofs.ListLemmas.{some_or_none}
use Rattle.bq_simulate.specs.declared.simulation.Simulation.{Simulation}
use Rattle.bq_simulate.specs.Actions.{first_task_of}
use Rattle.bq_simulate.specs.GoingWell.{SimulationGoesWell}

-- the tasks of a kind, and those before it, are among all
kind_within : (kinds : List TaskKind) (number : ℕ) → first_task_of kinds number + kind_count kinds number ≤ tasks_in kinds
kind_within [] zero = omega arith
kind_within [] (suc number) = omega arith
kind_within (x ∷ xs) zero = let count : TaskKind → ℕ = λ k. k.count in omega (arith, sum_by-cons count x xs)
kind_within (x ∷ xs) (suc number) =
    let count : TaskKind → ℕ = λ k. k.count in
    omega (arith, sum_by-cons count x xs, sum_by-cons count x (take number xs), kind_within xs number)

-- a kind that has tasks is one of the kinds
counted_there : (kinds : List TaskKind) (number woken : ℕ) → woken < kind_count kinds number → number < length kinds
counted_there kinds number woken low = elim (some_or_none (slice_get kinds number)) [
  | inl none ↦ absurd (omega (arith, low, ap (λ (o : Option TaskKind). option_map_or (λ (k : TaskKind). k.count) o 0) none))
  | inr (kind, at) ↦ slice_get_within kinds number kind at
]

-- its first task is kept
pub first_kept : (w : Workload) (now kind woken : ℕ) (s : Simulation)
    → SimulationGoesWell w now s → woken < kind_count w.tasks.items kind → slice_get s.firsts.items kind ≡ None → ⊥
first_kept w now kind woken s h low none =
    none-some _
    (sym none ∙ slice_get-get_or s.firsts.items kind 0 (omega (arith, counted_there w.tasks.items kind woken low, h.all_firsts)))

-- the task that a wake wakes next is one of those that are there
aim_low : (w : Workload) (now kind woken first : ℕ) (s : Simulation)
    → SimulationGoesWell w now s → woken < kind_count w.tasks.items kind → slice_get s.firsts.items kind ≡ Some first
    → first + woken < tasks_in w.tasks.items
aim_low w now kind woken first s h low at = omega (arith, h.firsts kind first at, kind_within w.tasks.items kind, low)

-- the task that a wake wakes next has a number below 1,024
pub aim_counted : (w : Workload) (now kind woken first : ℕ) (s : Simulation)
    → SimulationGoesWell w now s → woken < kind_count w.tasks.items kind → slice_get s.firsts.items kind ≡ Some first
    → first + woken < 1024
aim_counted w now kind woken first s h low at = omega (arith, aim_low w now kind woken first s h low at, sound-few w h.sound)

-- the task that a wake wakes next is there, and 16 bits count it
pub aim_there : (w : Workload) (now kind woken first : ℕ) (s : Simulation)
    → SimulationGoesWell w now s → woken < kind_count w.tasks.items kind → slice_get s.firsts.items kind ≡ Some first
    → slice_get s.roster.by_task.items (first + woken) ≡ None
    → ⊥
aim_there w now kind woken first s h low at none =
    let any : TaskProgress = fresh_task 0 0 0 in
    none-some _ (sym none
    ∙ slice_get-get_or s.roster.by_task.items (first + woken) any (omega (arith, aim_low w now kind woken first s h low at, h.kept.all)))
