-- The latencies of tasks: what a start adds to them, and that their order says nothing.
use Rattle.std.proofs.Common.{◌≡◌, ℕ, Bool, List, [], ◌∷◌, ◌++◌, Option, None, Some, IsPermutation, if◌then◌else◌, inl, inr, refl, sym, ap, ◌∙◌, subst, append-nil}
use Rattle.std.proofs.lemmas.Bool.{cases_eq, eq-eqb, ne_eqb}
use Rattle.std.proofs.lemmas.List.Sorted.{IsPermutation-refl, IsPermutation-trans}
use Rattle.bq_schedule.specs.declared.change.Start.{Start}
use Rattle.bq_schedule.specs.Figures.{Figures}
use Rattle.bq_schedule.specs.WakeLatencies.{Tasks, TakesLatency, TakesStart, latencies_of}
use Rattle.bq_comparison.specs.declared.figure.Figure.{Figure}
use Rattle.bq_comparison.specs.declared.figure.Figure.TheVariants as figure
use Rattle.bq_comparison.specs.Gathering.{latency_in, own_latency}
use Rattle.bq_comparison.specs.Values.{AreReordered, IsFigureValue}

-- a latency that is taken of a task, if there is one, is added to that task's latencies only
takes_latency : (id : ℕ) (latency : Option ℕ) (old new : Tasks) → TakesLatency id latency old new → (task : ℕ)
    → latencies_of new task ≡ latencies_of old task ++ own_latency task id latency
takes_latency id None old new h task = h task ∙ sym (append-nil (latencies_of old task))
takes_latency id (Some latency) old new h task =
    elim (cases_eq task id) [
      | inl same ↦
          subst (λ (n : ℕ). latencies_of new n ≡ latencies_of old n ++ own_latency n id (Some latency)) (sym same)
          (h.own ∙ ap (λ (b : Bool). latencies_of old id ++ (if b then latency ∷ [] else [])) (sym (eq-eqb id id refl)))
      | inr other ↦
          h.others task other ∙ sym (append-nil (latencies_of old task))
          ∙ ap (λ (b : Bool). latencies_of old task ++ (if b then latency ∷ [] else [])) (sym (ne_eqb id task (λ e. other (sym e))))
    ]

-- a start whose latency is taken adds to each task the latency that it has of it
pub takes_start : (start : Option Start) (old new : Tasks) → TakesStart start old new → (task : ℕ)
    → latencies_of new task ≡ latencies_of old task ++ latency_in task start
takes_start None old new h task = h task ∙ sym (append-nil (latencies_of old task))
takes_start (Some start) old new h task = takes_latency start.task start.latency old new h task

-- what is reordered twice is reordered
pub AreReordered-trans : (old mid new : Tasks) → AreReordered old mid → AreReordered mid new → AreReordered old new
AreReordered-trans old mid new a b =
    λ task. IsPermutation-trans (latencies_of old task) (latencies_of mid task) (latencies_of new task) (a task) (b task)

-- where those of one task are reordered and those of the others are the same
pub reordered : (task : ℕ) (old new : Tasks) → IsPermutation (latencies_of old task) (latencies_of new task)
    → ((other : ℕ) → ¬ (other ≡ task) → latencies_of new other ≡ latencies_of old other) → AreReordered old new
reordered task old new own others = λ k. elim (cases_eq k task) [
  | inl same ↦ subst (λ (n : ℕ). IsPermutation (latencies_of old n) (latencies_of new n)) (sym same) own
  | inr other ↦
      subst (λ (xs : List ℕ). IsPermutation (latencies_of old k) xs) (sym (others k other))
      (IsPermutation-refl (latencies_of old k))
]

-- what is a value after the latencies were reordered was one before
pub IsValue-reordered : (s : Figures) (old new : Tasks) (f : Figure) (v : Option ℕ)
    → AreReordered old new → IsFigureValue s new f v → IsFigureValue s old f v
IsValue-reordered s old new (figure.Task id f) v kept h = h
IsValue-reordered s old new (figure.Latency id f) v kept (sorted, same, order, is) =
    (sorted, IsPermutation-trans (latencies_of old id) (latencies_of new id) sorted (kept id) same, order, is)
IsValue-reordered s old new (figure.StillWaiting id) v kept h = h
IsValue-reordered s old new (figure.Processor processor f) v kept h = h
IsValue-reordered s old new (figure.Hook processor at f) v kept h = h
