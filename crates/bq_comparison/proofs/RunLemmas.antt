-- Runs, and more of them at the end.
use Rattle.std.proofs.Common.{◌≡◌, None, ℕ, ◌+◌, ◌<◌, ◌≤◌, List, [], ◌∷◌, ◌++◌, length, map, Ok, Err, Result, IfErr, IfOk, ◌⊎◌, inl, inr, ap, sym, refl, zero, suc, subst, ◌∙◌, arith}
use Rattle.std.proofs.lemmas.List.{length-append, length-map}
use Rattle.std.proofs.lemmas.Option.{slice_get_within}
use Rattle.std.specs.Prelude.{⊤}
use Rattle.bq_workload.specs.declared.workload.Workload.{Workload}
use Rattle.bq_comparison.specs.declared.figure.Figure.{Figure}
use Rattle.bq_comparison.specs.declared.runs.RunFigures.{RunFigures}
use Rattle.bq_comparison.specs.declared.fault.SeedsFault.{SeedsFault}
use Rattle.bq_comparison.specs.declared.fault.SeedsFault.TheVariants as fault
use Rattle.bq_comparison.specs.Faults.{EndsInFault, IsNoRun, IsNoSummary, fault_of_run}
use Rattle.bq_experiment.specs.Limits.{IsLonger}
use Rattle.bq_workload.specs.Soundness.{first_flaw}
use Rattle.bq_simulate.specs.Faults.{reported_flaw}
use Rattle.bq_simulate.specs.GoingWell.{IsCutOff, HasTooManySteps}
use Rattle.bq_simulate.specs.declared.fault.SimulateFault.{SimulateFault}
use Rattle.bq_simulate.specs.declared.fault.SimulateFault.TheVariants as run_fault
use Rattle.bq_simulate.specs.Simulations.{Accepted, with_seed}
use Rattle.bq_comparison.specs.Seeds.{AreResults, AreSeededRuns, Comes, IsWorkloadRun}

-- what came of runs that all came to their end
ran : (policies : List Accepted) (w : Workload) (event_limit : ℕ) (figures : List Figure) (seed : ℕ) (runs : List RunFigures)
    → AreResults policies w event_limit figures seed (map Ok runs) → AreSeededRuns policies w event_limit figures seed runs
ran policies w event_limit figures seed [] h = tt
ran policies w event_limit figures seed (x ∷ xs) h =
    let P : ℕ → Type 0 = λ s. IsWorkloadRun policies (with_seed w s) event_limit figures x in
    let rest : AreResults policies w event_limit figures (seed + 1) (map Ok xs) = λ i r there.
    let next = h (suc i) r there in (
      subst (λ s. IfOk r (IsWorkloadRun policies (with_seed w s) event_limit figures)) (omega arith) next.0,
      subst (λ s. IfErr r (IsNoRun policies (with_seed w s) event_limit)) (omega arith) next.1,
    ) in
    let first = h zero (Ok x) refl in
    (subst P (omega arith) first.0, ran policies w event_limit figures (seed + 1) xs rest)

-- runs with some seeds, and results with the seeds after them that are runs, are runs together
pub AreRuns-append : (policies : List Accepted) (w : Workload) (event_limit : ℕ) (figures : List Figure)
    (seed : ℕ) (runs more : List RunFigures)
    → AreSeededRuns policies w event_limit figures seed runs → AreResults policies w event_limit figures (seed + length runs) (map Ok more)
    → AreSeededRuns policies w event_limit figures seed (runs ++ more)
AreRuns-append policies w event_limit figures seed [] more h k =
    let P : ℕ → Type 0 = λ s. AreResults policies w event_limit figures s (map Ok more) in
    ran policies w event_limit figures seed more (subst P (omega arith) k)
AreRuns-append policies w event_limit figures seed (x ∷ xs) more h k =
    let P : ℕ → Type 0 = λ s. AreResults policies w event_limit figures s (map Ok more) in
    (h.0, AreRuns-append policies w event_limit figures (seed + 1) xs more h.1 (subst P (omega arith) k))

-- the result of a run that came to its end
abbrev ended : RunFigures → Result RunFigures SeedsFault
ended = Ok

-- as many as came to their end
pub Comes-count : (before after : List RunFigures) (results : List (Result RunFigures SeedsFault))
    → Comes before results after → length after ≡ length before + length results
Comes-count before after results (more, ok, is) =
    ap length is ∙ length-append before more ∙ ap (λ n. length before + n) (sym (length-map more ended) ∙ ap length (sym ok))

-- the figures of runs with the next seeds stand behind those before
pub AreRuns-come : (policies : List Accepted) (w : Workload) (event_limit : ℕ) (figures : List Figure) (seed next : ℕ)
    (before after : List RunFigures) (results : List (Result RunFigures SeedsFault))
    → next ≡ seed + length before → AreSeededRuns policies w event_limit figures seed before
    → AreResults policies w event_limit figures next results → Comes before results after
    → AreSeededRuns policies w event_limit figures seed after
AreRuns-come policies w event_limit figures seed next before after results at h k (more, ok, is) =
    let P : List RunFigures → Type 0 = λ l. AreSeededRuns policies w event_limit figures seed l in
    let Q : ℕ → Type 0 = λ s. AreResults policies w event_limit figures s results in
    let R : List (Result RunFigures SeedsFault) → Type 0 = λ l. AreResults policies w event_limit figures (seed + length before) l in
    subst P (sym is) (AreRuns-append policies w event_limit figures seed before more h (subst R ok (subst Q at k)))

-- neither that memory ran out nor that the sink has enough
abbrev IsOther : SimulateFault → Type 0
IsOther run_fault.OutOfMemory = ⊥
IsOther run_fault.Enough = ⊥
IsOther why = ⊤

-- what else cuts off a simulation is that it has too many steps
too_many_steps : (w : Workload) (why : SimulateFault) → IsOther why → IsCutOff w why → HasTooManySteps w why
too_many_steps w why other cut = elim cut [
  | inl out ↦ absurd (subst IsOther out other)
  | inr more ↦ elim more [ inl enough ↦ absurd (subst IsOther enough other) | inr ends ↦ ends ]
]

-- the fault of a run, in the words of a summary, says as much
pub refused_is_no_run : (policies : List Accepted) (w : Workload) (event_limit : ℕ) (why : SimulateFault)
    → reported_flaw why ≡ first_flaw w → (first_flaw w ≡ None → IsCutOff w why)
    → (why ≡ run_fault.Enough → IsLonger policies w event_limit)
    → IsNoRun policies w event_limit (fault_of_run why)
refused_is_no_run policies w event_limit run_fault.OutOfMemory h ends k = tt
refused_is_no_run policies w event_limit (run_fault.Unsound flaw) h ends k = (h, λ sound. too_many_steps w (run_fault.Unsound flaw) tt (ends sound))
refused_is_no_run policies w event_limit (run_fault.Drive fault) h ends k = (h, λ sound. too_many_steps w (run_fault.Drive fault) tt (ends sound))
refused_is_no_run policies w event_limit run_fault.BrokenInvariant h ends k = (h, λ sound. too_many_steps w run_fault.BrokenInvariant tt (ends sound))
refused_is_no_run policies w event_limit run_fault.TooManySteps h ends k = (h, λ sound. too_many_steps w run_fault.TooManySteps tt (ends sound))
refused_is_no_run policies w event_limit run_fault.Enough h ends k = k refl

-- where a run with one of the seeds is refused, so are all
refused_all : (policies : List Accepted) (w : Workload) (event_limit count i : ℕ) (why : SeedsFault)
    → i < count → IsNoRun policies (with_seed w (w.machine.seed + i)) event_limit why
    → IsNoSummary policies w event_limit count why
refused_all policies w event_limit count i (fault.Run why) few h = h
refused_all policies w event_limit count i fault.Last few h = absurd h
refused_all policies w event_limit count i fault.TooManyEvents few h = (i, few, h)
refused_all policies w event_limit count i fault.OutOfMemory few h = tt

-- all runs are refused where one of the results is a fault, or memory runs out
pub none_comes : (policies : List Accepted) (w : Workload) (event_limit : ℕ) (figures : List Figure) (next before count : ℕ)
    (results : List (Result RunFigures SeedsFault)) (why : SeedsFault)
    → next ≡ w.machine.seed + before → before + length results ≤ count → AreResults policies w event_limit figures next results
    → (why ≡ fault.OutOfMemory) ⊎ EndsInFault results why
    → IsNoSummary policies w event_limit count why
none_comes policies w event_limit figures next before count results why at few are (inl out) =
    subst (λ e. IsNoSummary policies w event_limit count e) (sym out) tt
none_comes policies w event_limit figures next before count results why at few are (inr (i, there)) =
    let one = are i (Err why) there in
    let low : i < length results = slice_get_within results i (Err why) there in
    let P : ℕ → Type 0 = λ s. IsNoRun policies (with_seed w s) event_limit why in
    let here : next + i ≡ w.machine.seed + (before + i) = omega (arith, at) in
    refused_all policies w event_limit count (before + i) why (omega (arith, low, few)) (subst P here one.1)
