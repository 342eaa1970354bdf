-- All processors by number, and which of them run something.
use Rattle.std.proofs.Common.{◌≡◌, ℕ, zero, suc, ◌+◌, false, [], ◌∷◌, ◌++◌, Option, Some, ap, ◌∙◌, arith, is_some, map}
use Rattle.std.specs.Prelude.{slice_get}
use Rattle.std.specs.List.{range_with_len}
use Rattle.std.specs.Option.{option_map_or}
use Rattle.std.proofs.lemmas.List.{map-append}
use Rattle.bq_workload.specs.declared.processor_state.ProcessorState.{ProcessorState}
use Rattle.bq_workload.specs.Accounts.{Accounts}
use Rattle.bq_simulate.specs.Deeds.{is_busy}
use Rattle.bq_simulate.specs.Steps.{all_processors}

-- numbers up to the next
pub numbers_more : (first count : ℕ) → range_with_len first (count + 1) ≡ range_with_len first count ++ (first + count) ∷ []
numbers_more first zero = let e : first ≡ first + 0 = omega arith in ap (λ n. n ∷ []) e
numbers_more first (suc count) =
    let e : first + 1 + count ≡ first + suc count = omega arith in
    let n : suc count + 1 ≡ suc (count + 1) = omega arith in
    ap (range_with_len first) n ∙ ap (λ l. first ∷ l) (numbers_more (first + 1) count)
    ∙ ap (λ k. first ∷ (range_with_len (first + 1) count ++ k ∷ [])) e

-- what is made of each processor, and of one more
pub each_more : {A : Type 0} (f : ℕ → A) (count : ℕ)
    → map f (all_processors (count + 1)) ≡ map f (all_processors count) ++ f count ∷ []
each_more f count =
    let at : 0 + count ≡ count = omega arith in
    let all = all_processors count in
    ap (map f) (numbers_more 0 count) ∙ ap (λ (k : ℕ). map f (all ++ k ∷ [])) at ∙ map-append f all (count ∷ [])

-- a processor is busy just where it says that a task runs
pub busy_at : (processor : ℕ) (a : Accounts) (processor_state : ProcessorState)
    → slice_get a.by_processor processor ≡ Some processor_state
    → is_busy a processor ≡ is_some processor_state.run
busy_at processor a processor_state there =
    ap (λ (o : Option ProcessorState). option_map_or (λ (l : ProcessorState). is_some l.run) o false) there
