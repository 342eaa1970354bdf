use Rattle.std.proofs.Common.{◌≡◌, ℕ, ◌+◌, ◌-◌, ◌^◌, ◌∙◌, ap, refl}
use Rattle.bq_words.specs.Sizes.{processors_in}
use Rattle.bq_words.specs.declared.processor_count.ProcessorCount.{ProcessorCount}
use Rattle.bq_words.specs.declared.processor_count.ProcessorCount.TheVariants.{One, Two, Four, Eight, Sixteen, ThirtyTwo, SixtyFour}
use Rattle.bq_workload_file.specs.Workloads.{all_of}
use Rattle.bq_workload_file.proofs.kinds.Processors.of.Goals as goal

-- from the first processor to the last
all : (size : ProcessorCount) → 2 ^ (processors_in size - 1 + 1) - 2 ^ 0 ≡ all_of size
all One = refl
all Two = refl
all Four = refl
all Eight = refl
all Sixteen = refl
all ThirtyTwo = refl
all SixtyFour = refl

pub returns : goal.returns
returns c = c.bits.ensures ∙ ap (λ (n : ℕ). 2 ^ (n - 1 + 1) - 2 ^ 0) c.processors-number.ensures ∙ all c.args.size
