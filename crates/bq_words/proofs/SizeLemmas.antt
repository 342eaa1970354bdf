-- How many processors a machine may have.
use Rattle.std.proofs.Common.{◌≤◌, lit≤}
use Rattle.bq_words.specs.declared.processor_count.ProcessorCount.{ProcessorCount}
use Rattle.bq_words.specs.declared.processor_count.ProcessorCount.TheVariants.{One, Two, Four, Eight, Sixteen, ThirtyTwo, SixtyFour}
use Rattle.bq_words.specs.Sizes.{processors_in}

-- a machine has at most 64 processors
pub processors_in-few : (size : ProcessorCount) → processors_in size ≤ 64
processors_in-few One = lit≤ tt
processors_in-few Two = lit≤ tt
processors_in-few Four = lit≤ tt
processors_in-few Eight = lit≤ tt
processors_in-few Sixteen = lit≤ tt
processors_in-few ThirtyTwo = lit≤ tt
processors_in-few SixtyFour = lit≤ tt
