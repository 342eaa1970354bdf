use Rattle.std.proofs.Common.{◌≡◌, length}
use Rattle.std.specs.List.{slice_split}
use Rattle.bq_words.specs.ProcessorSets.{processors_of, with_parts, is_comma}
use Rattle.bq_words.proofs.processor_sets.processors.Given as goal

abbrev pub invariant-parts : goal.invariant-parts
invariant-parts l = with_parts l.mask (slice_split is_comma l.rest) ≡ processors_of l.fn.word

abbrev pub decreases-parts : goal.decreases-parts
decreases-parts l = length l.rest
