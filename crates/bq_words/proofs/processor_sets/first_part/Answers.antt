use Rattle.std.proofs.Common.{◌∙◌, sym, arith}
use Rattle.std.proofs.lemmas.Grind.{common_steps}
use Rattle.bq_words.proofs.SplittingLemmas.{split_here, split_nowhere}
use Rattle.bq_words.proofs.processor_sets.first_part.Goals as goal

pub returns-in-Some-clause-some : goal.returns-in-Some-clause-some
returns-in-Some-clause-some c =
    let here = split_here c.args.word.now c.in-Some.end (sym c.in-Some.is ∙ c.place_of.ensures.value) in
    grind (arith, common_steps, here)

pub returns-in-None-clause-none : goal.returns-in-None-clause-none
returns-in-None-clause-none c = split_nowhere c.args.word.now (sym c.in-None.is ∙ c.place_of.ensures.value)
