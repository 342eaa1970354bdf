use Rattle.std.proofs.lemmas.Str.Pattern.{split_parts}
use Rattle.bq_console.proofs.WordLemmas.{cut_parts}
use Rattle.bq_console.proofs.words.cut.Goals as goal

pub returns : goal.returns
returns c =
    cut_parts c.args.mark c.args.text.now c.split_once.result
    (split_parts c.args.mark c.args.text.now c.split_once.result c.split_once.ensures.cases c.requires)
