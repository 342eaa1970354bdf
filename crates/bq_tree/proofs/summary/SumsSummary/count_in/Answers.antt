use Rattle.bq_tree.proofs.InsertLemmas.{counts_one_more}
use Rattle.bq_tree.proofs.summary.SumsSummary.count_in.Goals as goal

pub returns : goal.returns
returns c =
    counts_one_more c.args.root.now c.add.new.root c.args.entity.now c.requires.tree c.add.ensures.sides c.add.ensures.due
    c.add.ensures.totals
