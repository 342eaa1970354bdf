use Rattle.std.proofs.Common.{sym, ◌∙◌}
use Rattle.bq_disc.specs.declared.node.Node.{out-Node, roll-Node}
use Rattle.bq_tree.proofs.RemoveLemmas.{can_remove, totals_without, due_without}
use Rattle.bq_tree.proofs.summary.remove.Goals as goal

pub remove-requires-clause-weight : goal.remove-requires-clause-weight
remove-requires-clause-weight c = (can_remove c.args.root.now c.args.gone.now c.requires.counts).weight

pub remove-requires-clause-moment : goal.remove-requires-clause-moment
remove-requires-clause-moment c = (can_remove c.args.root.now c.args.gone.now c.requires.counts).moment

pub returns-then-is_due-clause-totals : goal.returns-then-is_due-clause-totals
unfolding out-Node roll-Node denote.Hole.Carrier.out denote.Hole.Carrier.roll
returns-then-is_due-clause-totals c = totals_without c.args.root.now c.args.gone.now c.remove.new.self c.requires.counts c.remove.ensures

pub returns-else-is_due-clause-due : goal.returns-else-is_due-clause-due
unfolding out-Node roll-Node denote.Hole.Carrier.out denote.Hole.Carrier.roll
returns-else-is_due-clause-due c = due_without c.args.root.now c.args.gone.now c.requires.counts (sym c.is_due.ensures ∙ c.if-is_due.false)

pub returns-else-is_due-clause-totals : goal.returns-else-is_due-clause-totals
unfolding out-Node roll-Node denote.Hole.Carrier.out denote.Hole.Carrier.roll
returns-else-is_due-clause-totals c = totals_without c.args.root.now c.args.gone.now c.remove.new.self c.requires.counts c.remove.ensures
