-- The queues of both disciplines may cross threads.
use denote.RattleType.{RattleType}
use denote.Param.Send.{IsSend, sendable}
use Rattle.std.proofs.Crossing.{crosses}
use Rattle.bq_disc.proofs.node.Node.TheLaws.TheKnot as knot
use Rattle.bq_disc.specs.contracts.ruled_queue.RuledQueue as Ruled
use Rattle.bq_disc.proofs.ruled_queue.RuledQueue.TheSendSync as sent
use Rattle.bq_tree.specs.contracts.tree.Tree as Tree
use Rattle.bq_tree.specs.contracts.tree.TreeTaskOrder.TheImpl as timeline
use Rattle.bq_tree.specs.contracts.summary.NoSums as NoSums
use Rattle.bq_tree.specs.contracts.summary.NoSumsSummary.TheImpl as no_sums
use Rattle.bq_tree.specs.contracts.summary.Sums as Sums
use Rattle.bq_tree.specs.contracts.summary.SumsSummary.TheImpl as sums
use Rattle.bq_cfs.specs.contracts.discipline.Cfs as Cfs
use Rattle.bq_cfs.specs.contracts.discipline.CfsDiscipline.TheImpl as cfs
use Rattle.bq_eevdf.specs.contracts.discipline.Eevdf as Eevdf
use Rattle.bq_eevdf.specs.contracts.discipline.EevdfDiscipline.TheImpl as eevdf

-- a tree of tasks without sums may cross threads
cfs_tree_send : IsSend (Tree.the_row NoSums.the_row no_sums.ghosts)
cfs_tree_send = search (crosses, knot.crosses, sendable) depth 60 fits 20000

-- the type of a tree without sums
abbrev pub cfs_tree : RattleType
cfs_tree = Tree.the_row NoSums.the_row no_sums.ghosts

-- the type of a queue under CFS
abbrev pub cfs_queue : RattleType
cfs_queue = Ruled.the_row cfs_tree Cfs.the_row (timeline.ghosts NoSums.the_row no_sums.ghosts timeline.no_dict) cfs.ghosts

-- a queue under CFS may
pub cfs_queue_send : IsSend cfs_queue
cfs_queue_send =
    sent.the_send cfs_tree Cfs.the_row (timeline.ghosts NoSums.the_row no_sums.ghosts timeline.no_dict)
    cfs.ghosts cfs_tree_send
