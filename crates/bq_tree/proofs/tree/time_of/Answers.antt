use Rattle.std.proofs.Common.{◌<◌, arith}
use Rattle.bq_tree.specs.Trees.{in_order_behind}
use Rattle.bq_tree.proofs.SoundLemmas.{time_known}
use Rattle.bq_tree.proofs.tree.time_of.Goals as goal

pub returns-then-place-lt-IDS : goal.returns-then-place-lt-IDS
returns-then-place-lt-IDS c =
    let low : c.args.id < 1024 = omega arith in
    rw c.from-place.ensures (time_known c.args.times.now c.args.id (in_order_behind c.args.root.now) low c.requires.knows)
