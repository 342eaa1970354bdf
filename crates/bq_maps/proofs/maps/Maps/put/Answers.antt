use Rattle.std.proofs.Common.{arith}
use Rattle.bq_maps.proofs.ShapeLemmas.{entry_inside}
use Rattle.bq_maps.proofs.maps.Maps.put.Goals as goal

pub write-requires-clause-inside : goal.write-requires-clause-inside
write-requires-clause-inside c =
    let there = rw c.shape.ensures.shape at c.requires.there in
    let inside = rw c.shape.ensures.shape at c.requires.inside in
    let whole = entry_inside c.args.self.now c.args.m c.args.k c.shape.result c.shape.ensures.sizes c.shape.ensures.shape there in
    rw c.from-size.ensures (omega arith)
