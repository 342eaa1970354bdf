use Rattle.bq_maps.proofs.ShapeLemmas.{entry_inside}
use Rattle.bq_maps.proofs.maps.Maps.entry.Goals as goal

pub part-requires : goal.part-requires
part-requires c =
    let there = rw c.shape.ensures.shape at c.requires in
    rw (c.from-size.ensures, c.contents.ensures.bytes)
    (entry_inside c.args.self.now c.args.m c.args.k c.shape.result c.shape.ensures.sizes c.shape.ensures.shape there)
