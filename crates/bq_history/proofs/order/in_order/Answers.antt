use Rattle.std.proofs.Common.{◌<◌, length, refl, ◌∙◌, arith}
use Rattle.bq_history.proofs.PlacingLemmas.{more_placed, still_all, still_from, not_before, all_from}
use Rattle.bq_history.proofs.CountedLemmas.{all_there}
use Rattle.bq_history.proofs.order.in_order.Goals as goal

pub loop-k-init : goal.loop-k-init
loop-k-init g c = record {
  long = refl;
  placed = λ m lt. absurd (omega arith);
  each = all_there g.T.Placed.place c.args.items.now c.requires.below c.requires.few;
  came = all_from c.args.items.now;
}

pub find-at-requires : goal.find-at-requires
find-at-requires g c =
    let low : c.loop-k.k < length c.loop-k.items = omega (arith, c.loop-k-test.true, c.loop-k.invariant.long) in
    record {
      there =
          not_before g.T.Placed.place c.loop-k.items c.loop-k.k c.loop-k.invariant.placed
          (c.loop-k.invariant.each c.loop-k.k low);
    }

pub loop-k-preserved : goal.loop-k-preserved
loop-k-preserved g c =
    let low : c.loop-k.k < length c.loop-k.items = omega (arith, c.loop-k-test.true, c.loop-k.invariant.long) in
    record {
      long = c.swap.ensures.len ∙ c.loop-k.invariant.long;
      placed =
          more_placed g.T.Placed.place c.loop-k.items c.swap.new.self c.loop-k.k c.find-at.result low c.find-at.ensures.after
          c.swap.ensures.len c.find-at.ensures.found c.swap.ensures.by_index c.loop-k.invariant.placed;
      each =
          still_all g.T.Placed.place c.loop-k.items c.swap.new.self c.loop-k.k c.find-at.result low c.find-at.ensures.after
          c.swap.ensures.len c.find-at.ensures.found c.swap.ensures.by_index c.loop-k.invariant.each;
      came =
          still_from g.T.Placed.place c.loop-k.items c.swap.new.self c.loop-k.k c.find-at.result low c.find-at.ensures.after
          c.swap.ensures.len c.find-at.ensures.found c.swap.ensures.by_index c.args.items.now c.loop-k.invariant.came;
    }
