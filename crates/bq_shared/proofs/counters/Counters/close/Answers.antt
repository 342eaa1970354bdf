use Rattle.std.proofs.Common.{◌≡◌, ◌<◌, ℕ, List, length, length-set, sym, ap, ◌∙◌, arith}
use Rattle.std.specs.Prelude.{slice_index}
use Rattle.bq_shared.proofs.KeepingLemmas.{sums_at_end, index_at, one_more}
use Rattle.bq_shared.proofs.counters.Counters.close.Goals as goal

pub loop-i-preserved : goal.loop-i-preserved
loop-i-preserved g c =
    let there : c.loop-i.i < length c.loop-i.words = omega (arith, c.loop-i.invariant.long) in
    record {
      long = rw length-set c.loop-i.invariant.long;
      read =
          one_more c.loop-i.words c.close_with-closed.result.words.items c.loop-i.i c.word.result
          there c.loop-i.invariant.read c.word.ensures;
    }

pub returns : goal.returns
returns g c = λ i lt.
    let f = c.close_with-closed.ensures.values.2 in
    let all : c.all.inside.seat.me.0.seats ≡ c.self.inside.table.shared.key = rw (c.self.view_is, c.all.view_is) c.requires.whole in
    let e =
    sums_at_end f.0.words f.0.views c.all.inside.seat.id c.all.inside.seat.me.0 c.self.inside.table.shared.key
    f.1.0 f.1.1 all i lt in
    let read = index_at c.close_with-closed.result.words.items i (slice_index c.loop-i.words i) (c.loop-i.invariant.read i (omega arith)) in
    rw (← c.all.view_is) (sym read ∙ (ap (λ (ws : List ℕ). slice_index ws i) (sym f.2) ∙ e))
