use Rattle.bq_load.proofs.JudgingLemmas.{front_joined, on_ok}
use Rattle.bq_load.proofs.judging.front_of.Goals as goal

pub returns : goal.returns
returns c =
    front_joined c.args.held.now c.args.piece.now c.min-old.result c.min-new.result
    c.new-front.result.items c.try_extend_from_slice.new.self.items
    c.try_extend_from_slice-2.new.self.items c.new-front.ensures c.min-old.ensures c.min-new.ensures
    (on_ok c.try_extend_from_slice.result c.unwrap.result c.unwrap.ensures c.try_extend_from_slice.ensures.ok)
    (on_ok c.try_extend_from_slice-2.result c.unwrap-2.result c.unwrap-2.ensures c.try_extend_from_slice-2.ensures.ok)
