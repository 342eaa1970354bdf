use Rattle.std.proofs.Common.{◌≡◌, ◌≢◌, ◌+◌, ◌<◌, length, slice_index, arith}
use Rattle.std.proofs.lemmas.Grind.{common_steps}
use Rattle.bq_states.specs.Certainty.{CertaintyHolds}
use Rattle.bq_states.specs.Learnt.{IsLastingWord, IsSharper}
use Rattle.bq_states.proofs.LearntLemmas.{set_each}
use Rattle.bq_states.proofs.learnt.sharpen_all.Goals as goal

pub loop-i-preserved : goal.loop-i-preserved
loop-i-preserved c =
    let there : c.loop-i.i < length c.loop-i.words = omega arith in
    let same = c.loop-i.invariant.rest c.loop-i.i (omega arith) in
    record {
      sharper =
          set_each (λ k a b. IsSharper c.args.learnt a b) c.args.words.now c.loop-i.words c.loop-i.i c.sharper_in.result
          c.index-words-i.result there c.index-words-i.is same c.sharper_in.ensures.sharper c.loop-i.invariant.sharper;
      others =
          set_each (λ k a b. slice_index c.args.classes.now (c.args.first + k) ≢ c.args.class → b ≡ a) c.args.words.now
          c.loop-i.words c.loop-i.i c.sharper_in.result c.index-words-i.result there c.index-words-i.is same
          c.sharper_in.ensures.other c.loop-i.invariant.others;
      stands = λ s.
          set_each (λ k a b. IsLastingWord s → CertaintyHolds s a → CertaintyHolds s b) c.args.words.now
          c.loop-i.words c.loop-i.i c.sharper_in.result c.index-words-i.result there c.index-words-i.is same
          (c.sharper_in.ensures.stands s) (c.loop-i.invariant.stands s);
      rest = grind (arith, common_steps);
    }
