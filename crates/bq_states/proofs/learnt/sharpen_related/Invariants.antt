use Rattle.bq_states.specs.Certainty.{Fact, Has}
use Rattle.bq_states.specs.Learnt.{IsLasting, Sharpens}
use Rattle.bq_states.proofs.learnt.sharpen_related.Given as goal

abbrev pub invariant-loop-i : goal.invariant-loop-i
invariant-loop-i l = record {
  contains : Sharpens l.learnt l.class l.initial.state l.state;
  has : (x : Fact) → IsLasting x → Has x l.initial.state → Has x l.state;
}
