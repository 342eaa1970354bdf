use Rattle.std.proofs.Common.{ℕ, sym, subst, arith}
use Rattle.bq_ranges.specs.Within.{Within}
use Rattle.bq_states.proofs.RelationLemmas.{sum_right}
use Rattle.bq_states.proofs.relations.Relation.right.Goals as goal

pub returns-in-Sum : goal.returns-in-Sum
returns-in-Sum c = λ a b relates left right.
    let so = rw c.in-Sum.is at relates in
    subst (λ (n : ℕ). Within c.sub.result n) (sym (sum_right a b c.in-Sum.more (omega arith) so))
    (c.sub.ensures.holds a c.in-Sum.more left
    (omega (arith, c.single.ensures.lo, c.single.ensures.hi), omega (arith, c.single.ensures.lo, c.single.ensures.hi)))
