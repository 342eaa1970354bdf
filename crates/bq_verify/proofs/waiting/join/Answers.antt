use Rattle.std.proofs.Common.{Global, Option, subst}
use Rattle.std.specs.declared.boxed.Box.{Box}
use Rattle.bq_states.specs.declared.abstract_state.AbstractState.{AbstractState}
use Rattle.bq_verify.specs.Control.{IsDescribed}
use Rattle.bq_verify.specs.Ways.{HasIn}
use Rattle.bq_verify.proofs.waiting.join.Goals as goal

pub returns-in-Some-clause-kept : goal.returns-in-Some-clause-kept
returns-in-Some-clause-kept c = λ f s shapes inside.
    c.join_states.ensures.left f s shapes
    (rw c.deref_mut.ensures.value (subst (λ (w : Option (Box AbstractState Global)). IsDescribed f w s) c.in-Some.is inside))

pub returns-in-Some-clause-added : goal.returns-in-Some-clause-added
returns-in-Some-clause-added c = λ f s shapes contains. c.join_states.ensures.right f s shapes contains

pub returns-in-Some-clause-has : goal.returns-in-Some-clause-has
returns-in-Some-clause-has c = λ x waiting viewed.
    c.join_states.ensures.stands x
    (rw c.deref_mut.ensures.value (subst (λ (w : Option (Box AbstractState Global)). HasIn x w) c.in-Some.is waiting)) viewed

pub returns-clause-kept : goal.returns-clause-kept
returns-clause-kept c = λ f s shapes inside. absurd (subst (λ (w : Option (Box AbstractState Global)). IsDescribed f w s) c.in_default.is inside)

pub returns-clause-added : goal.returns-clause-added
returns-clause-added c = λ f s shapes contains. rw c.in_ok-new.ensures.ok contains

pub returns-clause-has : goal.returns-clause-has
returns-clause-has c = λ x waiting viewed. rw c.in_ok-new.ensures.ok viewed
