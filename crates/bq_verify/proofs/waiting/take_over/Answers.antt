use Rattle.std.proofs.Common.{Global, Option, refl, subst, sym, ◌∙◌}
use Rattle.std.proofs.lemmas.Bool.{false≢true}
use Rattle.std.specs.declared.boxed.Box.{Box}
use Rattle.bq_states.specs.declared.abstract_state.AbstractState.{AbstractState}
use Rattle.bq_verify.specs.Control.{IsDescribed}
use Rattle.bq_verify.specs.Ways.{HasIn}
use Rattle.bq_verify.proofs.waiting.take_over.Goals as goal

pub returns-in_default-clause-transferred : goal.returns-in_default-clause-transferred
returns-in_default-clause-transferred c = λ f s shapes live contains. (live, contains)

pub returns-in_default-clause-waited : goal.returns-in_default-clause-waited
returns-in_default-clause-waited c = λ f s shapes inside.
    absurd (subst (λ (w : Option (Box AbstractState Global)). IsDescribed f w s) (sym c.in_default.ensures.value) inside)

pub returns-in_default-clause-has : goal.returns-in_default-clause-has
returns-in_default-clause-has c = λ x transferred waiting live. transferred live

pub returns-then-live-clause-transferred : goal.returns-then-live-clause-transferred
returns-then-live-clause-transferred c = λ f s shapes live contains. (refl, c.join_states.ensures.left f s shapes contains)

pub returns-then-live-clause-waited : goal.returns-then-live-clause-waited
returns-then-live-clause-waited c = λ f s shapes inside. (
  refl,
  c.join_states.ensures.right f s shapes
      (rw c.deref.ensures (subst (λ (w : Option (Box AbstractState Global)). IsDescribed f w s) (sym c.in-Some.ensures.value) inside)),
)

pub returns-then-live-clause-has : goal.returns-then-live-clause-has
returns-then-live-clause-has c = λ x transferred waiting live.
    c.join_states.ensures.stands x (transferred c.if-live.true)
    (rw c.deref.ensures (subst (λ (w : Option (Box AbstractState Global)). HasIn x w) (sym c.in-Some.ensures.value) waiting))

pub returns-clause-transferred : goal.returns-clause-transferred
returns-clause-transferred c = λ f s shapes live contains. absurd (false≢true (sym c.if-live.false ∙ live))

pub returns-clause-waited : goal.returns-clause-waited
returns-clause-waited c = λ f s shapes inside.
    (refl, rw c.deref-2.ensures (subst (λ (w : Option (Box AbstractState Global)). IsDescribed f w s) (sym c.in-Some.ensures.value) inside))

pub returns-clause-has : goal.returns-clause-has
returns-clause-has c = λ x transferred waiting live.
    rw c.deref-2.ensures (subst (λ (w : Option (Box AbstractState Global)). HasIn x w) (sym c.in-Some.ensures.value) waiting)
