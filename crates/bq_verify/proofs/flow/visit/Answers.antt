use Rattle.std.proofs.Common.{◌≡◌, ◌+◌, Some, ◌∙◌, ap, true, inl, inr, refl, subst, sym}
use Rattle.std.proofs.lemmas.Bool.{false≢true}
use Rattle.bq_insn.specs.declared.Insn.{Insn}
use Rattle.bq_insn.specs.declared.Insn.TheVariants.{Call}
use Rattle.bq_bpf.specs.Steps.{instruction_at}
use Rattle.bq_verify.specs.Subjects.{subject_of_view}
use Rattle.bq_verify.specs.Edges.{IsEdge}
use Rattle.bq_transfer.specs.After.{After}
use Rattle.bq_transfer.proofs.CertaintyLemmas.{has_answered}
use Rattle.bq_verify.specs.Control.{IsKnown}
use Rattle.bq_verify.proofs.AskLemmas.{ready_is_asked, not_asked}
use Rattle.bq_verify.proofs.PassLemmas.{goes_asking}
use Rattle.bq_verify.proofs.flow.visit.Goals as goal

pub returns-then-is_counter_call-clause-goes : goal.returns-then-is_counter_call-clause-goes
returns-then-is_counter_call-clause-goes c =
    goes_asking (subject_of_view c.args.subject.now) c.args.slot c.args.state.now
    (IsKnown c.args.pending.now c.ask.new.state true (c.args.slot + 1)) c.args.insn c.ask.new.state c.requires.here
    (c.is_counter_call.ensures.is c.if-is_counter_call.true) c.in_ok-ask.ensures.asks
    (λ f s at contains. inr (refl, at, contains))

pub returns-in_err-ask-clause-accepts : goal.returns-in_err-ask-clause-accepts
returns-in_err-ask-clause-accepts c = λ ready.
    let a =
    ready_is_asked c.args.subject.now.shapes.now c.args.subject.now.context c.args.state.now c.args.insn
    (c.is_counter_call.ensures.is c.if-is_counter_call.true) ready in
    absurd (false≢true ((c.in_err-ask.ensures.accepts a.helper a.is a.needs).0))

pub returns-then-is_counter_call-clause-sure : goal.returns-then-is_counter_call-clause-sure
returns-then-is_counter_call-clause-sure c = λ ready x k waits after.
    let a =
    ready_is_asked c.args.subject.now.shapes.now c.args.subject.now.context c.args.state.now c.args.insn
    (c.is_counter_call.ensures.is c.if-is_counter_call.true) ready in
    let here : instruction_at c.args.subject.now.slots.now c.args.slot ≡ Some (Call a.helper) =
    c.requires.here ∙ ap (λ (i : Insn). Some i) a.is in
    record {
      waiting = waits;
      transferred = λ live same.
          let edge : IsEdge c.args.subject.now.slots.now c.args.slot k =
          record { insn = Call a.helper; here = here; leaves = inl (refl, same) } in
          has_answered x c.args.slot k a.helper c.args.state.now c.ask.new.state a.other
          (c.in_ok-ask.ensures.accepts a.helper a.is a.needs).1
          (subst (λ (i : Insn). After x c.args.slot k i c.args.state.now) a.is (after edge));
    }

pub returns-clause-accepts : goal.returns-clause-accepts
returns-clause-accepts c = λ ready.
    c.visit_uncounted.ensures.accepts (not_asked c.args.subject.now.shapes.now c.args.subject.now.context c.args.state.now c.args.insn
    (λ call. false≢true (sym c.if-is_counter_call.false ∙ c.is_counter_call.ensures.only call)) ready)

pub returns-clause-sure : goal.returns-clause-sure
returns-clause-sure c = λ ready.
    c.visit_uncounted.ensures.sure (not_asked c.args.subject.now.shapes.now c.args.subject.now.context c.args.state.now c.args.insn
    (λ call. false≢true (sym c.if-is_counter_call.false ∙ c.is_counter_call.ensures.only call)) ready)
