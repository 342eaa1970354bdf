use Rattle.std.proofs.Common.{◌+◌, sym}
use Rattle.bq_verify.specs.Subjects.{subject_of_view}
use Rattle.bq_verify.specs.Control.{IsKnown}
use Rattle.bq_states.specs.Certainty.{Fact}
use Rattle.bq_verify.specs.Sure.{IsFactDue}
use Rattle.bq_verify.proofs.SureLemmas.{sure_over, sure_on, ready_at}
use Rattle.bq_verify.proofs.PassLemmas.{passes_by}
use Rattle.bq_verify.proofs.pass.pass_slot.Goals as goal

pub returns-in-Ok-clause-passes : goal.returns-in-Ok-clause-passes
returns-in-Ok-clause-passes c =
    passes_by (subject_of_view c.args.subject.now) c.args.slot c.arrive.new.pending c.arrive.new.state c.arrive.result
    (IsKnown c.args.pending.now c.args.state.now c.args.live c.args.slot) c.arrive.ensures.empty c.arrive.ensures.known
    c.visit.new.pending c.visit.new.state c.in-Ok.on c.in-Ok.ensures.kept c.in-Ok.ensures.goes

pub returns-then-not-arrive-clause-sure : goal.returns-then-not-arrive-clause-sure
returns-then-not-arrive-clause-sure c = λ straight sure.
    sure_over c.args.subject.now.slots.now c.arrive.new.pending c.arrive.new.state (c.args.slot + 1)
    (λ x k due. c.arrive.ensures.waits x k (sure x k due).waiting)

pub returns-in_default-clause-sure : goal.returns-in_default-clause-sure
returns-in_default-clause-sure c = λ straight sure.
    sure_over c.args.subject.now.slots.now c.arrive.new.pending c.arrive.new.state (c.args.slot + 1)
    (λ x k due. c.arrive.ensures.waits x k (sure x k due).waiting)

pub returns-in-Ok-clause-sure : goal.returns-in-Ok-clause-sure
returns-in-Ok-clause-sure c = λ straight sure.
    let here = sym c.in-Some.ensures in
    let has = λ (x : Fact) (due : IsFactDue c.args.subject.now.slots.now x c.args.slot).
    c.arrive.ensures.has x (sure x c.args.slot due) c.if-not-arrive.false in
    sure_on (subject_of_view c.args.subject.now) c.args.slot c.in-Some.insn c.arrive.new.state
    here straight has c.arrive.new.pending c.visit.new.pending c.visit.new.state c.in-Ok.on
    (λ x k due. c.arrive.ensures.waits x k (sure x k due).waiting)
    (c.in-Ok.ensures.sure (ready_at (subject_of_view c.args.subject.now) c.args.slot c.in-Some.insn c.arrive.new.state here straight has))

pub returns-in-Err-clause-accepts : goal.returns-in-Err-clause-accepts
returns-in-Err-clause-accepts c = λ straight sure.
    let here = sym c.in-Some.ensures in
    let has = λ (x : Fact) (due : IsFactDue c.args.subject.now.slots.now x c.args.slot).
    c.arrive.ensures.has x (sure x c.args.slot due) c.if-not-arrive.false in
    c.refuse.ensures.memory (c.in-Err.ensures.accepts
    (ready_at (subject_of_view c.args.subject.now) c.args.slot c.in-Some.insn c.arrive.new.state here straight has))

pub returns-in-Err-clause-stopped : goal.returns-in-Err-clause-stopped
returns-in-Err-clause-stopped c = c.refuse.ensures.stopped c.in-Some.insn (sym c.in-Some.ensures) c.in-Err.ensures.obligations
