use Rattle.std.proofs.Common.{◌≡◌, ◌<◌, Some, length, refl, sym, subst, arith}
use Rattle.bq_states.specs.declared.abstract_state.ValueKind.TheVariants.{EntryOrNull}
use Rattle.bq_states.specs.declared.abstract_state.AbstractState.{AbstractState}
use Rattle.bq_states.specs.Certainty.{IsCalled, Pointer}
use Rattle.bq_transfer.proofs.CertaintyLemmas.{answer_stands, called_by}
use Rattle.bq_transfer.proofs.CallLemmas.{carries_look_up}
use Rattle.bq_transfer.proofs.calls.look_up.Goals as goal

pub returns-clause-transfers : goal.returns-clause-transfers
returns-clause-transfers c =
    let there : 0 < length c.clear.new.registers = omega arith in
    rw c.set_register.ensures.is (carries_look_up c.args.shapes.now c.args.context c.args.state.now c.clear.new.registers
    c.forget_first_classes.new.classes c.in-Some.map c.single.result there c.clear.ensures c.forget_first_classes.ensures
    c.single.ensures.lo c.in-Some.ensures.names (c.reads.ensures.finds c.if-not-reads.false))

pub returns-in_default-clause-accepts : goal.returns-in_default-clause-accepts
returns-in_default-clause-accepts c = λ m naming. absurd (c.in_default.not-Some m (c.map_of.ensures.found m naming.names))

pub returns-clause-accepts : goal.returns-clause-accepts
returns-clause-accepts c = λ m naming.
    let there : 0 < length c.clear.new.registers = omega arith in
    let found : Some c.in-Some.map ≡ Some m = c.in-Some.ensures.found m naming.names in
    let same : c.in-Some.map ≡ m = cc in (
      refl,
      subst (λ (v : AbstractState). IsCalled (Pointer (EntryOrNull m) 0) c.args.state.now v) (sym c.set_register.ensures.is)
          (called_by (Pointer (EntryOrNull m) 0) c.args.state.now c.clear.new.registers c.forget_first_classes.new.classes _
          there c.clear.ensures (answer_stands c.in-Some.map m c.single.result same c.single.ensures.lo c.single.ensures.hi)),
    )
