use Rattle.std.proofs.Common.{subst, refl, rules}
use Rattle.std.proofs.lemmas.Result.{on_ok_weaker}
use Rattle.bq_transfer.specs.Ready.{WritesBelowFrame}
use Rattle.bq_insn.proofs.OptionLemmas.{some_none}
use Rattle.bq_transfer.proofs.CertaintyLemmas.{has_given, has_named}
use Rattle.bq_transfer.proofs.TransferLemmas.{gives_number, stores_number}
use Rattle.bq_insn.specs.declared.Insn.TheVariants.{Load, MovSx, Neg, End, Imm64, StoreImm, StoreReg}
use mir.Syntax.{w16, w32}
use mir.Val.{SFits}
use Rattle.std.proofs.lemmas.Int.{to_z-of_z}
use Rattle.bq_transfer.proofs.transfer.transfer.Goals as goal

pub alu-requires : goal.alu-requires
alu-requires c = subst WritesBelowFrame c.in-Alu.is c.requires.below c.in-Alu.dst refl

pub extend-requires : goal.extend-requires
extend-requires c = subst WritesBelowFrame c.in-MovSx.is c.requires.below c.in-MovSx.dst refl

pub negate-requires : goal.negate-requires
negate-requires c = subst WritesBelowFrame c.in-Neg.is c.requires.below c.in-Neg.dst refl

pub reorder-requires : goal.reorder-requires
reorder-requires c = subst WritesBelowFrame c.in-End.is c.requires.below c.in-End.dst refl

pub immediate-requires : goal.immediate-requires
immediate-requires c = subst WritesBelowFrame c.in-Imm64.is c.requires.below c.in-Imm64.dst refl

pub load-requires-clause-below : goal.load-requires-clause-below
load-requires-clause-below c = subst WritesBelowFrame c.in-Load.is c.requires.below c.in-Load.dst refl

pub map_ref-requires-clause-below : goal.map_ref-requires-clause-below
map_ref-requires-clause-below c = subst WritesBelowFrame c.in-MapRef.is c.requires.below c.in-MapRef.dst refl

pub returns-in-Alu-clause-transfers : goal.returns-in-Alu-clause-transfers
returns-in-Alu-clause-transfers c =
    rw c.in-Alu.is (on_ok_weaker c.alu.result (λ carries. carries c.args.shapes.now c.args.context) c.alu.ensures.transfers)

pub returns-in-Alu-clause-accepts : goal.returns-in-Alu-clause-accepts
returns-in-Alu-clause-accepts c = rw c.in-Alu.is (c.alu.ensures.accepts c.args.shapes.now c.args.context)

pub returns-in-MovSx-clause-transfers : goal.returns-in-MovSx-clause-transfers
returns-in-MovSx-clause-transfers c =
    rw c.in-MovSx.is (on_ok_weaker c.extend.result (λ carries. carries c.args.shapes.now c.args.context) c.extend.ensures.transfers)

pub returns-in-MovSx-clause-accepts : goal.returns-in-MovSx-clause-accepts
returns-in-MovSx-clause-accepts c =
    rw c.in-MovSx.is (λ ready.
    gives_number c.extend.result (MovSx c.in-MovSx.width c.in-MovSx.bits c.in-MovSx.dst c.in-MovSx.src)
    c.args.state.now c.extend.new.state c.in-MovSx.dst refl (λ kind o slot k n gives. gives) (λ n m gives. gives)
    (c.extend.ensures.accepts ready.1))

pub returns-in-Neg-clause-transfers : goal.returns-in-Neg-clause-transfers
returns-in-Neg-clause-transfers c =
    rw c.in-Neg.is (on_ok_weaker c.negate.result (λ carries. carries c.args.shapes.now c.args.context) c.negate.ensures.transfers)

pub returns-in-Neg-clause-accepts : goal.returns-in-Neg-clause-accepts
returns-in-Neg-clause-accepts c =
    rw c.in-Neg.is (λ ready.
    gives_number c.negate.result (Neg c.in-Neg.width c.in-Neg.dst) c.args.state.now c.negate.new.state c.in-Neg.dst refl
    (λ kind o slot k n gives. gives) (λ n m gives. gives) (c.negate.ensures.accepts ready.1))

pub returns-in-End-clause-transfers : goal.returns-in-End-clause-transfers
returns-in-End-clause-transfers c =
    rw c.in-End.is (on_ok_weaker c.reorder.result (λ carries. carries c.args.shapes.now c.args.context) c.reorder.ensures.transfers)

pub returns-in-End-clause-accepts : goal.returns-in-End-clause-accepts
returns-in-End-clause-accepts c =
    rw c.in-End.is (λ ready.
    gives_number c.reorder.result (End c.in-End.kind c.in-End.bits c.in-End.dst) c.args.state.now c.reorder.new.state
    c.in-End.dst refl (λ kind o slot k n gives. gives) (λ n m gives. gives) (c.reorder.ensures.accepts ready.1))

pub returns-in-Load-clause-transfers : goal.returns-in-Load-clause-transfers
returns-in-Load-clause-transfers c =
    let fits_off : SFits w16 c.in-Load.off = search rules in
    let off = to_z-of_z w16 c.in-Load.off fits_off in
    rw c.in-Load.is (rw off at c.load.ensures.transfers)

pub returns-in-Load-clause-accepts : goal.returns-in-Load-clause-accepts
returns-in-Load-clause-accepts c =
    let fits : SFits w16 c.in-Load.off = search rules in
    let off = to_z-of_z w16 c.in-Load.off fits in
    rw c.in-Load.is (λ ready.
    gives_number c.load.result (Load c.in-Load.size c.in-Load.signed c.in-Load.dst c.in-Load.src c.in-Load.off)
    c.args.state.now c.load.new.state c.in-Load.dst refl (λ kind o slot k n gives. gives) (λ n m gives. gives)
    ((rw off at c.load.ensures.accepts) ready.1))

pub returns-in-Imm64-clause-transfers : goal.returns-in-Imm64-clause-transfers
returns-in-Imm64-clause-transfers c = rw c.in-Imm64.is (c.immediate.ensures.transfers c.args.shapes.now c.args.context)

pub returns-in-Imm64-clause-accepts : goal.returns-in-Imm64-clause-accepts
returns-in-Imm64-clause-accepts c =
    rw c.in-Imm64.is (λ ready. (
      refl,
      λ x slot k after.
          has_given x slot k (Imm64 c.in-Imm64.dst c.in-Imm64.value) c.args.state.now c.immediate.new.state c.in-Imm64.dst
          refl (λ kind o r gives. gives) (λ n r gives. absurd gives) c.immediate.ensures.given after,
    ))

pub returns-in-StoreImm-clause-transfers : goal.returns-in-StoreImm-clause-transfers
returns-in-StoreImm-clause-transfers c =
    let fits_off : SFits w16 c.in-StoreImm.off = search rules in
    let off = to_z-of_z w16 c.in-StoreImm.off fits_off in
    let fits_imm : SFits w32 c.in-StoreImm.imm = search rules in
    let imm = to_z-of_z w32 c.in-StoreImm.imm fits_imm in
    rw c.in-StoreImm.is (rw (off, imm) at c.store_imm.ensures.transfers)

pub returns-in-StoreImm-clause-accepts : goal.returns-in-StoreImm-clause-accepts
returns-in-StoreImm-clause-accepts c =
    let fits : SFits w16 c.in-StoreImm.off = search rules in
    let off = to_z-of_z w16 c.in-StoreImm.off fits in
    rw c.in-StoreImm.is (λ ready.
    stores_number c.store_imm.result (StoreImm c.in-StoreImm.size c.in-StoreImm.dst c.in-StoreImm.off c.in-StoreImm.imm)
    c.args.state.now c.store_imm.new.state c.args.shapes.now c.args.context c.in-StoreImm.size c.in-StoreImm.dst
    c.in-StoreImm.off (λ n gives. some_none _ _ gives refl) (λ n m gives. gives) (λ kind o slot k n gives. gives)
    (λ i stores. stores) (rw off at c.store_imm.ensures.accepts) (rw off at c.store_imm.ensures.entry) ready)

pub returns-in-StoreReg-clause-transfers : goal.returns-in-StoreReg-clause-transfers
returns-in-StoreReg-clause-transfers c =
    let fits_off : SFits w16 c.in-StoreReg.off = search rules in
    let off = to_z-of_z w16 c.in-StoreReg.off fits_off in
    rw c.in-StoreReg.is (rw off at c.store_reg.ensures.transfers)

pub returns-in-StoreReg-clause-accepts : goal.returns-in-StoreReg-clause-accepts
returns-in-StoreReg-clause-accepts c =
    let fits : SFits w16 c.in-StoreReg.off = search rules in
    let off = to_z-of_z w16 c.in-StoreReg.off fits in
    rw c.in-StoreReg.is (λ ready.
    stores_number c.store_reg.result (StoreReg c.in-StoreReg.size c.in-StoreReg.dst c.in-StoreReg.off c.in-StoreReg.src)
    c.args.state.now c.store_reg.new.state c.args.shapes.now c.args.context c.in-StoreReg.size
    c.in-StoreReg.dst c.in-StoreReg.off (λ n gives. some_none _ _ gives refl) (λ n m gives. gives)
    (λ kind o slot k n gives. gives) (λ i stores. stores) ((rw off at c.store_reg.ensures.accepts) ready.0)
    ((rw off at c.store_reg.ensures.entry) ready.0) ready.1)

pub returns-in-MapRef-clause-transfers : goal.returns-in-MapRef-clause-transfers
returns-in-MapRef-clause-transfers c =
    let fits_index : SFits w32 c.in-MapRef.index = search rules in
    let index = to_z-of_z w32 c.in-MapRef.index fits_index in
    rw c.in-MapRef.is (on_ok_weaker c.map_ref.result (λ carries. carries c.args.context) (rw index at c.map_ref.ensures.transfers))

pub returns-in-MapRef-clause-accepts : goal.returns-in-MapRef-clause-accepts
returns-in-MapRef-clause-accepts c =
    let fits_index : SFits w32 c.in-MapRef.index = search rules in
    let index = to_z-of_z w32 c.in-MapRef.index fits_index in
    rw c.in-MapRef.is (λ ready.
    let made = (rw index at c.map_ref.ensures.accepts) ready.1 ready.2 ready.3 in (
      made.0,
      λ x slot k after.
          has_named x slot k c.in-MapRef.dst c.in-MapRef.index ready.1 c.args.state.now c.map_ref.new.state
          ready.2 made.1 after,
    ))

pub returns-in-Call-clause-transfers : goal.returns-in-Call-clause-transfers
returns-in-Call-clause-transfers c =
    let fits_helper : SFits w32 c.in-Call.helper = search rules in
    let helper = to_z-of_z w32 c.in-Call.helper fits_helper in
    rw c.in-Call.is (rw helper at c.call.ensures.transfers)

pub returns-in-Call-clause-accepts : goal.returns-in-Call-clause-accepts
returns-in-Call-clause-accepts c =
    let fits_helper : SFits w32 c.in-Call.helper = search rules in
    let helper = to_z-of_z w32 c.in-Call.helper fits_helper in
    rw c.in-Call.is (rw helper at c.call.ensures.accepts)
