use Rattle.std.proofs.Common.{refl}
use Rattle.std.proofs.lemmas.Result.{err_from_is_err_and}
use Rattle.bq_load.specs.Headers.{spelled_of}
use Rattle.bq_load.proofs.FieldLemmas.{AreBytes-fit}
use Rattle.bq_load.proofs.FramingLemmas.{has_image, is_image}
use Rattle.bq_load.proofs.LoadLemmas.{fault_is_unloaded, unloaded_program, unloaded_refusal, accepted_is_loaded, straight_bytes, straight_code, straight_program}
use Rattle.bq_load.proofs.loading.load.Goals as goal

pub returns-in_err-header-clause-unloaded : goal.returns-in_err-header-clause-unloaded
returns-in_err-header-clause-unloaded c =
    let p = err_from_is_err_and c.from_residual.result c.from_residual.ensures.1 in
    rw (p.1, p.2) (fault_is_unloaded c.args.bytes.now c.in_err-header.field-0.0 c.in_err-header.ensures.err)

pub returns-in_err-header-clause-accepts : goal.returns-in_err-header-clause-accepts
returns-in_err-header-clause-accepts c = λ straight.
    absurd (straight_bytes c.args.bytes.now c.in_err-header.field-0.0 (AreBytes-fit c.args.bytes.now c.type_inv.bytes)
    straight c.in_err-header.ensures.err)

pub returns-in_err-insns-clause-unloaded : goal.returns-in_err-insns-clause-unloaded
returns-in_err-insns-clause-unloaded c =
    let p = err_from_is_err_and c.from_residual-in_err-insns.result c.from_residual-in_err-insns.ensures.1 in
    rw (p.1, p.2) (unloaded_program c.args.bytes.now (spelled_of c.in_ok-header.header) c.in_ok-header.program.now
    c.in_err-insns.field-0.0 c.in_ok-header.ensures.ok c.in_err-insns.ensures.fault)

pub returns-in_err-insns-clause-accepts : goal.returns-in_err-insns-clause-accepts
returns-in_err-insns-clause-accepts c = λ straight.
    let p = err_from_is_err_and c.from_residual-in_err-insns.result c.from_residual-in_err-insns.ensures.1 in
    rw (p.1, p.2) (straight_code c.args.bytes.now (spelled_of c.in_ok-header.header) c.in_ok-header.program.now
    c.in_err-insns.field-0.0 c.in_ok-header.ensures.ok straight c.in_err-insns.ensures.fault)

pub shapes_in-requires : goal.shapes_in-requires
shapes_in-requires c = (c.in_ok-header.ensures.ok.frames.shapes, c.in_ok-header.ensures.ok.frames.shapes_are)

pub returns-in_err-shapes-clause-unloaded : goal.returns-in_err-shapes-clause-unloaded
returns-in_err-shapes-clause-unloaded c =
    let p = err_from_is_err_and c.from_residual-in_err-shapes.result c.from_residual-in_err-shapes.ensures.1 in
    rw (p.1, p.2, c.in_err-shapes.ensures.err)
    (has_image c.args.bytes.now (spelled_of c.in_ok-header.header) c.in_ok-header.program.now c.in_ok-header.ensures.ok)

pub invariant_of-form : goal.invariant_of-form
invariant_of-form c = record {
  few =
      (is_image c.args.bytes.now (spelled_of c.in_ok-header.header) c.in_ok-header.program.now c.in_ok-shapes.shapes.items
      c.in_ok-header.ensures.ok c.in_ok-shapes.ensures.ok).framed.header.few;
}

pub returns-in_err-verified-clause-unloaded : goal.returns-in_err-verified-clause-unloaded
returns-in_err-verified-clause-unloaded c =
    let p = err_from_is_err_and c.from_residual-in_err-verified.result c.from_residual-in_err-verified.ensures.1 in
    let s = spelled_of c.in_ok-header.header in
    rw (p.1, p.2) (unloaded_refusal c.args.bytes.now s c.in_ok-header.program.now c.in_ok-insns.insns.items
    c.in_ok-shapes.shapes.items c.in_err-verified.field-0.0 c.in_ok-header.ensures.ok c.in_ok-insns.ensures.spelled
    c.in_ok-insns.ensures.well_formed c.in_ok-insns.ensures.numbers c.in_ok-shapes.ensures.ok
    c.in_err-verified.ensures.refused (λ straight.
    c.in_err-verified.ensures.total_on_straight
    (straight_program c.args.bytes.now s c.in_ok-header.program.now c.in_ok-insns.insns.items c.in_ok-shapes.shapes.items
    c.in_ok-header.ensures.ok straight c.in_ok-insns.ensures.spelled c.in_ok-insns.ensures.well_formed
    c.in_ok-insns.ensures.numbers c.in_ok-shapes.ensures.ok)))

pub returns-in_err-verified-clause-accepts : goal.returns-in_err-verified-clause-accepts
returns-in_err-verified-clause-accepts c = λ straight.
    let p = err_from_is_err_and c.from_residual-in_err-verified.result c.from_residual-in_err-verified.ensures.1 in
    let s = spelled_of c.in_ok-header.header in
    let program =
    straight_program c.args.bytes.now s c.in_ok-header.program.now c.in_ok-insns.insns.items c.in_ok-shapes.shapes.items
    c.in_ok-header.ensures.ok straight c.in_ok-insns.ensures.spelled c.in_ok-insns.ensures.well_formed
    c.in_ok-insns.ensures.numbers c.in_ok-shapes.ensures.ok in
    rw (p.1, p.2, c.in_err-verified.ensures.total_on_straight program) refl

pub returns-clause-loaded : goal.returns-clause-loaded
returns-clause-loaded c =
    accepted_is_loaded c.args.bytes.now (spelled_of c.in_ok-header.header) c.in_ok-header.program.now
    c.in_ok-insns.insns.items c.in_ok-shapes.shapes.items c.in_ok-verified.verified c.in_ok-header.ensures.ok
    c.in_ok-insns.ensures.spelled c.in_ok-insns.ensures.well_formed c.in_ok-insns.ensures.numbers
    c.in_ok-shapes.ensures.ok c.in_ok-verified.ensures.slots c.in_ok-verified.ensures.shapes c.in_ok-verified.ensures.hook
    c.in_ok-verified.ensures.version c.in_ok-verified.ensures.faultless c.in_ok-verified.ensures.accepted
    c.in_ok-verified.ensures.budget
