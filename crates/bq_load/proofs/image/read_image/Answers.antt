use Rattle.std.proofs.lemmas.Result.{err_from_is_err_and}
use Rattle.bq_load.specs.Headers.{spelled_of}
use Rattle.bq_load.proofs.FramingLemmas.{fault_is_unread, is_image, has_image}
use Rattle.bq_load.proofs.image.read_image.Goals as goal

pub returns-in_err-header-clause-unread : goal.returns-in_err-header-clause-unread
returns-in_err-header-clause-unread c =
    let p = err_from_is_err_and c.from_residual.result c.from_residual.ensures.1 in
    rw (p.1, p.2) (fault_is_unread c.args.bytes.now c.in_err-header.field-0.0 c.in_err-header.ensures.err)

pub shapes_in-requires : goal.shapes_in-requires
shapes_in-requires c = (c.in_ok-header.ensures.ok.frames.shapes, c.in_ok-header.ensures.ok.frames.shapes_are)

pub returns-in_err-shapes-clause-unread : goal.returns-in_err-shapes-clause-unread
returns-in_err-shapes-clause-unread c =
    let p = err_from_is_err_and c.from_residual-in_err-shapes.result c.from_residual-in_err-shapes.ensures.1 in
    rw (p.1, p.2, c.in_err-shapes.ensures.err)
    (has_image c.args.bytes.now (spelled_of c.in_ok-header.header) c.in_ok-header.program.now c.in_ok-header.ensures.ok)

pub returns-in_err-program-clause-unread : goal.returns-in_err-program-clause-unread
returns-in_err-program-clause-unread c =
    let p = err_from_is_err_and c.from_residual-in_err-program.result c.from_residual-in_err-program.ensures.1 in
    rw (p.1, p.2) (has_image c.args.bytes.now (spelled_of c.in_ok-header.header) c.in_ok-header.program.now c.in_ok-header.ensures.ok)

pub returns-clause-image : goal.returns-clause-image
returns-clause-image c =
    rw c.in_ok-program.ensures.items
    (is_image c.args.bytes.now (spelled_of c.in_ok-header.header) c.in_ok-header.program.now c.in_ok-shapes.shapes.items
    c.in_ok-header.ensures.ok c.in_ok-shapes.ensures.ok)

pub invariant_of-form : goal.invariant_of-form
invariant_of-form c = record {
  few =
      (is_image c.args.bytes.now (spelled_of c.in_ok-header.header) c.in_ok-header.program.now c.in_ok-shapes.shapes.items
      c.in_ok-header.ensures.ok c.in_ok-shapes.ensures.ok).framed.header.few;
}
