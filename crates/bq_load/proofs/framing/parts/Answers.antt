use Rattle.std.proofs.Common.{arith, inl, inr}
use Rattle.std.proofs.lemmas.Result.{err_from_is_err_and}
use Rattle.bq_load.specs.Headers.{spelled_of}
use Rattle.bq_load.proofs.FieldLemmas.{AreBytes-fit}
use Rattle.bq_load.proofs.FramingLemmas.{frame_ok, frame_err, bad_length}
use Rattle.bq_load.proofs.framing.parts.Goals as goal

pub returns-in_err-header-clause-err : goal.returns-in_err-header-clause-err
returns-in_err-header-clause-err c =
    let p = err_from_is_err_and c.from_residual.result c.from_residual.ensures.1 in
    rw (p.1, p.2)
    (frame_err c.args.bytes.now c.in_err-header.field-0.0 (AreBytes-fit c.args.bytes.now c.type_inv.bytes) c.in_err-header.ensures)

pub returns-then-header-eq0-clause-err : goal.returns-then-header-eq0-clause-err
returns-then-header-eq0-clause-err c =
    let frames =
    frame_ok c.args.bytes.now (spelled_of c.in_ok-header.header, c.in_ok-header.program.now)
    (AreBytes-fit c.args.bytes.now c.type_inv.bytes) c.in_ok-header.ensures in
    bad_length c.args.bytes.now (spelled_of c.in_ok-header.header) c.in_ok-header.program.now frames
    (elim c.then-header-eq0.either [ inl p ↦ inl p | inr p ↦ inr p.1 ])

pub returns-clause-ok : goal.returns-clause-ok
returns-clause-ok c = record {
  frames =
      frame_ok c.args.bytes.now (spelled_of c.in_ok-header.header, c.in_ok-header.program.now)
      (AreBytes-fit c.args.bytes.now c.type_inv.bytes) c.in_ok-header.ensures;
  some = omega arith;
  most = c.if-header-gt-MOST.false;
}
