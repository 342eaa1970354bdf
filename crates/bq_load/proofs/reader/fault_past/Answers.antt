use Rattle.std.proofs.Common.{arith}
use Rattle.bq_load.specs.Headers.{spelled_of}
use Rattle.bq_load.proofs.FieldLemmas.{AreBytes-fit}
use Rattle.bq_load.proofs.HeaderLemmas.{header_ok}
use Rattle.bq_load.proofs.ReaderLemmas.{past_header_is_read, past_cut, past_more, past_length}
use Rattle.bq_load.proofs.reader.fault_past.Goals as goal

pub returns-in-Err : goal.returns-in-Err
returns-in-Err c = λ bytes h. absurd (past_header_is_read c.args.held.now bytes c.args.past c.in-Err.fault c.requires h c.in-Err.ensures)

pub returns-then-length-wanted : goal.returns-then-length-wanted
returns-then-length-wanted c = λ bytes h.
    let there =
    header_ok c.args.held.now (spelled_of c.in-Ok.read.0, c.in-Ok.read.1.now)
    (AreBytes-fit c.args.held.now c.type_inv.held) c.in-Ok.ensures in
    past_cut c.args.held.now bytes c.args.past (spelled_of c.in-Ok.read.0) c.in-Ok.read.1.now
    (AreBytes-fit c.args.held.now c.type_inv.held) c.in-Ok.ensures c.requires
    (omega (arith, c.if-length-wanted.true, c.saturating_add-length.ensures, there.good.slots)) h

pub returns-then-length-wanted-2 : goal.returns-then-length-wanted-2
returns-then-length-wanted-2 c = λ bytes h.
    past_more c.args.held.now bytes c.args.past (spelled_of c.in-Ok.read.0) c.in-Ok.read.1.now
    (AreBytes-fit c.args.held.now c.type_inv.held) c.in-Ok.ensures c.requires
    (omega (arith, c.if-length-wanted-2.true, c.saturating_add-length.ensures)) h

pub returns : goal.returns
returns c = λ bytes h.
    past_length c.args.held.now bytes c.args.past (spelled_of c.in-Ok.read.0) c.in-Ok.read.1.now
    (AreBytes-fit c.args.held.now c.type_inv.held) c.in-Ok.ensures c.requires
    (omega (arith, c.if-length-wanted.false, c.if-length-wanted-2.false, c.saturating_add-length.ensures)) h
