use Rattle.std.proofs.Common.{◌≡◌}
use Rattle.bq_load.proofs.FieldLemmas.{AreBytes-fit, two_halves}
use Rattle.bq_load.proofs.header.shape.Goals as goal

pub returns-in-Some-clause-spelled : goal.returns-in-Some-clause-spelled
returns-in-Some-clause-spelled c =
    let size : c.in-Some.shape.value_size ≡ c.in_ok-value_size.value_size = c.in-Some.ensures.size in
    let entries : c.in-Some.shape.entries ≡ c.in_ok-entries.entries = c.in-Some.ensures.entries in
    let read =
    two_halves c.args.bytes.now c.in_ok-value_size.value_size c.in_ok-entries.entries c.in_ok-value_size.rest.now
    c.in_ok-entries.rest.now (AreBytes-fit c.args.bytes.now c.type_inv.bytes) c.in_ok-value_size.ensures
    c.in_ok-entries.ensures in
    rw (size, entries) read.bytes_are
