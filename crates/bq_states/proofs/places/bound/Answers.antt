use Rattle.std.proofs.Common.{◌≡◌, rules}
use Rattle.bq_states.proofs.AccessLemmas.{entry_bounds}
use Rattle.bq_states.proofs.places.bound.Goals as goal

pub returns-in-Some-clause-bounds : goal.returns-in-Some-clause-bounds
returns-in-Some-clause-bounds c =
    let size : c.from.result ≡ c.in-Some.shape.value_size = search rules in
    entry_bounds c.args.shapes.now c.args.context c.in-Entry.map c.from.result c.in-Some.shape c.args.kind c.in-Entry.is
    c.in-Some.ensures size
