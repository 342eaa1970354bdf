use Rattle.std.proofs.Common.{◌≡◌, refl, arith, rules, to_z, of_z, SFits}
use Rattle.std.specs.Int.{w16}
use Rattle.std.proofs.lemmas.Int.{ints}
use Rattle.bq_needs.specs.Accesses.{MayBeFollowed}
use Rattle.bq_needs.proofs.AccessLemmas.{range_of_followed}
use Rattle.bq_needs.proofs.accesses.begin_range.Goals as goal

pub returns-then-is_followed : goal.returns-then-is_followed
returns-then-is_followed c =
    let off = c.args.access.off in
    let fits : SFits w16 off = search rules in
    let same : to_z w16 (of_z w16 off) ≡ off = omega (arith, ints) in
    range_of_followed off c.args.pointer.offset (MayBeFollowed c.args.pointer.kind) (c.if-is_followed.ensures.0 refl) c.moved.result
    (rw same at c.moved.ensures.range) (rw same at c.moved.ensures.wraps)
