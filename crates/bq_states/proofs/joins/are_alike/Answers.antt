use Rattle.std.proofs.Common.{◌≡◌, rules, arith}
use Rattle.bq_states.proofs.joins.are_alike.Goals as goal

pub returns : goal.returns
returns c = λ yes.
    let same : c.in-Some-Some.one ≡ c.in-Some-Some.other = c.is_same.ensures yes in
    record { shape = c.in-Some-Some.one; one = search rules; other = rw same (search rules); low = omega arith }
