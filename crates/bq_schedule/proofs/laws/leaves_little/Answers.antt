use Rattle.std.proofs.Common.{ℕ, ◌-◌, ◌*◌, ◌<◌, ◌/◌, ◌%◌, arith}
use Rattle.std.proofs.Math.Nat.{div-add-mod}
use Rattle.bq_schedule.specs.Counts.{parts_per_nanosecond}
use Rattle.bq_schedule.proofs.laws.leaves_little.Goals as goal

rest : (n weight : ℕ) → 0 < weight → n - weight * (n / weight) < weight
rest n weight h =
    let whole = div-add-mod n weight in
    let less : n % weight < weight = omega arith in
    omega (arith, whole)

pub returns : goal.returns
returns c = λ time weight h. rest (time * parts_per_nanosecond) weight h
