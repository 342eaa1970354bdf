use Rattle.std.proofs.Common.{◌≡◌, length, ℕ, eqb, true, refl, arith}
use Rattle.std.proofs.lemmas.Bool.Decides.{nat_tests}
use Rattle.bq_disc.specs.Queues.{can_use}
use Rattle.bq_disc.proofs.MovableLemmas.{Adds-full}
use Rattle.bq_disc.proofs.movable.Movable.add.Goals as goal

is_eight : (n : ℕ) → true ≡ eqb n 8 → n ≡ 8
is_eight n e = grind (arith, nat_tests)

pub returns-then-is_full : goal.returns-then-is_full
returns-then-is_full c =
    let may : can_use c.args.processor c.args.entity.now ≡ true = cc in
    let full : length c.args.self.now.first.items ≡ 8 = is_eight (length c.args.self.now.first.items) c.if-is_full.ensures.value in
    Adds-full c.args.processor c.args.entity.now c.args.self.now _ may refl refl full
