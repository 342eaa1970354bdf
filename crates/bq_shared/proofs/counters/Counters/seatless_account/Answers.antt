use Rattle.std.proofs.Common.{refl, arith}
use Rattle.bq_shared.specs.Sums.{seatless_account}
use Rattle.bq_shared.proofs.KeepingLemmas.{sums_with_one_more}
use Rattle.bq_shared.proofs.counters.Counters.seatless_account.Goals as goal

pub load_new_seat-seat-requires : goal.load_new_seat-seat-requires
load_new_seat-seat-requires g c = (
  omega (arith, c.self.invariant.1),
  λ s rule homes small. (seatless_account, sums_with_one_more c.self.inside.table.shared.key s.words s.views rule, (refl, refl)),
)
