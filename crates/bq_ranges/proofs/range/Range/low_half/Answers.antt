use Rattle.std.proofs.Common.{◌*◌, ◌/◌, ◌-◌, ◌^◌, arith}
use Rattle.bq_ranges.proofs.range.Range.low_half.Goals as goal

pub returns-clause-tight_low : goal.returns-clause-tight_low
returns-clause-tight_low c = (c.args.self.hi / 2 ^ 32 * 2 ^ 32, (omega arith, omega arith), omega arith)

pub returns-clause-tight_high : goal.returns-clause-tight_high
returns-clause-tight_high c = (c.args.self.hi / 2 ^ 32 * 2 ^ 32 - 1, (omega arith, omega arith), omega arith)
