use Rattle.std.proofs.Common.{rules}
use Rattle.bq_needs.proofs.AccessLemmas.{reaches_last, turned_range_wraps}
use Rattle.bq_needs.proofs.accesses.moved.Goals as goal

pub returns-else-lo-hi-clause-range : goal.returns-else-lo-hi-clause-range
returns-else-lo-hi-clause-range c = reaches_last c.args.off c.args.offsets c.ranges.off (search rules)

pub returns-else-lo-hi-clause-wraps : goal.returns-else-lo-hi-clause-wraps
returns-else-lo-hi-clause-wraps c = turned_range_wraps c.args.off c.args.offsets (search rules)
