use Rattle.std.proofs.Common.{le-div_iff_mul-le, div-lt_iff_lt-mul}
use Rattle.bq_comparison.proofs.means.root.Goals as goal

pub returns : goal.returns
returns c = (
  (le-div_iff_mul-le c.requires.some).0 c.isqrt.ensures.square_le,
  (div-lt_iff_lt-mul c.requires.some).0 c.isqrt.ensures.next_square_gt,
)
