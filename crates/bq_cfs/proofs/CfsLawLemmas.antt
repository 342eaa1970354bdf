-- The mark of CFS never falls.
use Rattle.std.proofs.Common.{ℕ, ◌≤◌, max, Option, Some, None, arith}
use Rattle.std.specs.Option.{option_map_or}
use Rattle.bq_disc.specs.Tasks.{Task}
use Rattle.bq_cfs.specs.Cfs.{MarkNeverFalls, least}

-- the greater of the old mark and a task's v is no less than the old mark, and without a task the mark stays
never_falls : (old : ℕ) (o : Option Task) → old ≤ option_map_or (λ (t : Task). max old t.v) o old
never_falls old None = omega arith
never_falls old (Some t) = omega arith

-- the mark is computed again to no less than it was
pub mark_never_falls : MarkNeverFalls
mark_never_falls old xs = never_falls old (least xs)
