-- What a node knows of some tasks, given the deadline and the totals that it keeps.
use Rattle.std.specs.Prelude.{◌≡◌, Some}
use Rattle.bq_disc.specs.Totals.{sums_of}
use Rattle.bq_disc.specs.Dues.{first_due}
use Rattle.bq_tree.specs.Trees.{Knowledge}

-- the deadline is the earliest of the tasks, and the totals are theirs
abbrev pub knows_sums : Knowledge
knows_sums xs due totals = (first_due xs ≡ Some due) × (totals ≡ sums_of xs)

-- the fields say nothing about the tasks
abbrev pub knows_nothing : Knowledge
knows_nothing xs due totals = Unit {0}
