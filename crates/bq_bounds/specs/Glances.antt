-- What is known of a processor's tasks without a look at each.
use Rattle.std.specs.Prelude.{ℕ, ◌-◌, ◌≤◌, List, ◌∷◌, Option, Some}
use Rattle.std.specs.List.{AllByRecursion}
use Rattle.bq_weights.specs.VirtualTime.{time_of}
use Rattle.bq_disc.specs.Tasks.{Task}
use Rattle.bq_bounds.specs.declared.stretch.Stretch.{Stretch}
use Rattle.bq_bounds.specs.declared.glance.Glance.{Glance}
use Rattle.bq_bounds.specs.Lags.{mean_at}

-- the tasks t ∷ xs of a stretch: none has a lesser v than the glance, none is heavier than the stretch's heaviest, and the mean is no greater
pub record IsGlanceOf (g : Glance) (s : Stretch) (t : Task) (xs : List Task) : Type 0 where
  pub least : AllByRecursion (λ (u : Task). g.least ≤ u.v) (t ∷ xs)
  pub lighter : AllByRecursion (λ (u : Task). u.weight ≤ s.heaviest) (t ∷ xs)
  pub mean : mean_at (t ∷ xs) ≤ g.mean

-- the glance holds for these tasks of a stretch, if there is a stretch and a task
abbrev pub IsGlance : Glance → Option Stretch → List Task → Type 0
IsGlance g (Some s) (t ∷ xs) = IsGlanceOf g s t xs
IsGlance g s xs = ⊥

-- a bound on what any of these tasks is owed
abbrev pub at_most_owed : Glance → Stretch → ℕ
at_most_owed g s = time_of (g.mean - g.least) s.heaviest
