-- A processor where no v is beyond V is within V.
use Rattle.std.proofs.Common.{ℕ, ◌+◌, ◌≤◌, List, ◌∷◌, Option, Some, None, arith}
use Rattle.std.specs.Prelude.{All, IfSome}
use Rattle.std.proofs.lemmas.List.Elements.{All-head, All-weaker}
use Rattle.bq_weights.specs.VirtualTime.{vdelta_of}
use Rattle.bq_disc.specs.Tasks.{Task, present}
use Rattle.bq_disc.specs.OneProcessor.{present_at}
use Rattle.bq_cfs.specs.Spread.{BeginsWithin, bound}
use Rattle.bq_cfs.proofs.BoundLemmas.{bound-least}

-- if no task present is beyond V, the task that runs is within the bound
current_begins : (V : ℕ) (o : Option Task) (q : List Task) → All (λ t. t.v ≤ V) (present o q) → IfSome o (λ t. t.v ≤ bound V (present o q))
current_begins V None q h = tt
current_begins V (Some t) q h = omega (arith, All-head (λ (s : Task). s.v ≤ V) t q h, bound-least V (t ∷ q))

-- where no task present is beyond V, the processor is within V, by whatever the clock rises
pub begins_within : BeginsWithin
begins_within V d p h = record {
  current = current_begins V p.current p.queue h;
  each =
      All-weaker (λ (t : Task). t.v ≤ V) (λ (t : Task). t.v ≤ bound V (present_at p) + vdelta_of d 15)
      (λ t k. omega (arith, bound-least V (present_at p))) (present_at p) h;
}
