-- What is measured stays within its bound, and the greatest is kept.
use Rattle.std.specs.Prelude.{◌≡◌, ℕ, ◌+◌, ◌-◌, ◌≤◌, List, ◌∷◌, map, Contains, Some, IfSome}
use Rattle.std.specs.List.{AllByRecursion}
use Rattle.bq_cfs.specs.declared.discipline.TheConstants.{GRANULARITY}
use Rattle.bq_weights.specs.VirtualTime.{IsWeight, vdelta_of}
use Rattle.bq_disc.specs.Tasks.{Task}
use Rattle.bq_disc.specs.Queues.{HasDistinctIds}
use Rattle.bq_disc.specs.Discipline.{Discipline}
use Rattle.bq_disc.specs.OneProcessor.{Running, present_at}
use Rattle.bq_cfs.specs.Cfs.{cfs}
use Rattle.bq_eevdf.specs.Eevdf.{eevdf}
use Rattle.bq_fairness.specs.Histories.{task_at}
use Rattle.bq_fairness.specs.Steps.{Decide, Pass, stepped, after_steps}
use Rattle.bq_bounds.specs.declared.charge.Charge.{Charge}
use Rattle.bq_bounds.specs.Watches.{greatest_of}
use Rattle.bq_weights.specs.declared.TheConstants.{GREATEST_V}

-- a processor at which the discipline has decided and whose clock was read a few times since, while no task came or went
abbrev pub runs_on : Discipline → Running → List ℕ → Running
runs_on d p nows = after_steps d (stepped d p Decide) (map Pass nows)

-- how far the clock has risen since that decision
abbrev pub risen_since : Discipline → Running → List ℕ → ℕ
risen_since d p nows = (runs_on d p nows).last - (stepped d p Decide).last

-- CFS: the running task is beyond no other by more than 1,000,000 and the virtual time of the rise since the decision at its weight
abbrev pub CfsStaysNear : Type 0
CfsStaysNear =
    (p : Running) (nows : List ℕ) (j : ℕ) (a b u : Task) → HasDistinctIds (present_at p) → IsWeight a.weight →
    (stepped cfs p Decide).current ≡ Some a → task_at j p ≡ Some b → (runs_on cfs p nows).current ≡ Some u →
    (u.weight ≡ a.weight) × (u.v ≤ b.v + (GRANULARITY + vdelta_of (risen_since cfs p nows) a.weight))

-- EEVDF: the running task is ahead of the mean of the last reading by no more than the virtual time of that rise at its weight
abbrev pub EevdfStaysNear : Type 0
EevdfStaysNear =
    (p : Running) (now : ℕ) (nows : List ℕ) (a u : Task) → HasDistinctIds (present_at p) → IsWeight a.weight → a.v ≤ GREATEST_V →
    (stepped eevdf p Decide).current ≡ Some a → (runs_on eevdf p (now ∷ nows)).current ≡ Some u →
    (u.weight ≡ a.weight) × (u.v ≤ (runs_on eevdf p (now ∷ nows)).mark + vdelta_of (risen_since eevdf p (now ∷ nows)) a.weight)

-- the greatest is one of the measured charges, and none has a greater difference; so if no charge passes its bound the greatest does not
abbrev pub KeepsTheGreatest : Type 0
KeepsTheGreatest =
    (c : Charge) (past : List Charge) →
    IfSome (greatest_of (c ∷ past)) (λ g. Contains (c ∷ past) g × AllByRecursion (λ d. d.difference ≤ g.difference) (c ∷ past))
