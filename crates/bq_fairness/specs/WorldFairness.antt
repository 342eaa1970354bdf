-- Fairness in the world. Two tasks that stay at a processor where only the discipline decides are served in proportion to
-- their weights from then on, whatever has happened since the opening, and whatever policies do elsewhere.
use Rattle.std.specs.Prelude.{◌≡◌, ℕ, ◌+◌, ◌<◌, ◌≤◌, max, List, Some, Result}
use Rattle.bq_cfs.specs.declared.discipline.TheConstants.{GRANULARITY}
use Rattle.bq_weights.specs.VirtualTime.{vdelta_of}
use Rattle.bq_disc.specs.Tasks.{Task}
use Rattle.bq_cfs.specs.Cfs.{cfs}
use Rattle.bq_eevdf.specs.Eevdf.{eevdf}
use Rattle.bq_bpf.specs.declared.board.CounterCall.{CounterCall}
use Rattle.bq_fairness.specs.Histories.{HasRoom, task_at}
use Rattle.bq_fairness.specs.Steps.{ProcessorStep, DecidesWithin, StaysThroughout}
use Rattle.bq_parts.specs.declared.event.Event.{Event}
use Rattle.bq_parts.specs.declared.reply.Reply.{Reply}
use Rattle.bq_parts.specs.declared.refusal.Refusal.{Refusal}
use Rattle.bq_parts.specs.World.{World, opening_world}
use Rattle.bq_parts.specs.Choices.{by_programs}
use Rattle.bq_parts.specs.Steps.{WorldRun}
use Rattle.bq_fairness.specs.Seen.{running_at, IsSeenAt}

-- CFS: of tasks a and b that stay, a comes no further than the sum of three: the greater of where it began and 1,000,000
-- beyond where b began; as far as b came in the meantime; and one rise of the clock at a's own weight
abbrev pub CfsWorldServes : Type 0
CfsWorldServes =
    (count at r i j : ℕ) (w w' : World) (earlier es : List Event) (before calls : List (List CounterCall)) (given answers : List (Result Reply Refusal)) (ss : List ProcessorStep) (a b : Task) →
    WorldRun (by_programs cfs) (opening_world count) earlier before given w → at < count → IsSeenAt cfs at w es calls answers w' ss →
    HasRoom (running_at w at) → DecidesWithin r cfs 0 (running_at w at) ss → StaysThroughout i ss → StaysThroughout j ss →
    task_at i (running_at w at) ≡ Some a → task_at j (running_at w at) ≡ Some b →
    (u : Task) × (t : Task) × (task_at i (running_at w' at) ≡ Some u) × (task_at j (running_at w' at) ≡ Some t)
    × (u.v + b.v ≤ t.v + max a.v (b.v + GRANULARITY) + vdelta_of r a.weight)

-- EEVDF: the bound of CFS holds with one slice of b's in place of 1,000,000
abbrev pub EevdfWorldServes : Type 0
EevdfWorldServes =
    (count at r i j : ℕ) (w w' : World) (earlier es : List Event) (before calls : List (List CounterCall)) (given answers : List (Result Reply Refusal)) (ss : List ProcessorStep) (a b : Task) →
    WorldRun (by_programs eevdf) (opening_world count) earlier before given w → at < count → IsSeenAt eevdf at w es calls answers w' ss →
    HasRoom (running_at w at) → DecidesWithin r eevdf 0 (running_at w at) ss → StaysThroughout i ss → StaysThroughout j ss →
    task_at i (running_at w at) ≡ Some a → task_at j (running_at w at) ≡ Some b →
    (u : Task) × (t : Task) × (task_at i (running_at w' at) ≡ Some u) × (task_at j (running_at w' at) ≡ Some t)
    × (u.v + b.v ≤ t.v + max a.v (b.v + vdelta_of b.slice b.weight) + vdelta_of r a.weight)
