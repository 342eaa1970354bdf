-- Worlds in order. Each admitted task is in exactly one place, on a processor of its mask if it runs or waits; nothing else
-- is anywhere. Queues rise by (v, id). Each policy at a hook was accepted.
use Rattle.std.specs.Prelude.{◌≡◌, ℕ, ◌+◌, true, List, [], ◌∷◌, ◌++◌, length, Some, All}
use Rattle.bq_disc.specs.Tasks.{Task}
use Rattle.bq_disc.specs.Queues.{can_use}
use Rattle.bq_disc.specs.Rising.{IsRising}
use Rattle.bq_disc.specs.OneProcessor.{present_at}
use Rattle.bq_hooks.specs.Contexts.{as_number}
use Rattle.bq_hooks.specs.OwnPlace.{HasPlace}
use Rattle.bq_installed.specs.Standing.{AreReady}
use Rattle.bq_parts.specs.declared.carried.Carried.{Carried}
use Rattle.bq_parts.specs.declared.lobby_entry.LobbyEntry.TheVariants.{Sleeping}
use Rattle.bq_parts.specs.Processors.{Processor, held_by, count_of_id}
use Rattle.bq_parts.specs.World.{World, processor_at, inbox, entry_of_id, count_in}
use Rattle.bq_parts.specs.Refusals.{is_away}

-- how often an id occurs in hands, as running, and in queues
abbrev pub held_count : ℕ → List Processor → ℕ
held_count id [] = 0
held_count id (p ∷ ps) = count_of_id id (held_by p) + held_count id ps

-- how often an id occurs in inboxes
abbrev pub placed_count : ℕ → List (List Task) → ℕ
placed_count id [] = 0
placed_count id (tasks ∷ others) = count_of_id id tasks + placed_count id others

-- how often an id occurs with the processors, their inboxes included
abbrev pub standing_count : ℕ → World → ℕ
standing_count id w = held_count id w.processors + placed_count id w.inboxes

-- the tasks that run, or wait in a queue or an inbox
abbrev pub runnable_at : World → ℕ → List Task
runnable_at w processor = present_at (processor_at w processor).running ++ inbox w processor

-- every task that is away from the lobby is with the processors exactly once
pub record StandsOnce (w : World) : Type 0 where
  -- an id that is away occurs once with the processors, and no other id does
  pub away : (id : ℕ) → standing_count id w ≡ as_number (is_away (entry_of_id w id))
  -- a task of the lobby is in the entry of its own id
  pub blocked : (id : ℕ) (t : Task) → entry_of_id w id ≡ Sleeping t → t.id ≡ id
  -- each runnable task is on a processor of its mask
  pub allowed : (processor : ℕ) → All (λ t. can_use processor t ≡ true) (runnable_at w processor)

-- every admitted task has a processor that it may use, wherever the task is
pub record HasPlaces (w : World) : Type 0 where
  pub in_lobby : (id : ℕ) (t : Task) → entry_of_id w id ≡ Sleeping t → HasPlace (count_in w) t
  pub in_hand : (processor : ℕ) (c : Carried) → (processor_at w processor).hand ≡ Some c → HasPlace (count_in w) c.task
  pub runnable : (processor : ℕ) → All (HasPlace (count_in w)) (runnable_at w processor)

-- what the world keeps true from its opening on
pub record IsOrderly (w : World) : Type 0 where
  pub once : StandsOnce w
  pub places : HasPlaces w
  -- each processor has an inbox
  pub an_inbox_each : length w.inboxes ≡ length w.processors
  -- each queue rises by (v, id)
  pub rising : (processor : ℕ) → IsRising (processor_at w processor).running.queue
  -- whatever is at a hook was accepted for it, and its maps have its shapes
  pub ready : (processor : ℕ) → AreReady (processor_at w processor).hooks
