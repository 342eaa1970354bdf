-- The laws of contexts and choices: a context is of its hook's length and consists of bytes; each of the discipline's own
-- choices is permitted; and so is each settled choice.
use Rattle.std.specs.Prelude.{◌≡◌, ℕ, ◌<◌, Bool, true, List, length, Option, Some, slice_get, unwrap_or}
use Rattle.bq_disc.specs.Tasks.{Task, id_of}
use Rattle.bq_disc.specs.Queues.{HasDistinctIds}
use Rattle.bq_disc.specs.Pulls.{pull_of}
use Rattle.bq_hooks.specs.Contexts.{PlaceFacts, PreemptFacts, PullFacts, place_bytes_first, place_bytes_second, preempt_bytes, pull_bytes, or_nobody, as_number}
use Rattle.bq_hooks.specs.OwnPlace.{own_place, HasPlace}
use Rattle.bq_hooks.specs.Permitted.{may_place, may_preempt, may_pull}
use Rattle.bq_hooks.specs.Settled.{settled}

-- a list is of this length and consists of bytes
abbrev pub AreBytesOfLength : ℕ → List ℕ → Type 0
AreBytesOfLength n xs = (length xs ≡ n) × ((i b : ℕ) → slice_get xs i ≡ Some b → b < 256)

-- each context has its length and consists of bytes, whatever it shows
pub record ContextsAreBytes : Type 0 where
  pub place_first : (f : PlaceFacts) → AreBytesOfLength 104 (place_bytes_first f)
  pub place_second : (f : PlaceFacts) → AreBytesOfLength 296 (place_bytes_second f)
  pub preempt : (f : PreemptFacts) → AreBytesOfLength 56 (preempt_bytes f)
  pub pull : (f : PullFacts) → AreBytesOfLength 160 (pull_bytes f)

-- the discipline's own choice is permitted: a place if the task may use some processor of the machine, and a task to pull if
-- no two tasks of the queue share an id
pub record OwnChoicesArePermitted : Type 0 where
  pub place : (count : ℕ) (loads : List ℕ) (t : Task) → HasPlace count t → may_place count t (unwrap_or (own_place count loads t) 0) ≡ true
  pub preempt : (own : Bool) → may_preempt (as_number own) ≡ true
  pub pull : (puller size from : ℕ) (queue : List Task) → HasDistinctIds queue → may_pull puller queue (or_nobody (id_of (pull_of puller size from queue))) ≡ true

-- a settled choice is permitted if the discipline's own choice is
abbrev pub SettledIsPermitted : Type 0
SettledIsPermitted = (permitted : ℕ → Bool) (r0 : Option ℕ) (own : ℕ) → permitted own ≡ true → permitted (settled permitted r0 own).choice ≡ true
