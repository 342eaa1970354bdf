-- The law of the word on an answer: if the context is that of a choice, the word is the scheduler's rule on the answer.
use Rattle.std.specs.Prelude.{◌≡◌, ℕ, ◌<◌, ◌≤◌, ◌^◌, Bool, true, false, ◌⊎◌, List, length}
use Rattle.bq_disc.specs.Tasks.{Task}
use Rattle.bq_disc.specs.Queues.{HasDistinctIds, HasSmallIds}
use Rattle.bq_disc.specs.Movable.{movable_to}
use Rattle.bq_hooks.specs.Contexts.{PlaceFacts, PreemptFacts, PullFacts, place_bytes_below, preempt_bytes, pull_bytes}
use Rattle.bq_hooks.specs.Permitted.{may_place, may_preempt, may_pull}
use Rattle.bq_hooks.specs.declared.hook.Hook.TheVariants.{Place, Preempt, Pull}
use Rattle.bq_policy_run.specs.declared.permitted.Permission.{Permission}
use Rattle.bq_policy_run.specs.declared.permitted.Permission.TheVariants.{Permitted, NotPermitted, NotShown}
use Rattle.bq_policy_run.specs.Permitting.{permission_of}

-- whether the rule permits the answer, and the word on it: of an answer that is not shown the word says neither
abbrev pub IsPermissionOn : Bool → Permission → Type 0
IsPermissionOn may Permitted = may ≡ true
IsPermissionOn may NotPermitted = may ≡ false
IsPermissionOn may NotShown = Unit {0}

-- the facts of a pull from this queue: no id comes twice, ids fit 16 bits, and 32 bits count the movable tasks
pub record IsPullFrom (queue : List Task) (f : PullFacts) : Type 0 where
  pub movable : f.movable ≡ movable_to f.puller queue
  pub distinct : HasDistinctIds queue
  pub small : HasSmallIds queue
  pub few : length f.movable < 2 ^ 32

-- On a processor that a place context shows, the word is the rule's; so it is on any processor if the context shows all of the
-- machine. An answer is called permitted only if the rule permits it. On each answer of a preempt policy or of a pull policy the
-- word is the rule's; for a pull policy it is left open only if more than eight tasks are movable
pub record WordsAreTheRules : Type 0 where
  pub place : (limit : ℕ) (f : PlaceFacts) (r0 : ℕ) → limit ≤ 64 → (r0 < limit) ⊎ (f.processors ≤ limit) →
      IsPermissionOn (may_place f.processors f.task r0) (permission_of Place (place_bytes_below limit f) r0)
  pub place_permitted : (limit : ℕ) (f : PlaceFacts) (r0 : ℕ) → limit ≤ 64 → permission_of Place (place_bytes_below limit f) r0 ≡ Permitted → may_place f.processors f.task r0 ≡ true
  pub preempt : (f : PreemptFacts) (r0 : ℕ) → IsPermissionOn (may_preempt r0) (permission_of Preempt (preempt_bytes f) r0)
  pub pull : (queue : List Task) (f : PullFacts) (r0 : ℕ) → IsPullFrom queue f → IsPermissionOn (may_pull f.puller queue r0) (permission_of Pull (pull_bytes f) r0)
  pub not_shown : (queue : List Task) (f : PullFacts) (r0 : ℕ) → IsPullFrom queue f → permission_of Pull (pull_bytes f) r0 ≡ NotShown → 8 < length f.movable
