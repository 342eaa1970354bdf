-- The own choices are permitted, and so is what is settled.
use Rattle.std.proofs.Common.{◌≡◌, ℕ, Bool, true, false, cond, List, Option, Some, None, refl, ap, ◌∙◌, lt-ltb}
use Rattle.std.specs.Prelude.{◌==◌, unwrap_or, Contains, IfSome}
use Rattle.std.proofs.lemmas.Bool.{or_right}
use Rattle.bq_disc.specs.Tasks.{Task, id_of}
use Rattle.bq_disc.specs.Queues.{HasDistinctIds, can_use}
use Rattle.bq_disc.specs.Pulls.{pull_of}
use Rattle.bq_disc.proofs.PullLemmas.{pull_is_lawful}
use Rattle.bq_disc.proofs.SetLemmas.{find_task-Contains}
use Rattle.bq_hooks.specs.Contexts.{nobody, or_nobody, as_number}
use Rattle.bq_hooks.specs.OwnPlace.{own_place, HasPlace}
use Rattle.bq_hooks.specs.Permitted.{may_place, may_preempt, may_pull}
use Rattle.bq_hooks.specs.Settled.{Settled}
use Rattle.bq_hooks.specs.declared.settled.By.TheVariants.{Policy, Discipline}
use Rattle.bq_hooks.specs.Laws.{OwnChoicesArePermitted, SettledIsPermitted}
use Rattle.bq_hooks.proofs.PlaceLemmas.{own_place_there}

-- the own place is permitted
pub own_place_permitted : (count : ℕ) (loads : List ℕ) (t : Task)
    → HasPlace count t → may_place count t (unwrap_or (own_place count loads t) 0) ≡ true
own_place_permitted count loads t h =
    let there = own_place_there count loads t h in
    ap (λ o. may_place count t (unwrap_or o 0)) there.1 ∙ rw (lt-ltb there.0 count there.2, there.3) refl

-- the discipline's own answer about giving way, as a number, is permitted
preempt_permitted : (own : Bool) → may_preempt (as_number own) ≡ true
preempt_permitted true = refl
preempt_permitted false = refl

-- an answer that names a task of the queue that may use the puller, or nobody, is permitted
pull_by_case : (puller : ℕ) (queue : List Task) (o : Option Task)
    → HasDistinctIds queue → IfSome o (λ t. Contains queue t × (can_use puller t ≡ true))
    → may_pull puller queue (or_nobody (id_of o)) ≡ true
pull_by_case puller queue None d h = refl
pull_by_case puller queue (Some t) d h =
    let found = find_task-Contains queue t h.0.0 d h.0.1 h.0.2 in
    rw (found, h.1) (or_right (t.id == nobody) true refl)

-- each own choice is permitted: the place where the mask has one, the answer about giving way, and the pull
pub own_choices_are_permitted : OwnChoicesArePermitted
own_choices_are_permitted = record {
  place = own_place_permitted;
  preempt = preempt_permitted;
  pull = λ puller size from queue d.
      pull_by_case puller queue (pull_of puller size from queue) d (pull_is_lawful.member puller size from queue);
}

-- the policy's answer if it is permitted, else a permitted own choice, is permitted
by_test : (b : Bool) (permitted : ℕ → Bool) (r0 own : ℕ) → permitted r0 ≡ b → permitted own ≡ true →
    permitted (cond {A = Settled} b (record { choice = r0; by = Policy }) (record { choice = own; by = Discipline })).choice ≡ true
by_test true permitted r0 own e h = e
by_test false permitted r0 own e h = h

-- what is settled of an answer and an own choice is permitted, if the own choice is
pub settled_is_permitted : SettledIsPermitted
settled_is_permitted permitted None own h = h
settled_is_permitted permitted (Some r0) own h = by_test (permitted r0) permitted r0 own refl h
