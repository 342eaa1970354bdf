-- The task that leaves a processor, and where the one in its hand goes.
use Rattle.std.proofs.Common.{◌≡◌, ℕ, ◌+◌, ◌<◌, ◌≤◌, Option, Some, None, refl, sym, ap, arith, inl, inr}
use Rattle.std.specs.Option.{option_map}
use Rattle.std.proofs.lemmas.Bool.{cases_lt}
use Rattle.bq_disc.specs.Tasks.{Task, present}
use Rattle.bq_disc.specs.Discipline.{Discipline}
use Rattle.bq_disc.specs.OneProcessor.{Running, present_at, charge}
use Rattle.bq_hooks.specs.OwnPlace.{HasPlace}
use Rattle.bq_hooks.specs.Permitted.{may_place}
use Rattle.bq_hooks.proofs.PermittedLemmas.{own_place_permitted}
use Rattle.bq_parts.specs.declared.carried.Carried.{Carried}
use Rattle.bq_parts.specs.Processors.{Processor, count_of_id, HasIdsBelowTasks}
use Rattle.bq_parts.specs.Choices.{SettledChoice, SettlesPlace, by_programs}
use Rattle.bq_parts.proofs.CountLemmas.{one, one_self, keeps_charge}
use Rattle.bq_parts.proofs.PermittedLemmas.{settled_permitted, may_place_fits}

-- the task that leaves is the one that ran, as it leaves
pub leaving_task_ran : (f : Task → Task) (o : Option Task) (s : Task) → Some s ≡ option_map f o → (t : Task) × (Some t ≡ o) × (s ≡ f t)
leaving_task_ran f None s h = absurd (let no : ⊥ = cc in no)
leaving_task_ran f (Some t) s h = (t, refl, (cc))

-- a task that is counted has an entry in the lobby, if no id beyond the lobby is counted
below_by_case : (t : Task) (m n : ℕ) → (1024 ≤ t.id → m ≡ 0) → m ≡ one t.id t + n → t.id < 1024
below_by_case t m n h e = elim (cases_lt t.id 1024) [ inl l ↦ l | inr g ↦ absurd (omega (arith, one_self t, h g, e)) ]

-- the task that runs has an entry, if all have
pub current_id : (d : Discipline) (p : Running) (now : ℕ) (t : Task)
    → HasIdsBelowTasks (present_at p) → Some t ≡ (charge d p now).current → t.id < 1024
current_id d p now t s e =
    let q = charge d p now in
    let here : count_of_id t.id (present_at q) ≡ one t.id t + count_of_id t.id q.queue =
    ap (λ (x : Option Task). count_of_id t.id (present x q.queue)) (sym e) in
    below_by_case t (count_of_id t.id (present_at p)) (count_of_id t.id q.queue) (s t.id) (omega (arith, here, keeps_charge t.id d p now))

-- what is placed is one of those processors
pub placed_fits : (d : Discipline) (count processor : ℕ) (p : Processor) (carried : Carried) (settled : SettledChoice)
    → HasPlace count carried.task → SettlesPlace (by_programs d) count processor p carried settled
    → settled.choice < count
placed_fits d count processor p carried settled h k =
    let goes =
    settled_permitted (by_programs d) _ p.hooks.place p.running.last processor (may_place count carried.task) _ settled
    (own_place_permitted count carried.loads carried.task h) k in
    (may_place_fits count carried.task settled.choice goes).0
