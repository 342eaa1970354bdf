-- Each task that enters at a processor of the world is new there, and so the laws of fairness may speak of it.
use Rattle.std.proofs.Common.{◌≡◌, ◌≢◌, ℕ, ◌+◌, ◌≤◌, Bool, true, false, cond, List, [], ◌∷◌, ◌++◌, Option, Some, None, Result, Ok, Err, refl, ap, sym, subst, arith, eqb-true}
use Rattle.std.specs.Prelude.{◌==◌}
use Rattle.std.specs.Option.{option_map}
use Rattle.bq_disc.specs.Tasks.{Task, find_task, inserted, present, id_of}
use Rattle.bq_disc.specs.Discipline.{Discipline, woken, pulled, left_at}
use Rattle.bq_disc.specs.OneProcessor.{Running, present_at, charge, marked}
use Rattle.bq_bpf.specs.declared.board.CounterCall.{CounterCall}
use Rattle.bq_fairness.specs.Steps.{ProcessorStep, Enter, stepped, after_steps, IsNew, EachEntersNew}
use Rattle.bq_fairness.specs.Events.{entries}
use Rattle.bq_hooks.specs.Permitted.{task_numbered}
use Rattle.bq_parts.specs.declared.event.Event.{Event}
use Rattle.bq_parts.specs.declared.event.Event.TheVariants.{Admit, Retire, Draw, Install, BeginWake, EndWake, Drain, Tick, Block, Pull}
use Rattle.bq_parts.specs.declared.reply.Reply.{Reply}
use Rattle.bq_parts.specs.declared.reply.Reply.TheVariants.{Blocked, Pulled}
use Rattle.bq_parts.specs.declared.refusal.Refusal.{Refusal}
use Rattle.bq_parts.specs.Processors.{count_of_id, HasEachOnce}
use Rattle.bq_parts.specs.Moves.{taken_from}
use Rattle.bq_parts.specs.World.{World, inbox}
use Rattle.bq_parts.specs.Orderly.{IsOrderly}
use Rattle.bq_parts.specs.Choices.{by_programs, SettledChoice}
use Rattle.bq_parts.specs.Steps.{WorldStep}
use Rattle.bq_parts.proofs.CountLemmas.{one, one_self, count_of-append, count_of-inserted, count_of-without, queue_le_present, find_task-absent, keeps_charge}
use Rattle.bq_parts.proofs.OnceLemmas.{each_once_runnable, each_once_two}
use Rattle.bq_fairness.specs.Seen.{running_at, enter_if_pulled, decide_if_idle, own_steps, leaving, steps_at}
use Rattle.bq_fairness.proofs.SeenLemmas.{pulls_apart}
use Rattle.bq_fairness.proofs.WorldSoundLemmas.{Each, IsKept, HasWeight, IsSoundWorld, Holds, taken_weight}

-- what enters is counted
count_entered : (id : ℕ) (t : Task) (q : List Task) (o : Option Task)
    → count_of_id id (present o (inserted t q)) ≡ one id t + count_of_id id (present o q)
count_entered id t q None = count_of-inserted id t q
count_entered id t q (Some c) = omega (arith, count_of-inserted id t q)

-- a task that is among others once is not among those before it
before_it : (t : Task) (xs tasks : List Task) → HasEachOnce (xs ++ t ∷ tasks) → find_task t.id xs ≡ None
before_it t xs tasks h = find_task-absent t.id xs (omega (arith, h t.id, one_self t, count_of-append t.id xs (t ∷ tasks)))

-- woken tasks that enter one after another are new, if each is there once with those that are present
entries_new : (d : Discipline) (P : Task → Type 0) → IsKept d P → (p : Running) (mark : ℕ) (tasks : List Task)
    → HasEachOnce (present_at p ++ tasks) → Each HasWeight tasks
    → EachEntersNew d p (entries d mark tasks)
entries_new d P k p mark [] once w = (tt, tt)
entries_new d P k p mark (t ∷ tasks) once w =
    let u = woken d mark t in
    let held = k.woken mark t w.0 in
    let new : IsNew p u = record { id = before_it t (present_at p) tasks once; weight = k.weight u held; ends = k.ends u held } in
    let next = stepped d p (Enter u) in
    let rest : HasEachOnce (present_at next ++ tasks) =
    λ id. omega (
      arith,
      once id,
      count_of-append id (present_at p) (t ∷ tasks),
      count_of-append id (present_at next) tasks,
      count_entered id u p.queue p.current,
    ) in
    (new, entries_new d P k next mark tasks rest w.1)

-- where each task that enters over some steps, and over others after them, is new, so is each that enters over all
pub EachEntersNew-append : (d : Discipline) (p : Running) (ss rs : List ProcessorStep)
    → EachEntersNew d p ss → EachEntersNew d (after_steps d p ss) rs → EachEntersNew d p (ss ++ rs)
EachEntersNew-append d p [] rs h k = k
EachEntersNew-append d p (s ∷ ss) rs h k = (h.0, EachEntersNew-append d (stepped d p s) ss rs h.1 k)

-- no task enters as the queue's choice starts, or as a task leaves
begins_new : (d : Discipline) (p : Running) (o : Option Task) → EachEntersNew d p (decide_if_idle o)
begins_new d p None = (tt, tt)
begins_new d p (Some t) = tt

leaving_new : (d : Discipline) (p : Running) (task : Option ℕ) → EachEntersNew d p (leaving task)
leaving_new d p None = (tt, tt)
leaving_new d p (Some id) = (tt, (tt, tt))

-- a pulled task is new, if its weight is of the table's range and none that is present has its id
entry_new : (d : Discipline) (P : Task → Type 0) → IsKept d P → (p : Running) (o : Option Task)
    → ((t : Task) → o ≡ Some t → HasWeight t × (find_task t.id (present_at p) ≡ None))
    → EachEntersNew d p (enter_if_pulled d p o)
entry_new d P k p None h = tt
entry_new d P k p (Some t) h =
    let u = pulled d p.mark t in
    let f = h t refl in
    let held = k.pulled p.mark t f.0 in
    (record { id = f.1; weight = k.weight u held; ends = k.ends u held }, tt)

-- the task that is taken from a queue, if it was there, was counted there
found_counted : (mark id : ℕ) (q : List Task) (r : Option Task) (o : Option Task)
    → find_task id q ≡ o → (t : Task) → option_map (left_at mark) o ≡ Some t → 1 ≤ count_of_id t.id (present r q)
found_counted mark id q r None e t f = cc
found_counted mark id q r (Some x) e t f =
    let same : x.id ≡ t.id = let it : left_at mark x ≡ t = cc in ap (λ (y : Task). y.id) it in
    omega (arith, count_of-without t.id id q x e, subst (λ i. one i x ≡ 1) same (one_self x), queue_le_present t.id r q)

-- a task that is taken was there
taken_counted : (p : Running) (task : Option ℕ) (t : Task) → taken_from p task ≡ Some t → 1 ≤ count_of_id t.id (present_at p)
taken_counted p None t e = cc
taken_counted p (Some id) t e = found_counted p.mark id p.queue p.current (find_task id p.queue) refl t e

-- a task of one processor is not at another
elsewhere : (d : Discipline) (w : World) (processor from now : ℕ) (task : Option ℕ) (t : Task)
    → IsOrderly w → processor ≢ from → taken_from (marked d (running_at w from)) task ≡ Some t
    → find_task t.id (present_at (charge d (running_at w processor) now)) ≡ None
elsewhere d w processor from now task t o apart e =
    let p = running_at w processor in
    let there = taken_counted (marked d (running_at w from)) task t e in
    find_task-absent t.id (present_at (charge d p now))
    (omega (
      arith,
      each_once_two w processor from apart o t.id,
      count_of-append t.id (present_at p) (present_at (running_at w from)),
      keeps_charge t.id d p now,
      there,
    ))

-- of two lists of steps, each task that enters by the one that is made is new
if_at : (d : Discipline) (p : Running) (ss rs : List ProcessorStep) (t : Bool)
    → (t ≡ true → EachEntersNew d p ss) → (t ≡ false → EachEntersNew d p rs)
    → EachEntersNew d p (cond t ss rs)
if_at d p ss rs true h k = h refl
if_at d p ss rs false h k = k refl

-- what an event does at its own processor, seen from a processor that may be it
own_new : (d : Discipline) (w : World) (at processor : ℕ) (ss rs : List ProcessorStep)
    → EachEntersNew d (running_at w processor) ss → EachEntersNew d (running_at w at) rs
    → EachEntersNew d (running_at w at) (cond (at == processor) ss rs)
own_new d w at processor ss rs h k =
    if_at d (running_at w at) ss rs (at == processor)
    (λ e. subst (λ n. EachEntersNew d (running_at w n) ss) (sym (eqb-true at processor e)) h) (λ e. k)

-- each task that enters by an event is new
pub event_new : (d : Discipline) (P : Task → Type 0) → IsKept d P
    → (at : ℕ) (w w' : World) (e : Event) (calls : List CounterCall) (a : Result Reply Refusal) → IsOrderly w
    → IsSoundWorld P w → WorldStep (by_programs d) w e calls a w'
    → EachEntersNew d (running_at w at) (steps_at d at w e a)
event_new d P k at w w' e calls (Err r) o s h = tt
event_new d P k at w w' (Admit id nice mask slice) calls (Ok r) o s h = tt
event_new d P k at w w' (Retire id) calls (Ok r) o s h = tt
event_new d P k at w w' Draw calls (Ok r) o s h = tt
event_new d P k at w w' (Install processor hook g policy) calls (Ok r) o s h = tt
event_new d P k at w w' (BeginWake processor id) calls (Ok r) o s h = tt
event_new d P k at w w' (EndWake processor now) calls (Ok r) o s h =
    own_new d w at processor (own_steps d w (EndWake processor now) r) [] (tt, tt) tt
event_new d P k at w w' (Tick processor now) calls (Ok r) o s h =
    own_new d w at processor (own_steps d w (Tick processor now) r) [] (tt, (tt, tt)) tt
event_new d P k at w w' (Drain processor now) calls (Ok r) o s h =
    let p = running_at w processor in
    let once : HasEachOnce (present_at (charge d p now) ++ inbox w processor) =
    λ id. omega (
      arith,
      each_once_runnable w processor o id,
      count_of-append id (present_at p) (inbox w processor),
      count_of-append id (present_at (charge d p now)) (inbox w processor),
      keeps_charge id d p now,
    ) in
    own_new d w at processor (own_steps d w (Drain processor now) r) []
    (tt, entries_new d P k (charge d p now) (charge d p now).mark (inbox w processor) once (s.placed processor)) tt
event_new d P k at w w' (Block processor now) calls (Ok r) o s h =
    subst (λ x. EachEntersNew d (running_at w at) (steps_at d at w (Block processor now) (Ok x))) (sym h.1.2.1.2)
    (own_new d w at processor (own_steps d w (Block processor now) (Blocked h.1.2.0.id (id_of h.1.0.running.current))) []
    (tt, (tt, (tt, tt))) tt)
event_new d P k at w w' (Pull processor from now) calls (Ok r) o s h =
    let c = charge d (running_at w processor) now in
    let source = marked d (running_at w from) in
    let apart = pulls_apart w processor from now h.0 in
    let there : Holds P source = record { current = (s.running from).current; queue = (s.running from).queue } in
    let settled : SettledChoice = h.1.2.settled in
    let task = task_numbered settled.choice in
    let taken = taken_from source task in
    subst (λ x. EachEntersNew d (running_at w at) (steps_at d at w (Pull processor from now) (Ok x))) (sym h.1.2.replies)
    (own_new d w at processor
    (own_steps d w (Pull processor from now) (Pulled task (id_of h.1.0.running.current) settled.by settled.steps))
    (cond (at == from) (leaving task) []) (
      tt,
      EachEntersNew-append d c (enter_if_pulled d c taken) (decide_if_idle c.current)
          (entry_new d P k c taken (λ t e. (taken_weight d P k source task there t e, elsewhere d w processor from now task t o apart e)))
          (begins_new d (after_steps d c (enter_if_pulled d c taken)) c.current),
    ) (own_new d w at from (leaving task) [] (leaving_new d (running_at w from) task) tt))
