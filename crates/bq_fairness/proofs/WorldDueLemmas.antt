-- Under EEVDF each task that enters at a processor of the world is due within one slice from where it stands.
use Rattle.std.proofs.Common.{ℕ, ◌+◌, ◌≤◌, Bool, true, false, cond, List, [], ◌∷◌, ◌++◌, Option, Some, None, Result, Ok, Err, sym, subst, arith}
use Rattle.std.specs.Prelude.{ℤ, pos, negsuc, ◌==◌, ◌^◌, ◌-◌}
use Rattle.bq_weights.specs.VirtualTime.{vdelta_of, advance_of, shift_of, held_within}
use Rattle.bq_disc.specs.Tasks.{Task, id_of}
use Rattle.bq_disc.specs.OneProcessor.{Running, charge, marked}
use Rattle.bq_bpf.specs.declared.board.CounterCall.{CounterCall}
use Rattle.bq_eevdf.specs.Eevdf.{eevdf}
use Rattle.bq_fairness.specs.Steps.{ProcessorStep, Pass, Decide, Enter, Leave, Mark, EntersDue}
use Rattle.bq_fairness.specs.Events.{entries}
use Rattle.bq_hooks.specs.Permitted.{task_numbered}
use Rattle.bq_parts.specs.declared.event.Event.{Event}
use Rattle.bq_parts.specs.declared.event.Event.TheVariants.{Admit, Retire, Draw, Install, BeginWake, EndWake, Drain, Tick, Block, Pull}
use Rattle.bq_parts.specs.declared.reply.Reply.{Reply}
use Rattle.bq_parts.specs.declared.reply.Reply.TheVariants.{Blocked, Pulled}
use Rattle.bq_parts.specs.declared.refusal.Refusal.{Refusal}
use Rattle.bq_parts.specs.Moves.{taken_from}
use Rattle.bq_parts.specs.World.{World, inbox}
use Rattle.bq_parts.specs.Choices.{by_programs, SettledChoice}
use Rattle.bq_parts.specs.Steps.{WorldStep}
use Rattle.bq_fairness.specs.Seen.{running_at, enter_if_pulled, decide_if_idle, own_steps, leaving, steps_at}

-- a mark that is moved ends at 2^62
pub shift_ends : (mark : ℕ) (rel : ℤ) → shift_of mark rel ≤ 2 ^ 62
shift_ends mark (pos n) = omega arith
shift_ends mark (negsuc n) = omega arith

-- a task that enters is due within one slice from where it stands
pub entered_due : (v slice weight : ℕ) → v ≤ 2 ^ 62
    → (v ≤ advance_of v slice weight) × (advance_of v slice weight ≤ v + vdelta_of slice weight)
entered_due v slice weight h = (omega arith, omega arith)

-- each task that enters by some steps is due so, by cases: woken tasks, a pulled one, a start, a leave, one of two lists
entries_due : (mark : ℕ) (tasks : List Task) → EntersDue (entries eevdf mark tasks)
entries_due mark [] = tt
entries_due mark (t ∷ tasks) = (
  entered_due _ t.slice t.weight (shift_ends mark (held_within (vdelta_of t.slice t.weight) t.rel)),
  entries_due mark tasks,
)

entry_due : (p : Running) (o : Option Task) (ss : List ProcessorStep) → EntersDue ss → EntersDue (enter_if_pulled eevdf p o ++ ss)
entry_due p None ss h = h
entry_due p (Some t) ss h = (entered_due _ t.slice t.weight (shift_ends p.mark t.rel), h)

begins_due : (o : Option Task) → EntersDue (decide_if_idle o)
begins_due None = tt
begins_due (Some t) = tt

leaving_due : (task : Option ℕ) → EntersDue (leaving task)
leaving_due None = tt
leaving_due (Some id) = tt

either_due : (ss rs : List ProcessorStep) (t : Bool) → EntersDue ss → EntersDue rs → EntersDue (cond t ss rs)
either_due ss rs true h k = h
either_due ss rs false h k = k

-- where each task that enters over some steps and over others is due, so is each that enters over all of them
pub EntersDue-append : (ss rs : List ProcessorStep) → EntersDue ss → EntersDue rs → EntersDue (ss ++ rs)
EntersDue-append [] rs h k = k
EntersDue-append (Pass now ∷ ss) rs h k = EntersDue-append ss rs h k
EntersDue-append (Decide ∷ ss) rs h k = EntersDue-append ss rs h k
EntersDue-append (Enter t ∷ ss) rs h k = (h.0, EntersDue-append ss rs h.1 k)
EntersDue-append (Leave id ∷ ss) rs h k = EntersDue-append ss rs h k
EntersDue-append (Mark ∷ ss) rs h k = EntersDue-append ss rs h k

-- each task that enters by an event
pub event_due : (at : ℕ) (w w' : World) (e : Event) (calls : List CounterCall) (a : Result Reply Refusal)
    → WorldStep (by_programs eevdf) w e calls a w' → EntersDue (steps_at eevdf at w e a)
event_due at w w' e calls (Err r) h = tt
event_due at w w' (Admit id nice mask slice) calls (Ok r) h = tt
event_due at w w' (Retire id) calls (Ok r) h = tt
event_due at w w' Draw calls (Ok r) h = tt
event_due at w w' (Install processor hook g policy) calls (Ok r) h = tt
event_due at w w' (BeginWake processor id) calls (Ok r) h = tt
event_due at w w' (EndWake processor now) calls (Ok r) h =
    either_due (own_steps eevdf w (EndWake processor now) r) [] (at == processor) tt tt
event_due at w w' (Tick processor now) calls (Ok r) h = either_due (own_steps eevdf w (Tick processor now) r) [] (at == processor) tt tt
event_due at w w' (Drain processor now) calls (Ok r) h =
    either_due (own_steps eevdf w (Drain processor now) r) [] (at == processor)
    (entries_due (charge eevdf (running_at w processor) now).mark (inbox w processor)) tt
event_due at w w' (Block processor now) calls (Ok r) h =
    subst (λ x. EntersDue (steps_at eevdf at w (Block processor now) (Ok x))) (sym h.1.2.1.2)
    (either_due (own_steps eevdf w (Block processor now) (Blocked h.1.2.0.id (id_of h.1.0.running.current))) [] (at == processor) tt tt)
event_due at w w' (Pull processor from now) calls (Ok r) h =
    let c = charge eevdf (running_at w processor) now in
    let settled : SettledChoice = h.1.2.settled in
    let task = task_numbered settled.choice in
    subst (λ x. EntersDue (steps_at eevdf at w (Pull processor from now) (Ok x))) (sym h.1.2.replies)
    (either_due (own_steps eevdf w (Pull processor from now) (Pulled task (id_of h.1.0.running.current) settled.by settled.steps))
    (cond (at == from) (leaving task) []) (at == processor)
    (entry_due c (taken_from (marked eevdf (running_at w from)) task) (decide_if_idle c.current) (begins_due c.current))
    (either_due (leaving task) [] (at == from) (leaving_due task) tt))
