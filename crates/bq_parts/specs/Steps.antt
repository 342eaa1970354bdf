-- The step that each event makes in the world: its reply, and what its share does to the parts that it touches.
use Rattle.std.specs.Prelude.{◌≡◌, ◌+◌, ◌⊎◌, true, List, [], ◌∷◌, ◌++◌, Some, None, is_some, Result, Ok, Err}
use Rattle.bq_bpf.specs.declared.board.CounterCall.{CounterCall}
use Rattle.bq_bpf.specs.Counters.{Through}
use Rattle.bq_installed.specs.Answers.{fresh_maps}
use Rattle.bq_parts.specs.declared.lobby_entry.LobbyEntry.{LobbyEntry}
use Rattle.bq_parts.specs.declared.event.Event.{Event}
use Rattle.bq_parts.specs.declared.event.Event.TheVariants.{Admit, Retire, Draw, Install, BeginWake, EndWake, Drain, Tick, Block, Pull}
use Rattle.bq_parts.specs.declared.reply.Reply.{Reply}
use Rattle.bq_parts.specs.declared.reply.Reply.TheVariants.{Drawn, Placed}
use Rattle.bq_parts.specs.declared.refusal.Refusal.{Refusal}
use Rattle.bq_parts.specs.declared.refusal.Refusal.TheVariants as no
use Rattle.bq_parts.specs.declared.waking.Placement.{Placement}
use Rattle.bq_parts.specs.Processors.{Processor}
use Rattle.bq_parts.specs.World.{World, processor_at, inbox, count_in, with_processor, with_inbox, with_lobby, loads_of}
use Rattle.bq_disc.specs.Counts.{saturating_sum}
use Rattle.bq_parts.specs.Refusals.{refusal, argument_refusal}
use Rattle.bq_parts.specs.Moves.{admitted}
use Rattle.bq_parts.specs.Choices.{PolicySemantics}
use Rattle.bq_parts.specs.Shares.{Admits, Retires, Ticks, Drains, Blocks, BeginsWake, Places, Installs, Pulls}

-- the reply to an event that is not refused, and the world that it leaves
abbrev pub Performs : PolicySemantics → World → Event → List CounterCall → Reply → World → Type 0
-- the task enters the lobby
Performs s w (Admit id nice mask slice) calls r w' =
    (lobby : List LobbyEntry) × Admits id (admitted (count_in w) id nice mask slice) w.lobby (Ok r) lobby × (calls ≡ []) × (w' ≡ with_lobby w lobby)
-- the task leaves the lobby for good
Performs s w (Retire id) calls r w' = (lobby : List LobbyEntry) × Retires id w.lobby (Ok r) lobby × (calls ≡ []) × (w' ≡ with_lobby w lobby)
-- the next number is drawn; after the greatest, that one again and again
Performs s w Draw calls r w' = let n = saturating_sum w.drawn 1 in (r ≡ Drawn n) × (calls ≡ []) × (w' ≡ record w { drawn = n })
-- a policy or none replaces what is at the hook, with maps of its own
Performs s w (Install processor h g policy) calls r w' =
    (q : Processor) × Installs h w.drawn (processor_at w processor) (record { policy = policy; generation = g; maps = fresh_maps policy }) (Ok r) q
    × (calls ≡ []) × (w' ≡ with_processor w processor q)
-- the task goes from the lobby to the hand, with all loads of that moment
Performs s w (BeginWake processor id) calls r w' =
    (q : Processor) × (lobby : List LobbyEntry) × BeginsWake id (loads_of w.processors w.inboxes) (processor_at w processor) w.lobby (Ok r) q lobby
    × (calls ≡ []) × (w' ≡ with_lobby (with_processor w processor q) lobby)
-- the task goes from the hand to the end of the chosen processor's inbox
Performs s w (EndWake processor now) calls r w' =
    (x : Placement) × (q : Processor) × Places s (count_in w) processor now (processor_at w processor) calls (Some x) q
    × (r ≡ Placed x.task.id x.to x.by x.steps) × (w' ≡ with_inbox (with_processor w processor q) x.to (inbox w x.to ++ x.task ∷ []))
-- all placed tasks enter in their order, and then it is decided who runs
Performs s w (Drain processor now) calls r w' =
    (q : Processor) × Drains s processor now (processor_at w processor) (inbox w processor) calls r q × (w' ≡ with_inbox (with_processor w processor q) processor [])
Performs s w (Tick processor now) calls r w' = (q : Processor) × Ticks s processor now (processor_at w processor) calls r q × (w' ≡ with_processor w processor q)
-- the current task goes to the lobby, and the queue's choice runs
Performs s w (Block processor now) calls r w' =
    (q : Processor) × (lobby : List LobbyEntry) × Blocks s.discipline processor now (processor_at w processor) w.lobby (Ok r) q lobby
    × (calls ≡ []) × (w' ≡ with_lobby (with_processor w processor q) lobby)
-- a task of the other processor's queue, or none, enters this one's; if nothing ran, the queue's choice runs
Performs s w (Pull processor from now) calls r w' =
    (q : Processor) × (other : Processor) × Pulls s processor from now (processor_at w processor) (processor_at w from) calls r q other
    × (w' ≡ with_processor (with_processor w processor q) from other)

-- the events that take memory: a task is admitted, or a policy installed
abbrev pub TakesMemory : Event → Type 0
TakesMemory (Admit id nice mask slice) = Unit {0}
TakesMemory (Install processor h g policy) = is_some policy ≡ true
TakesMemory e = ⊥

-- What an event does. A refused event does not change the world, and neither does an event that runs out of memory. Only
-- Admit and Install may run out of memory. A reason in their arguments comes before that, a reason in the world after it.
abbrev pub WorldStep : PolicySemantics → World → Event → List CounterCall → Result Reply Refusal → World → Type 0
WorldStep s w e calls (Ok r) w' = (refusal w e ≡ None) × Performs s w e calls r w'
WorldStep s w e calls (Err r) w' =
    (calls ≡ []) × (w' ≡ w) × ((refusal w e ≡ Some r) ⊎ (TakesMemory e × (argument_refusal (count_in w) e ≡ None) × (r ≡ no.OutOfMemory)))

-- the answers to some events are those of steps, one after another
abbrev pub WorldRun : PolicySemantics → World → List Event → List (List CounterCall) → List (Result Reply Refusal) → World → Type 0
WorldRun s w [] [] [] w' = w' ≡ w
WorldRun s w (e ∷ es) (calls ∷ more) (a ∷ answers) w' = (mid : World) × WorldStep s w e calls a mid × WorldRun s mid es more answers w'
WorldRun s w es more answers w' = ⊥

-- the calls of counters of some events lead from the one board to the other, one event after another
abbrev pub ThroughAll : {B : Type 0} → (B → CounterCall → B → Type 0) → B → List (List CounterCall) → B → Type 0
ThroughAll leads old [] new = new ≡ old
ThroughAll {B} leads old (calls ∷ more) new = (mid : B) × Through leads old calls mid × ThroughAll leads mid more new

-- with this answer the event leads from the one world to the other, and its calls of counters from the one board to the other
abbrev pub StepsOn : {B : Type 0} → PolicySemantics → (B → CounterCall → B → Type 0) → World → B → Event → Result Reply Refusal → World → B → Type 0
StepsOn s leads w board e answer w' board' = (calls : List CounterCall) × WorldStep s w e calls answer w' × Through leads board calls board'

-- with these answers the events lead from the one world to the other, and from the one board to the other
abbrev pub RunsOn : {B : Type 0} → PolicySemantics → (B → CounterCall → B → Type 0) → World → B → List Event → List (Result Reply Refusal) → World → B → Type 0
RunsOn s leads w board es answers w' board' = (calls : List (List CounterCall)) × WorldRun s w es calls answers w' × ThroughAll leads board calls board'
