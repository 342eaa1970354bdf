-- A history of the world as one processor has it: the steps that each event makes there, if only the discipline decides.
use Rattle.std.specs.Prelude.{◌≡◌, ℕ, ◌<◌, Bool, false, ◌==◌, if◌then◌else◌, List, [], ◌∷◌, ◌++◌, Option, None, Some, Result, Ok, Err}
use Rattle.bq_disc.specs.Tasks.{Task}
use Rattle.bq_disc.specs.Discipline.{Discipline, pulled}
use Rattle.bq_disc.specs.OneProcessor.{Running, charge, marked}
use Rattle.bq_bpf.specs.declared.board.CounterCall.{CounterCall}
use Rattle.bq_hooks.specs.declared.settled.By.TheVariants as who
use Rattle.bq_fairness.specs.Steps.{ProcessorStep, Pass, Decide, Enter, Leave, Mark, after_steps}
use Rattle.bq_fairness.specs.Events.{entries}
use Rattle.bq_parts.specs.declared.event.Event.{Event}
use Rattle.bq_parts.specs.declared.event.Event.TheVariants as event
use Rattle.bq_parts.specs.declared.reply.Reply.{Reply}
use Rattle.bq_parts.specs.declared.reply.Reply.TheVariants.{Drained, Ticked, Blocked, Pulled}
use Rattle.bq_parts.specs.declared.refusal.Refusal.{Refusal}
use Rattle.bq_parts.specs.Moves.{taken_from}
use Rattle.bq_parts.specs.World.{World, processor_at, inbox, count_in}
use Rattle.bq_parts.specs.Orderly.{IsOrderly}
use Rattle.bq_parts.specs.Choices.{by_programs}
use Rattle.bq_parts.specs.Steps.{WorldStep}

-- the running part of a processor of a world
abbrev pub running_at : World → ℕ → Running
running_at w processor = (processor_at w processor).running

-- a pulled task, if there is one, enters
abbrev pub enter_if_pulled : Discipline → Running → Option Task → List ProcessorStep
enter_if_pulled d p None = []
enter_if_pulled d p (Some t) = Enter (pulled d p.mark t) ∷ []

-- the queue's choice begins to run if nothing runs
abbrev pub decide_if_idle : Option Task → List ProcessorStep
decide_if_idle None = Decide ∷ []
decide_if_idle (Some t) = []

-- the steps of an answered event at the processor that it is for
abbrev pub own_steps : Discipline → World → Event → Reply → List ProcessorStep
own_steps d w (event.EndWake processor now) r = Pass now ∷ []
own_steps d w (event.Drain processor now) r = Pass now ∷ entries d (charge d (running_at w processor) now).mark (inbox w processor)
own_steps d w (event.Tick processor now) r = Pass now ∷ Decide ∷ []
own_steps d w (event.Block processor now) (Blocked task run) = Pass now ∷ Leave task ∷ Decide ∷ []
own_steps d w (event.Pull processor from now) (Pulled task run by steps) =
    let c = charge d (running_at w processor) now in
    Pass now ∷ enter_if_pulled d c (taken_from (marked d (running_at w from)) task) ++ decide_if_idle c.current
own_steps d w e r = []

-- the steps of a pull at the other processor: the mark is computed again, and the task, if there is one, leaves
abbrev pub leaving : Option ℕ → List ProcessorStep
leaving None = Mark ∷ []
leaving (Some id) = Mark ∷ Leave id ∷ []

-- the steps of an answered event at the other processor of a pull
abbrev pub source_steps : Event → Reply → List ProcessorStep
source_steps (event.Pull processor from now) (Pulled task run by steps) = leaving task
source_steps e r = []

-- the processor that an event is for, if it is for one
abbrev pub own_processor : Event → Option ℕ
own_processor (event.EndWake processor now) = Some processor
own_processor (event.Drain processor now) = Some processor
own_processor (event.Tick processor now) = Some processor
own_processor (event.Block processor now) = Some processor
own_processor (event.Pull processor from now) = Some processor
own_processor e = None

-- the other processor of a pull
abbrev pub source : Event → Option ℕ
source (event.Pull processor from now) = Some from
source e = None

-- whether this is the processor given
abbrev pub is_own_processor : ℕ → Option ℕ → Bool
is_own_processor at None = false
is_own_processor at (Some processor) = at == processor

-- the steps that an answered event makes at a processor: none if it was refused
abbrev pub steps_at : Discipline → ℕ → World → Event → Result Reply Refusal → List ProcessorStep
steps_at d at w e (Ok r) = if is_own_processor at (own_processor e) then own_steps d w e r else if is_own_processor at (source e) then source_steps e r else []
steps_at d at w e (Err r) = []

-- if the event asks who runs at that processor, the discipline answered
abbrev pub DecidesAlone : ℕ → Event → Result Reply Refusal → Type 0
DecidesAlone at (event.Drain processor now) (Ok (Drained count run by steps)) = at ≡ processor → by ≡ who.Discipline
DecidesAlone at (event.Tick processor now) (Ok (Ticked run by steps)) = at ≡ processor → by ≡ who.Discipline
DecidesAlone at e a = Unit {0}

-- a history of the world, and the steps that it makes at a processor if only the discipline decides there
abbrev pub IsSeenAt : Discipline → ℕ → World → List Event → List (List CounterCall) → List (Result Reply Refusal) → World → List ProcessorStep → Type 0
IsSeenAt d at w [] [] [] w' ss = (w' ≡ w) × (ss ≡ [])
IsSeenAt d at w (e ∷ es) (calls ∷ more) (a ∷ answers) w' ss =
    (mid : World) × (rest : List ProcessorStep) × WorldStep (by_programs d) w e calls a mid × DecidesAlone at e a
    × IsSeenAt d at mid es more answers w' rest × (ss ≡ steps_at d at w e a ++ rest)
IsSeenAt d at w es more answers w' ss = ⊥

-- what an event does at a processor is its steps there
abbrev pub EventIsSteps : Type 0
EventIsSteps =
    (d : Discipline) (at : ℕ) (w w' : World) (e : Event) (calls : List CounterCall) (a : Result Reply Refusal) →
    IsOrderly w → at < count_in w → WorldStep (by_programs d) w e calls a w' → DecidesAlone at e a →
    running_at w' at ≡ after_steps d (running_at w at) (steps_at d at w e a)

-- what a history does at a processor is its steps there
abbrev pub HistoryIsSteps : Type 0
HistoryIsSteps =
    (d : Discipline) (at : ℕ) (w w' : World) (es : List Event) (more : List (List CounterCall)) (answers : List (Result Reply Refusal)) (ss : List ProcessorStep) →
    IsOrderly w → at < count_in w → IsSeenAt d at w es more answers w' ss → running_at w' at ≡ after_steps d (running_at w at) ss
