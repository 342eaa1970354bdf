-- The laws of the world: it opens in order, each event keeps it so, and what an event does is decided by the world, the event
-- and the counters' answers.
use Rattle.std.specs.Prelude.{◌≡◌, ◌≢◌, ℕ, List, take, Result, IfErr}
use Rattle.bq_disc.specs.Discipline.{Discipline}
use Rattle.bq_bpf.specs.declared.board.CounterCall.{CounterCall}
use Rattle.bq_interp.specs.Laws.{AnswerAlike}
use Rattle.bq_parts.specs.declared.event.Event.{Event}
use Rattle.bq_parts.specs.declared.reply.Reply.{Reply}
use Rattle.bq_parts.specs.declared.refusal.Refusal.{Refusal}
use Rattle.bq_parts.specs.declared.refusal.Refusal.TheVariants as no
use Rattle.bq_parts.specs.World.{World, opening_world}
use Rattle.bq_parts.specs.Choices.{PolicySemantics, by_programs, under_any_answers}
use Rattle.bq_parts.specs.Steps.{WorldStep, WorldRun}
use Rattle.bq_parts.specs.Orderly.{IsOrderly}

-- a world in which nothing has happened is in order
abbrev pub OpeningIsOrderly : Type 0
OpeningIsOrderly = (n : ℕ) → IsOrderly (opening_world n)

-- under these semantics each event, refused or not, keeps a world in order
abbrev pub StepKeeps : PolicySemantics → Type 0
StepKeeps s = (w : World) (e : Event) (calls : List CounterCall) (r : Result Reply Refusal) (w' : World) →
    WorldStep s w e calls r w' → IsOrderly w → IsOrderly w'

-- after each beginning of this list of events the world is in order
abbrev pub StaysOrderly : PolicySemantics → World → List Event → Type 0
StaysOrderly s w es = (n : ℕ) (calls : List (List CounterCall)) (answers : List (Result Reply Refusal)) (w' : World) → WorldRun s w (take n es) calls answers w' → IsOrderly w'

-- under these semantics all events of any list leave the world in order
abbrev pub RunKeeps : PolicySemantics → Type 0
RunKeeps s = (w : World) (es : List Event) → IsOrderly w → StaysOrderly s w es

-- under every discipline each step keeps order
abbrev pub StepKeepsOrder : Type 0
StepKeepsOrder = (d : Discipline) → StepKeeps (by_programs d)

-- each step keeps order, whatever the policies answer. This holds under all semantics (proofs/OrderLemmas.antt), but a
-- contract cannot say so: semantics are of a higher type
abbrev pub StepKeepsOrderAnyhow : Type 0
StepKeepsOrderAnyhow = (d : Discipline) → StepKeeps (under_any_answers d)

-- under every discipline events, one after another, keep order
abbrev pub RunKeepsOrder : Type 0
RunKeepsOrder = (d : Discipline) → RunKeeps (by_programs d)

-- every world of a history is in order
abbrev pub HistoryIsOrderly : Type 0
HistoryIsOrderly = (d : Discipline) (n : ℕ) (es : List Event) → StaysOrderly (by_programs d) (opening_world n) es

-- the answer is not lack of memory
abbrev pub HadMemory : Result Reply Refusal → Type 0
HadMemory answer = IfErr answer (λ refusal. refusal ≢ no.OutOfMemory)

-- If the counters answer alike and memory does not run out, two steps by one event from one world are equal: they have one
-- answer, leave one world, and ask the same of the counters. So what an event does is decided by the world, the event and
-- the counters' answers; and what is asked of a counter, by the answers before it
abbrev pub StepIsOne : Type 0
StepIsOne = (d : Discipline) (w : World) (e : Event) (calls calls' : List CounterCall) (a a' : Result Reply Refusal) (u u' : World) →
    WorldStep (by_programs d) w e calls a u → WorldStep (by_programs d) w e calls' a' u' → HadMemory a → HadMemory a' → AnswerAlike calls calls' →
    (a ≡ a') × (u ≡ u') × (calls ≡ calls')
