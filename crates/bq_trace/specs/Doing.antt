-- What a machine does at an event, and the line that answers it.
use Rattle.std.specs.Prelude.{◌≡◌, ◌≢◌, ℕ, List, Result, Err}
use Rattle.bq_parts.specs.declared.event.Event.{Event}
use Rattle.bq_parts.specs.declared.reply.Reply.{Reply}
use Rattle.bq_parts.specs.declared.refusal.Refusal.{Refusal}
use Rattle.bq_parts.specs.declared.refusal.Refusal.TheVariants.{OutOfMemory}
use Rattle.bq_trace.specs.Machines.{TraceMachine, AdvancesMachine}
use Rattle.bq_trace.specs.Texts.{event_line}

-- An event is done in the machine, and the text is the line that answers it. Lack of memory is no answer.
pub record DoesAndAnswers (m : TraceMachine) (event : Event) (answer : Result Reply Refusal) (text : List ℕ) (n : TraceMachine) : Type 0 where
  pub answered : answer ≢ Err OutOfMemory
  pub moves : AdvancesMachine m event answer n
  pub line : text ≡ event_line answer
