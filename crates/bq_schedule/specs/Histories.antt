-- What has happened: events and their answers.
use Rattle.std.specs.Prelude.{List, Result}
use Rattle.bq_parts.specs.declared.event.Event.{Event}
use Rattle.bq_parts.specs.declared.reply.Reply.{Reply}
use Rattle.bq_parts.specs.declared.refusal.Refusal.{Refusal}

-- an event that was answered, and its answer
pub record AnsweredEvent : Type 0 where
  pub event : Event
  pub answer : Result Reply Refusal

-- a history, with its last event first
abbrev pub History : Type 0
History = List AnsweredEvent
