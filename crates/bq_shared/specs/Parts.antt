-- The parts of the world, and what the journal keeps of it.
use Rattle.std.specs.Prelude.{◌≡◌, ◌≢◌, ◌<◌, ℕ, zero, suc, ◌+◌, Bool, true, false, eqb, List, [], ◌∷◌, ◌++◌, length, replicate, None, Some, Result, Ok, Err, IfErr, slice_set, slice_index, ◌-◌, ◌^◌, min}
use Rattle.bq_disc.specs.declared.limits.TheConstants.{TASKS}
use Rattle.bq_bpf.specs.declared.board.CounterCall.{CounterCall}
use Rattle.bq_disc.specs.Tasks.{Task}
use Rattle.bq_disc.specs.Discipline.{Discipline}
use Rattle.bq_parts.specs.declared.reply.Reply.{Reply}
use Rattle.bq_parts.specs.declared.reply.Reply.TheVariants.{Pulled}
use Rattle.bq_parts.specs.declared.refusal.Refusal.{Refusal}
use Rattle.bq_parts.specs.declared.refusal.Refusal.TheVariants as no
use Rattle.bq_parts.specs.declared.lobby_entry.LobbyEntry.{LobbyEntry}
use Rattle.bq_parts.specs.declared.lobby_entry.LobbyEntry.TheVariants.{Absent}
use Rattle.bq_parts.specs.Processors.{Processor, new_processor}
use Rattle.bq_parts.specs.World.{World, processor_at, inbox, count_in, loads_of}
use Rattle.bq_parts.specs.Refusals.{argument_refusal}
use Rattle.bq_parts.specs.Choices.{by_programs}
use Rattle.bq_parts.specs.Steps.{WorldStep}
use Rattle.bq_shared.specs.declared.journal_state.JournalState.{JournalState}
use Rattle.bq_shared.specs.declared.world_part.WorldPart.{WorldPart}
use Rattle.bq_shared.specs.declared.world_part.WorldPart.TheVariants as part
use Rattle.bq_shared.specs.declared.record.Record.{Record}

-- A record is of a step of the world. The arguments of its event are not refused, and memory has not run out
abbrev pub RecordStep : Discipline → World → Record → World → Type 0
RecordStep d w x u =
    WorldStep (by_programs d) w x.event x.calls x.reply u
    × (argument_refusal (count_in w) x.event ≡ None)
    × IfErr x.reply (λ e. e ≢ no.OutOfMemory)

-- the calls of counters in a record
abbrev pub reported_calls : Record → List CounterCall
reported_calls x = x.calls

-- the part that is a processor with its number
abbrev pub cpu_part : ℕ → Processor → WorldPart
cpu_part c p = part.Cpu c p

-- the part that is an inbox with its number
abbrev pub inbox_part : ℕ → List Task → WorldPart
inbox_part c tasks = part.Inbox c tasks

-- the part that is the lobby
abbrev pub lobby_part : List LobbyEntry → WorldPart
lobby_part lobby = part.Lobby lobby

-- whether two parts are at one place of the world
abbrev pub same_part : WorldPart → WorldPart → Bool
same_part (part.Cpu c p) (part.Cpu d q) = eqb c d
same_part (part.Cpu c p) (part.Inbox d j) = false
same_part (part.Cpu c p) (part.Lobby m) = false
same_part (part.Inbox c i) (part.Cpu d q) = false
same_part (part.Inbox c i) (part.Inbox d j) = eqb c d
same_part (part.Inbox c i) (part.Lobby m) = false
same_part (part.Lobby l) (part.Cpu d q) = false
same_part (part.Lobby l) (part.Inbox d j) = false
same_part (part.Lobby l) (part.Lobby m) = true

-- the world has this part
abbrev pub HasPart : World → WorldPart → Type 0
HasPart w (part.Cpu c p) = (c < count_in w) × (processor_at w c ≡ p)
HasPart w (part.Inbox c tasks) = (c < length w.inboxes) × (inbox w c ≡ tasks)
HasPart w (part.Lobby lobby) = w.lobby ≡ lobby

-- what the journal keeps of a world
abbrev pub journal_state_of : World → JournalState
journal_state_of w = record { drawn = w.drawn; loads = loads_of w.processors w.inboxes }

-- what is kept after a task has left a processor
abbrev pub one_less : ℕ → JournalState → JournalState
one_less c k = record k { loads = slice_set k.loads c (slice_index k.loads c - 1) }

-- what is kept after a task has come to a processor
abbrev pub with_one_more : ℕ → JournalState → JournalState
with_one_more c k = record k { loads = slice_set k.loads c (min (slice_index k.loads c + 1) (2 ^ 16 - 1)) }

-- what is kept after the answer to a block
abbrev pub kept_by_block : ℕ → Result Reply Refusal → JournalState → JournalState
kept_by_block c (Ok r) k = one_less c k
kept_by_block c (Err e) k = k

-- what is kept after the reply to a pull
abbrev pub kept_by_pull : ℕ → ℕ → Reply → JournalState → JournalState
kept_by_pull c from (Pulled (Some id) run by steps) k = with_one_more c (one_less from k)
kept_by_pull c from r k = k

-- the parts of n processors at the start, numbered from c on
abbrev pub cpus_from : ℕ → ℕ → List WorldPart
cpus_from c zero = []
cpus_from c (suc n) = part.Cpu c new_processor ∷ cpus_from (c + 1) n

-- the parts of n inboxes at the start, numbered from c on
abbrev pub inboxes_from : ℕ → ℕ → List WorldPart
inboxes_from c zero = []
inboxes_from c (suc n) = part.Inbox c [] ∷ inboxes_from (c + 1) n

-- the parts of a world of n processors at the start
abbrev pub first_parts : ℕ → List WorldPart
first_parts n = part.Lobby (replicate TASKS Absent) ∷ (cpus_from 0 n ++ inboxes_from 0 n)
