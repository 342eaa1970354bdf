-- Cells and records may cross threads, where the queue may.
use denote.RattleType.{RattleType}
use denote.Param.Send.{IsSend, sendable}
use denote.Param.SendFields.{declared_send}
use Rattle.std.proofs.Crossing.{crosses}
use Rattle.arrayvec.proofs.array_vec.ArrayVec.TheSendSync as list
use Rattle.bq_disc.proofs.node.Node.TheLaws.TheKnot as knot
use Rattle.bq_disc.specs.declared.run_queue.RunQueue as Queue
use Rattle.bq_disc.specs.declared.discipline.Discipline
use Rattle.bq_bpf.proofs.board.CounterCall.TheSendSync as call
use Rattle.bq_hooks.proofs.loads.Loads.TheSendSync as loads
use Rattle.bq_installed.proofs.scratch.Scratch.TheSendSync as scratch
use Rattle.bq_parts.proofs.SendLemmas.{cpu_send}
use Rattle.bq_shared.proofs.packed_answer.PackedAnswer.TheSendSync as answer
use Rattle.bq_parts.proofs.event.Event.TheSendSync as event
use Rattle.bq_shared.specs.contracts.cells.NumberedCpu as Numbered
use Rattle.bq_shared.specs.contracts.cells.NumberedInbox as NumberedInbox
use Rattle.bq_shared.specs.contracts.cells.OneLobby as OneLobby
use Rattle.bq_shared.specs.contracts.record.Record as Record
use Rattle.bq_shared.specs.contracts.calls.Calls as Calls
use Rattle.bq_shared.specs.contracts.journal_state.JournalState as JournalState

-- a processor with its number may cross threads, where its queue may
pub numbered_send : (Q R : RattleType) (g : Queue.Ghosts Q.Denot R.Denot) (h : Discipline.Ghosts R.Denot)
    → IsSend Q → IsSend (Numbered.the_row Q R g h)
numbered_send Q R g h s = declared_send (Numbered.the_type Q R g h) (search sendable, (cpu_send Q R g h s, (scratch.the_send, tt)))

-- an inbox with its number may cross threads
pub inbox_send : IsSend NumberedInbox.the_row
inbox_send = search (crosses, knot.crosses, sendable) depth 60 fits 20000

-- the lobby may cross threads
pub lobby_send : IsSend OneLobby.the_row
lobby_send = search (crosses, knot.crosses, sendable) depth 60 fits 20000

-- the calls of counters may cross threads
calls_send : IsSend Calls.the_row
calls_send = search (crosses, list.the_send, call.the_send, sendable) depth 40

-- a record may cross threads
pub record_send : IsSend Record.the_row
record_send = declared_send Record.the_type (event.the_send, (answer.the_send, (calls_send, tt)))

-- what the journal keeps may cross threads
pub kept_send : IsSend JournalState.the_row
kept_send = search (loads.the_send, sendable) depth 20
