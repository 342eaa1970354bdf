-- Threads may share a machine, where its queues may cross threads and its clock may be shared.
use denote.RattleType.{RattleType}
use denote.Struct.Field.{row_field}
use denote.Param.Send.{IsSend, IsSync, sendable}
use denote.Param.SendFields.{declared_sync, as_row_sync}
use Rattle.std.proofs.Crossing.{crosses, Vec-sync}
use Rattle.std.specs.contracts.sync.Mutex as Mutex
use Rattle.bq_disc.specs.declared.run_queue.RunQueue as Queue
use Rattle.bq_disc.specs.declared.discipline.Discipline
use Rattle.bq_history.specs.declared.law.Naming as Naming
use Rattle.bq_history.proofs.owner.Owner.TheSendSync as owner
use Rattle.bq_shared.specs.declared.account.Counting as Counting
use Rattle.bq_shared.proofs.counters.Counters.TheSendSync as counters
use Rattle.bq_history.specs.contracts.cell.Locked as Locked
use Rattle.bq_history.proofs.cell.Locked.TheSendSync as locked
use Rattle.bq_history.specs.contracts.journal.Journal as Journal
use Rattle.bq_history.proofs.SendLemmas.{journal_send}
use Rattle.bq_shared.specs.contracts.cells.NumberedCpu as Numbered
use Rattle.bq_shared.specs.contracts.cells.NumberedInbox as NumberedInbox
use Rattle.bq_shared.specs.contracts.cells.OneLobby as OneLobby
use Rattle.bq_shared.specs.contracts.cells.NumberedCpuAsPartWorldPart.TheImpl as cpu_part
use Rattle.bq_shared.specs.contracts.cells.NumberedInboxAsPartWorldPart.TheImpl as inbox_part
use Rattle.bq_shared.specs.contracts.cells.OneLobbyAsPartWorldPart.TheImpl as lobby_part
use Rattle.bq_shared.specs.contracts.record.Record as Record
use Rattle.bq_shared.specs.contracts.journal_state.JournalState as JournalState
use Rattle.bq_shared.specs.contracts.world_part.WorldPart as WorldPart
use Rattle.bq_disc.proofs.node.Node.TheLaws.TheKnot as knot
use Rattle.bq_parts.specs.contracts.inbox.Inbox as Inbox
use Rattle.bq_recording.specs.contracts.closing_room.ClosingRoom as ClosingRoom
use Rattle.bq_recording.proofs.SendLemmas.{room_send}
use Rattle.bq_parts.proofs.SendLemmas.{cpu_send}
use Rattle.bq_shared.proofs.SendLemmas.{numbered_send, inbox_send, lobby_send, record_send, kept_send}
use Rattle.bq_recording.specs.contracts.recorder.Recorder as Recorder
use Rattle.bq_machine.specs.contracts.machine.Machine as Machine
use Rattle.bq_machine.specs.declared.clock.Clock as Clock
use Rattle.bq_par.specs.contracts.metronome.Metronome as Metronome

-- the clock of parallel runs may be shared
pub metronome_sync : IsSync Metronome.the_row
metronome_sync = search (crosses, sendable) depth 20

-- a lock may be shared where what it guards may cross threads
mutex_sync : (T : RattleType) → IsSend T → IsSync (Mutex.the_row T)
mutex_sync T s = search crosses

-- an inbox may cross threads
tasks_send : IsSend Inbox.the_row
tasks_send = search (crosses, knot.crosses, sendable) depth 60 fits 20000

-- what all callers share beside the locks of the parts may be shared
recorder_sync : (Q N R : RattleType) (n : Naming.Ghosts N.Denot) (m : Counting.Ghosts N.Denot)
    (g : Queue.Ghosts Q.Denot R.Denot) (h : Discipline.Ghosts R.Denot)
    → IsSync (Recorder.the_row Q N R n m g h)
recorder_sync Q N R n m g h =
    let journals = Journal.the_row Record.the_row WorldPart.the_row JournalState.the_row N n in
    declared_sync (Recorder.the_type Q N R n m g h) (
      search (owner.the_sync, sendable),
      (
        search (counters.the_sync, sendable),
        (mutex_sync journals (journal_send Record.the_row WorldPart.the_row JournalState.the_row N n record_send kept_send), tt),
      ),
    )

-- a machine may be shared
pub machine_sync : (Q K N P R : RattleType) (k : Clock.Ghosts K.Denot) (n : Naming.Ghosts N.Denot)
    (m : Counting.Ghosts N.Denot) (g : Queue.Ghosts Q.Denot R.Denot) (h : Discipline.Ghosts R.Denot)
    → IsSend Q → IsSync K → IsSync (Machine.the_row Q K N P R g h k n m)
machine_sync Q K N P R k n m g h s y =
    let cpu = Numbered.the_row Q R g h in
    let a = cpu_part.ghosts Q R g cpu_part.no_dict h cpu_part.no_dict in
    let place = Locked.the_row cpu Record.the_row WorldPart.the_row JournalState.the_row N a n in
    let inbox = Locked.the_row NumberedInbox.the_row Record.the_row WorldPart.the_row JournalState.the_row N inbox_part.ghosts n in
    let lobby = Locked.the_row OneLobby.the_row Record.the_row WorldPart.the_row JournalState.the_row N lobby_part.ghosts n in
    let room = ClosingRoom.the_row Q P R g h in
    declared_sync (Machine.the_type Q K N P R g h k n m) (
      as_row_sync (row_field K) y,
      (
        recorder_sync Q N R n m g h,
        (
          Vec-sync (Mutex.the_row place) (mutex_sync place
              (locked.the_send cpu Record.the_row WorldPart.the_row JournalState.the_row N a n (numbered_send Q R g h s))),
          (
            Vec-sync (Mutex.the_row inbox) (mutex_sync inbox
                (locked.the_send NumberedInbox.the_row Record.the_row WorldPart.the_row JournalState.the_row N
                inbox_part.ghosts n inbox_send)),
            (
              mutex_sync lobby (locked.the_send OneLobby.the_row Record.the_row WorldPart.the_row JournalState.the_row N
                  lobby_part.ghosts n lobby_send),
              (
                mutex_sync room (room_send Q P R g h (numbered_send Q R g h s) inbox_send (cpu_send Q R g h s) tasks_send),
                (search sendable, tt),
              ),
            ),
          ),
        ),
      ),
    )
