-- The room for the end may cross threads where what it is for may.
use denote.RattleType.{RattleType}
use denote.Param.Send.{IsSend}
use denote.Param.SendFields.{declared_send}
use Rattle.std.proofs.Crossing.{Vec-send}
use Rattle.bq_disc.specs.declared.run_queue.RunQueue as Queue
use Rattle.bq_disc.specs.declared.discipline.Discipline
use Rattle.bq_parts.specs.contracts.cpu.Cpu as Cpu
use Rattle.bq_parts.specs.contracts.inbox.Inbox as Inbox
use Rattle.bq_shared.specs.contracts.cells.NumberedCpu as NumberedCpu
use Rattle.bq_shared.specs.contracts.cells.NumberedInbox as NumberedInbox
use Rattle.bq_recording.specs.contracts.closing_room.ClosingRoom as ClosingRoom

-- each of its vectors crosses as its items do
pub room_send : (Q P R : RattleType) (g : Queue.Ghosts Q.Denot R.Denot) (h : Discipline.Ghosts R.Denot)
    → IsSend (NumberedCpu.the_row Q R g h) → IsSend NumberedInbox.the_row → IsSend (Cpu.the_row Q R g h)
    → IsSend Inbox.the_row
    → IsSend (ClosingRoom.the_row Q P R g h)
room_send Q P R g h numbered boxed cpu inbox = declared_send (ClosingRoom.the_type Q P R g h) (
  Vec-send (NumberedCpu.the_row Q R g h) numbered,
  (Vec-send NumberedInbox.the_row boxed, (Vec-send (Cpu.the_row Q R g h) cpu, (Vec-send Inbox.the_row inbox, tt))),
)
