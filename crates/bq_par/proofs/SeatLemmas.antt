-- A seat may go to a thread, with the room for records that it has, and come back with its receipts.
use denote.RattleType.{RattleType}
use denote.Param.Send.{IsSend, sendable, view_send}
use denote.Param.SendFields.{declared_send}
use Rattle.std.proofs.Crossing.{crosses, Vec-send}
use Rattle.std.specs.contracts.option.Option as Option
use Rattle.arrayvec.proofs.array_vec.ArrayVec.TheSendSync as list
use Rattle.bq_bpf.proofs.board.CounterCall.TheSendSync as call
use Rattle.bq_history.specs.declared.law.Naming as Naming
use Rattle.bq_history.proofs.holder.Holder.TheSendSync as holder
use Rattle.bq_shared.specs.declared.account.Counting as Counting
use Rattle.bq_history.specs.contracts.chain.Slip as Slip
use Rattle.bq_history.specs.contracts.chain.Slip.TheInside as slip
use Rattle.bq_history.specs.contracts.chunk.Chunk as Chunk
use Rattle.bq_history.specs.contracts.room.Room as Room
use Rattle.bq_history.specs.contracts.room.Room.TheInside as room
use Rattle.bq_history.specs.contracts.shared_state.Receipt as Receipt
use Rattle.bq_history.proofs.shared_state.Receipt.TheSendSync as receipt
use Rattle.bq_history.proofs.SendLemmas.{chunk_send}
use Rattle.bq_history.proofs.chain.Node.TheLaws.TheKnot as knot
use Rattle.bq_shared.specs.contracts.calls.CallRooms as CallRooms
use Rattle.bq_shared.specs.contracts.seat.Seat as Seat
use Rattle.bq_shared.specs.contracts.seat.Seat.TheInside as seat
use Rattle.bq_shared.specs.contracts.working.Working as Working
use Rattle.bq_shared.proofs.working.Working.TheSendSync as working
use Rattle.bq_shared.specs.contracts.record.Record as Record
use Rattle.bq_shared.specs.contracts.record.RecordReportsCalls.TheImpl as reported
use Rattle.bq_shared.specs.contracts.journal_state.JournalState as JournalState
use Rattle.bq_shared.specs.contracts.world_part.WorldPart as WorldPart
use Rattle.bq_shared.proofs.SendLemmas.{record_send}
use Rattle.bq_par.specs.contracts.shift.ReturnedSeat as ReturnedSeat

-- a slip may cross threads where what it is for may, first what is inside it and then the slip itself:
slip_inside : (T : RattleType) → IsSend T → IsSend (slip.the_row T)
slip_inside T s = search (crosses, knot.crosses, sendable) depth 60 fits 20000

slip_send : (T : RattleType) → IsSend T → IsSend (Slip.the_row T)
slip_send T s = view_send (slip.the_row T) _ _ _ _ (slip_inside T s)

-- a spare slip for a chunk, or none, may cross threads, where a slip may
spare_send : (R : RattleType) → IsSend (Slip.the_row (Chunk.the_row R)) → IsSend (Option.the_row (Slip.the_row (Chunk.the_row R)))
spare_send R s = search (crosses, sendable) depth 20

-- room for a record may cross threads, where the record may
pub room_send : (R : RattleType) → IsSend R → IsSend (Room.the_row R)
room_send R s =
    view_send (room.the_row R) _ _ _ _
    (declared_send (room.the_type R) (spare_send R (slip_send (Chunk.the_row R) (chunk_send R s)), tt))

-- the rooms for calls, or none, may cross threads
calls_send : IsSend (Option.the_row CallRooms.the_row)
calls_send = search (crosses, list.the_send, call.the_send, sendable) depth 40

-- a seat may cross threads
pub seat_send : (N : RattleType) (n : Naming.Ghosts N.Denot) (m : Counting.Ghosts N.Denot)
    → IsSend (Seat.the_row Record.the_row WorldPart.the_row JournalState.the_row N reported.ghosts n m)
seat_send N n m =
    let spare = room_send Record.the_row record_send in
    view_send (seat.the_row Record.the_row WorldPart.the_row JournalState.the_row N reported.ghosts n m) _ _ _ _
    (declared_send (seat.the_type Record.the_row WorldPart.the_row JournalState.the_row N reported.ghosts n m)
    (search (working.the_send, crosses, sendable) depth 20, (spare, (spare, (calls_send, tt)))))

-- a receipt may cross threads
pub receipt_send : IsSend (Receipt.the_row Record.the_row)
receipt_send = search (receipt.the_send, record_send) depth 10

-- a seat that has come back may cross threads, with its receipts
pub done_send : (N : RattleType) (n : Naming.Ghosts N.Denot) (m : Counting.Ghosts N.Denot) → IsSend (ReturnedSeat.the_row N n m)
done_send N n m =
    declared_send (ReturnedSeat.the_type N n m) (seat_send N n m, (Vec-send (Receipt.the_row Record.the_row) receipt_send, tt))
