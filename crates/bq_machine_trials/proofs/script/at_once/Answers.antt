-- Threads may share the machine and the gate: its queues, which have the gate, may cross threads, and its clock, which has it too, may be shared.
use denote.RattleType.{RattleType}
use denote.Param.{param, number}
use denote.Param.Send.{IsSend, IsSync, sendable}
use denote.Param.SendFields.{declared_send}
use Rattle.std.proofs.Crossing.{crosses, Vec-send}
use Rattle.bq_cfs.specs.contracts.discipline.Cfs as Cfs
use Rattle.bq_cfs.specs.contracts.discipline.CfsDiscipline.TheImpl as cfs
use Rattle.bq_par.proofs.SendLemmas.{cfs_queue_send}
use Rattle.bq_par.proofs.SeatLemmas.{seat_send, receipt_send}
use Rattle.bq_par.proofs.SharingLemmas.{machine_sync}
use Rattle.bq_history.specs.declared.law.Naming as Naming
use Rattle.bq_shared.specs.declared.account.Counting as Counting
use Rattle.bq_history.specs.contracts.shared_state.Receipt as Receipt
use Rattle.bq_shared.specs.contracts.record.Record as Record
use Rattle.bq_machine_trials.specs.contracts.script.Job as Job
use Rattle.bq_machine_trials.specs.contracts.script.Played as Played
use Rattle.bq_machine_trials.proofs.gate.Gate.TheSendSync as gate
use Rattle.bq_machine_trials.specs.contracts.held_queue.HeldQueue as Held
use Rattle.bq_machine_trials.specs.contracts.held_queue.HeldQueueRunQueue.TheImpl as held
use Rattle.bq_machine_trials.specs.contracts.counting_clock.CountingClock as Counted
use Rattle.bq_machine_trials.specs.contracts.counting_clock.CountingClockClock.TheImpl as clock
use Rattle.bq_machine_trials.proofs.script.at_once.Goals as goal

held_send : IsSend Held.the_row
held_send = declared_send Held.the_type (cfs_queue_send, (search (gate.the_send, gate.the_sync, crosses, sendable) depth 40, tt))

clock_sync : IsSync Counted.the_row
clock_sync = search (gate.the_send, gate.the_sync, crosses, sendable) depth 40

pub map_vec-requires-sync-F : goal.map_vec-requires-sync-F
map_vec-requires-sync-F g c κs within =
    let t = c.type_bounds.sync-R in
    let m =
    machine_sync Held.the_row Counted.the_row (param 0 g.row.N) (number 4) Cfs.the_row clock.ghosts g.N.Naming g.N.Counting
    held.ghosts cfs.ghosts held_send clock_sync in
    search (gate.the_sync, crosses, sendable) depth 20

-- a seat with what it is to do
job_send : (N : RattleType) (n : Naming.Ghosts N.Denot) (m : Counting.Ghosts N.Denot) → IsSend (Job.the_row N n m)
job_send N n m = declared_send (Job.the_type N n m)
    (seat_send N n m, (search (crosses, sendable) depth 80 fits 20000, tt))

-- a seat that has come back, with its receipts
played_send : (N : RattleType) (n : Naming.Ghosts N.Denot) (m : Counting.Ghosts N.Denot) → IsSend (Played.the_row N n m)
played_send N n m = declared_send (Played.the_type N n m)
    (seat_send N n m, (Vec-send (Receipt.the_row Record.the_row) receipt_send, (search (crosses, sendable) depth 10, tt)))

pub map_vec-requires-send-X : goal.map_vec-requires-send-X
map_vec-requires-send-X g c κs within = search (played_send, crosses, sendable) depth 40

pub map_vec-requires-send-J : goal.map_vec-requires-send-J
map_vec-requires-send-J g c κs within = search (job_send, sendable) depth 20
