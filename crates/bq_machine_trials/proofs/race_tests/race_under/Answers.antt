-- Threads may share the machine, as its queues may cross threads and its clock may be shared.
use denote.RattleType.{RattleType}
use denote.Param.{param, number}
use denote.Param.Send.{IsSend, sendable}
use denote.Param.SendFields.{declared_send}
use Rattle.std.proofs.Crossing.{crosses}
use Rattle.bq_par.specs.contracts.metronome.Metronome as Metronome
use Rattle.bq_par.specs.contracts.metronome.MetronomeClock.TheImpl as metronome
use Rattle.bq_par.proofs.SeatLemmas.{seat_send}
use Rattle.bq_par.proofs.SharingLemmas.{machine_sync, metronome_sync}
use Rattle.bq_history.specs.declared.law.Naming as Naming
use Rattle.bq_shared.specs.declared.account.Counting as Counting
use Rattle.bq_machine_trials.specs.contracts.drawn.Racer as Racer
use Rattle.bq_machine_trials.proofs.race_tests.race_under.Goals as goal

pub map_vec-requires-sync-F : goal.map_vec-requires-sync-F
map_vec-requires-sync-F g c κs within =
    let t = c.type_bounds.sync-T in
    let m =
    machine_sync (param 0 g.row.Q) Metronome.the_row (param 1 g.row.N) (number 64) (param 3 g.row.Q-R) metronome.ghosts
    g.N.Naming g.N.Counting g.Q.RunQueue g.Q.R.Discipline c.type_bounds.send-Q metronome_sync in
    search (crosses, sendable) depth 20

-- a seat with its seed
racer_send : (N : RattleType) (n : Naming.Ghosts N.Denot) (m : Counting.Ghosts N.Denot) → IsSend (Racer.the_row N n m)
racer_send N n m = declared_send (Racer.the_type N n m) (seat_send N n m, (search (crosses, sendable) depth 10, tt))

pub map_vec-requires-send-X : goal.map_vec-requires-send-X
map_vec-requires-send-X g c κs within = search (seat_send, crosses, sendable) depth 40

pub map_vec-requires-send-J : goal.map_vec-requires-send-J
map_vec-requires-send-J g c κs within = search (racer_send, sendable) depth 20
