-- Threads may share the machine, as its queues may cross threads and its clock may be shared.
use denote.Param.{param, number}
use denote.Param.Send.{sendable}
use Rattle.std.proofs.Crossing.{crosses}
use Rattle.bq_par.specs.contracts.metronome.Metronome as Metronome
use Rattle.bq_par.specs.contracts.metronome.MetronomeClock.TheImpl as metronome
use Rattle.bq_par.proofs.SeatLemmas.{seat_send, done_send}
use Rattle.bq_par.proofs.SharingLemmas.{machine_sync, metronome_sync}
use Rattle.bq_par.proofs.runs.drive_all.Goals as goal

pub map_vec-requires-sync-F : goal.map_vec-requires-sync-F
map_vec-requires-sync-F g c κs within =
    let t = c.type_bounds.sync-T in
    let m =
    machine_sync (param 0 g.row.Q) Metronome.the_row (param 1 g.row.N) (param 3 (number g.row.P)) (param 4 g.row.Q-R)
    metronome.ghosts g.N.Naming g.N.Counting g.Q.RunQueue g.Q.R.Discipline c.type_bounds.send-Q metronome_sync in
    search (crosses, sendable) depth 20

pub map_vec-requires-send-X : goal.map_vec-requires-send-X
map_vec-requires-send-X g c κs within = search (done_send, crosses, sendable) depth 40

pub map_vec-requires-send-J : goal.map_vec-requires-send-J
map_vec-requires-send-J g c κs within = search (seat_send, sendable) depth 20
