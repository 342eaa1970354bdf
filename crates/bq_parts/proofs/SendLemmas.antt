-- A task, one on its way, and a processor may cross threads; the processor where its queue may.
use denote.RattleType.{RattleType}
use denote.Struct.Field.{row_field}
use denote.Param.Send.{IsSend, sendable, view_send}
use denote.Param.SendFields.{declared_send, as_row_send}
use Rattle.std.proofs.Crossing.{crosses}
use Rattle.std.specs.contracts.option.Option as Option
use Rattle.bq_disc.proofs.node.Node.TheLaws.TheKnot as knot
use Rattle.bq_disc.specs.declared.run_queue.RunQueue as Queue
use Rattle.bq_disc.specs.declared.discipline.Discipline
use Rattle.bq_hooks.proofs.loads.Loads.TheSendSync as loads
use Rattle.bq_installed.proofs.hooks.Hooks.TheSendSync as hooks
use Rattle.bq_parts.specs.contracts.unlinked.Unlinked as Unlinked
use Rattle.bq_parts.specs.contracts.carried.Carried as Carried
use Rattle.bq_parts.specs.contracts.cpu.Cpu as Cpu
use Rattle.bq_parts.specs.contracts.cpu.Cpu.TheInside as inside

-- a task that stands in no queue, or none, may cross threads
pub unlinked_send : IsSend (Option.the_row Unlinked.the_row)
unlinked_send = search (crosses, knot.crosses, sendable) depth 60 fits 20000

-- a task on its way, or none, may cross threads
pub carried_send : IsSend (Option.the_row Carried.the_row)
carried_send = search (crosses, knot.crosses, loads.the_send, sendable) depth 60 fits 20000

-- the inside of a processor may cross threads, where its queue may
inside_send : (Q R : RattleType) (g : Queue.Ghosts Q.Denot R.Denot) (h : Discipline.Ghosts R.Denot)
    → IsSend Q → IsSend (inside.the_row Q R g h)
inside_send Q R g h s = declared_send (inside.the_type Q R g h)
    (as_row_send (row_field Q) s, (unlinked_send, (search sendable, (carried_send, (hooks.the_send, tt)))))

-- a processor may cross threads, where its queue may
pub cpu_send : (Q R : RattleType) (g : Queue.Ghosts Q.Denot R.Denot) (h : Discipline.Ghosts R.Denot)
    → IsSend Q → IsSend (Cpu.the_row Q R g h)
cpu_send Q R g h s = view_send (inside.the_row Q R g h) _ _ _ _ (inside_send Q R g h s)
