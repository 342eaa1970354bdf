use Rattle.std.proofs.Common.{arith}
use Rattle.bq_parts.proofs.CountLemmas.{HasEachOnce-charge, keeps_charge}
use Rattle.bq_parts.proofs.cpu.Cpu.tick.Goals as goal

pub decide-preempted-requires-clause-once : goal.decide-preempted-requires-clause-once
decide-preempted-requires-clause-once g c =
    rw c.charge.ensures (HasEachOnce-charge g.Q.R.Discipline.discipline c.args.self.now.running c.args.now c.requires.once)

pub decide-preempted-requires-clause-ids : goal.decide-preempted-requires-clause-ids
decide-preempted-requires-clause-ids g c =
    rw c.charge.ensures
    (λ id h. omega (arith, c.requires.ids id h, keeps_charge id g.Q.R.Discipline.discipline c.args.self.now.running c.args.now))
