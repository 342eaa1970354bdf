use Rattle.std.proofs.Common.{arith}
use Rattle.bq_disc.specs.OneProcessor.{present_at, charge}
use Rattle.bq_parts.proofs.CountLemmas.{keeps_charge, count_of-append, count_of-enter_all, queue_le_present}
use Rattle.bq_parts.proofs.cpu.Cpu.drain.Goals as goal

pub enter_all-requires-clause-apart : goal.enter_all-requires-clause-apart
enter_all-requires-clause-apart g c = λ id.
    let d = g.Q.R.Discipline.discipline in
    let p = c.args.self.now.running in
    let xs = c.args.inbox.now in
    rw (c.charge.ensures, c.take_all-tasks.ensures.tasks)
    (omega (
      arith,
      c.requires.once id,
      count_of-append id (present_at p) xs,
      keeps_charge id d p c.args.now,
      queue_le_present id (charge d p c.args.now).current p.queue,
    ))

pub decide-preempted-requires-clause-once : goal.decide-preempted-requires-clause-once
decide-preempted-requires-clause-once g c =
    let d = g.Q.R.Discipline.discipline in
    let p = c.args.self.now.running in
    let xs = c.args.inbox.now in
    rw (c.enter_all.ensures, c.charge.ensures, c.take_all-tasks.ensures.tasks) (λ id. omega (
      arith,
      c.requires.once id,
      count_of-append id (present_at p) xs,
      keeps_charge id d p c.args.now,
      count_of-enter_all id d (charge d p c.args.now) xs,
    ))

pub decide-preempted-requires-clause-ids : goal.decide-preempted-requires-clause-ids
decide-preempted-requires-clause-ids g c =
    let d = g.Q.R.Discipline.discipline in
    let p = c.args.self.now.running in
    let xs = c.args.inbox.now in
    rw (c.enter_all.ensures, c.charge.ensures, c.take_all-tasks.ensures.tasks) (λ id h. omega (
      arith,
      c.requires.ids id h,
      count_of-append id (present_at p) xs,
      keeps_charge id d p c.args.now,
      count_of-enter_all id d (charge d p c.args.now) xs,
    ))
