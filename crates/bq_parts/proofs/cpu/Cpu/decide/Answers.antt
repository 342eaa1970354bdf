use Rattle.std.proofs.Common.{arith}
use Rattle.bq_parts.proofs.CountLemmas.{each_once_queue, HasDistinctIds-from_counts, queue_le_present}
use Rattle.bq_parts.proofs.OnceLemmas.{few_below}
use Rattle.bq_parts.proofs.cpu.Cpu.decide.Goals as goal

pub choose_preempt-preempted-requires-clause-distinct : goal.choose_preempt-preempted-requires-clause-distinct
choose_preempt-preempted-requires-clause-distinct g c =
    let p = c.args.self.now.running in
    HasDistinctIds-from_counts p.queue (each_once_queue p c.requires.once)

pub choose_preempt-preempted-requires-clause-few : goal.choose_preempt-preempted-requires-clause-few
choose_preempt-preempted-requires-clause-few g c =
    let p = c.args.self.now.running in
    omega (
      arith,
      few_below p.queue 1024 (each_once_queue p c.requires.once)
          (λ id l. omega (arith, c.requires.ids id l, queue_le_present id p.current p.queue)),
    )
