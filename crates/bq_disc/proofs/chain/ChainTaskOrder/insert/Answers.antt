use Rattle.std.proofs.Common.{◌≡◌, ◌<◌, ◌^◌, List, ap, ◌∙◌, arith}
use Rattle.bq_disc.specs.Tasks.{Task, find_task}
use Rattle.bq_disc.specs.Chains.{task_of}
use Rattle.bq_disc.proofs.QueueLemmas.{HasDistinctIds-inserted, HasSmallIds-inserted, length-inserted}
use Rattle.bq_disc.proofs.RisingLemmas.{IsRising-inserted}
use Rattle.bq_disc.proofs.chain.ChainTaskOrder.insert.Goals as goal

pub invariant_of-self : goal.invariant_of-self
invariant_of-self c =
    let t = task_of c.args.node.value in
    let e = c.insert_behind.ensures.chain in
    let fresh = ap (λ (xs : List Task). find_task t.id xs) c.self.view_is ∙ c.requires.fresh in
    let is : c.id-small.result ≡ t.id = cc in
    let small : t.id < 2 ^ 16 = omega arith in (
      c.insert_behind.ensures.straight,
      rw (e, length-inserted) (omega (arith, c.self.invariant.1)),
      rw e (HasDistinctIds-inserted t _ fresh c.self.invariant.2),
      rw e (HasSmallIds-inserted t _ small c.self.invariant.3),
      rw e (IsRising-inserted t _ c.self.invariant.4),
    )
