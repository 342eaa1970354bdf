use Rattle.std.proofs.Common.{◌≡◌, None, IsSome, refl, sym, arith}
use Rattle.bq_disc.specs.Tasks.{find_task}
use Rattle.bq_disc.specs.Chains.{chain_behind}
use Rattle.bq_disc.proofs.QueueLemmas.{HasDistinctIds-without, HasSmallIds-without, length-without, without-absent}
use Rattle.bq_disc.proofs.RisingLemmas.{IsRising-without}
use Rattle.bq_disc.proofs.chain.ChainTaskOrder.take.Goals as goal

pub invariant_of-self : goal.invariant_of-self
invariant_of-self c =
    let e = c.take_behind.ensures.rest in
    let absent : find_task c.args.id (chain_behind c.self.inside.head) ≡ None = sym c.in_err-node.ensures.taken in (
      c.take_behind.ensures.straight,
      rw (e, without-absent _ _ absent) c.self.invariant.1,
      rw e (HasDistinctIds-without _ _ c.self.invariant.2),
      rw e (HasSmallIds-without _ _ c.self.invariant.3),
      rw e (IsRising-without _ _ c.self.invariant.4),
    )

pub invariant_of-self-2 : goal.invariant_of-self-2
invariant_of-self-2 c =
    let e = c.take_behind.ensures.rest in
    let there : IsSome (find_task c.args.id (chain_behind c.self.inside.head)) = rw (← c.in_ok-node.ensures.taken) refl in (
      c.take_behind.ensures.straight,
      rw e (omega (arith, c.self.invariant.1, length-without c.args.id (chain_behind c.self.inside.head) there)),
      rw e (HasDistinctIds-without _ _ c.self.invariant.2),
      rw e (HasSmallIds-without _ _ c.self.invariant.3),
      rw e (IsRising-without _ _ c.self.invariant.4),
    )
