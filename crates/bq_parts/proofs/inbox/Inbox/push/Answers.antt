use mathlib.Core.List.{reverse-cons}
use Rattle.std.proofs.Common.{◌≡◌, Option, Some, None, ◌∷◌, refl, arith}
use Rattle.std.specs.declared.boxed.Box.{Box}
use Rattle.std.specs.declared.alloc.Global.{Global}
use Rattle.bq_disc.specs.declared.node.Node.{Node, out-Node, roll-Node, Node', None', Some'}
use Rattle.bq_disc.specs.Chains.{task_of, chain, chain_behind, IsLone, IsStraight, IsStraightBehind}
use Rattle.bq_parts.proofs.inbox.Inbox.push.Goals as goal

straight : (n : Node) (last : Option (Box Node Global)) → IsLone n → IsStraightBehind last
    → IsStraight (roll-Node (record (out-Node n) { left = last }))
unfolding roll-Node denote.Hole.Carrier.roll out-Node denote.Hole.Carrier.out
straight (Node' entity left None' due totals height) None lone s = (refl, tt)
straight (Node' entity left None' due totals height) (Some b) lone s = (refl, s)
straight (Node' entity left (Some' p m) due totals height) last lone s = let e = lone.1 in cc

linked : (n : Node) (last : Option (Box Node Global))
    → chain (roll-Node (record (out-Node n) { left = last })) ≡ task_of n ∷ chain_behind last
unfolding roll-Node denote.Hole.Carrier.roll
linked (Node' entity left right due totals height) None = refl
linked (Node' entity left right due totals height) (Some b) = refl

pub invariant_of-self : goal.invariant_of-self
invariant_of-self c =
    let n = c.deref_mut.result.now in
    let lone : IsLone n = rw c.deref_mut.ensures.value c.into_node-node.ensures.lone in (
      straight n c.take.result lone (rw c.take.ensures.value c.self.invariant.0),
      rw (linked n c.take.result, c.take.ensures.value) (omega (arith, c.self.invariant.1)),
    )

pub returns : goal.returns
returns c =
    rw (
      linked c.deref_mut.result.now c.take.result,
      c.take.ensures.value,
      c.deref_mut.ensures.value,
      c.into_node-node.ensures.task,
      ← c.self.view_is,
    ) (reverse-cons c.args.task (chain_behind c.self.inside.last))
