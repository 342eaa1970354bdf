use Rattle.std.proofs.Common.{rules, ◌≡◌, ◌<◌, ◌^◌, None, ℕ, List, slice_index, ap, subst, ◌∙◌, arith}
use Rattle.bq_disc.specs.Tasks.{Task, find_task}
use Rattle.bq_disc.specs.Queues.{key_of}
use Rattle.bq_disc.specs.Chains.{task_of}
use Rattle.bq_tree.specs.Trees.{in_order_behind}
use Rattle.bq_disc.specs.declared.node.Node.{Node, out-Node}
use Rattle.bq_disc.proofs.QueueLemmas.{length-few}
use Rattle.bq_tree.specs.Sound.{Knows, lesser_of}
use Rattle.bq_tree.proofs.HeightLemmas.{low_of_many}
use Rattle.bq_tree.proofs.IndexLemmas.{room_for_one_more, sound_inserted}
use Rattle.bq_tree.proofs.tree.TreeTaskOrder.insert.Goals as goal

pub insert_into-requires : goal.insert_into-requires
insert_into-requires g c =
    let s = c.self.invariant in
    let t = task_of c.args.node.value in
    let xs = in_order_behind c.self.inside.root in
    let key : c.key-key.result ≡ key_of t = c.key-key.ensures.value ∙ ap (λ (m : Node). key_of (out-Node m).entity) c.deref.ensures in
    let small : t.id < 2 ^ 16 = subst (λ (k : ℕ × ℕ). k.1 < 2 ^ 16) key c.key-key.ensures.small in
    let fresh : find_task t.id xs ≡ None = rw c.self.view_is c.requires.fresh in
    let few = room_for_one_more t xs s.distinct s.small fresh small in
    let low = low_of_many g.S.Summary.knows c.self.inside.root s.tree (omega (arith, few)) in
    record {
      lone = search rules;
      tree = search rules;
      rising = search rules;
      low = omega (arith, low);
      few = few;
    }

pub invariant_of-self : goal.invariant_of-self
invariant_of-self g c =
    let s = c.self.invariant in
    let t = task_of c.args.node.value in
    let xs = in_order_behind c.self.inside.root in
    let key : c.key-key.result ≡ key_of t = c.key-key.ensures.value ∙ ap (λ (m : Node). key_of (out-Node m).entity) c.deref.ensures in
    let small : t.id < 2 ^ 16 = subst (λ (k : ℕ × ℕ). k.1 < 2 ^ 16) key c.key-key.ensures.small in
    let fresh : find_task t.id xs ≡ None = rw c.self.view_is c.requires.fresh in
    let few = room_for_one_more t xs s.distinct s.small fresh small in
    let others =
    subst (λ (k : ℕ × ℕ). (ys : List Task) → find_task k.1 ys ≡ None → Knows c.self.inside.times ys → Knows c.remember.new.times ys)
    key c.remember.ensures.others in
    let here = subst (λ (k : ℕ × ℕ). k.1 < 1024 → slice_index c.remember.new.times k.1 ≡ k.0) key c.remember.ensures.here in
    let lesser = c.lesser.ensures.value ∙ ap (λ (k : ℕ × ℕ). lesser_of k c.self.inside.least) key in
    let high = c.lesser.ensures.high c.key-key.ensures.high s.high in
    sound_inserted g.S.Summary.knows c.self.inside.len c.self.inside.root c.insert_into.new.link c.self.inside.least
    c.lesser.result c.self.inside.times c.remember.new.times t s lesser high c.insert_into.ensures.tree
    c.insert_into.ensures.order fresh small others here

pub overflow_add-self : goal.overflow_add-self
overflow_add-self g c =
    let s = c.self.invariant in
    let few = length-few (in_order_behind c.self.inside.root) s.distinct s.small in
    omega (arith, s.len_is, few)
