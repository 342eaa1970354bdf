use Rattle.std.proofs.Common.{refl, ap, sym, ◌∙◌}
use Rattle.bq_disc.specs.Chains.{task_of}
use Rattle.bq_tree.specs.Trees.{height_behind}
use Rattle.bq_tree.proofs.TurnLemmas.{order_from_right, order_of_left, order_from_middle, few_of_three, few_of_pairs, knows_same, same_around, higher_side, higher_inner, same_height_swapped, single_height, double_height}
use Rattle.bq_tree.proofs.balance.turned_left.Goals as goal

pub unreachable-requires : goal.unreachable-requires
unreachable-requires g c =
    higher_side _ _ _ c.requires.higher c.parted-left.ensures.right_height (ap height_behind c.in_default.is)

pub fork-low-requires-clause-few : goal.fork-low-requires-clause-few
fork-low-requires-clause-few g c =
    let all = order_from_right _ _ _ _ _ _ _ _ c.parted-left.ensures.order c.in-Some.is c.opened-inner.ensures.order in
    (few_of_three _ _ _ _ _ _ all c.requires.few).0

pub crown-requires-clause-knows : goal.crown-requires-clause-knows
crown-requires-clause-knows g c =
    let all = order_from_right _ _ _ _ _ _ _ _ c.parted-left.ensures.order c.in-Some.is c.opened-inner.ensures.order in
    let turned = order_of_left _ _ _ _ _ _ all in
    let task = c.take_over.ensures.task ∙ ap task_of c.deref_mut.ensures.value in
    c.take_over.ensures.knows _ (knows_same g.S.Summary.knows _ _ _ _ c.parted-left.ensures.knows c.deref.ensures
    (same_around _ _ _ _ _ _ _ turned task c.fork-low.ensures.order refl))

pub returns-then-height-clause-order : goal.returns-then-height-clause-order
returns-then-height-clause-order g c =
    let all = order_from_right _ _ _ _ _ _ _ _ c.parted-left.ensures.order c.in-Some.is c.opened-inner.ensures.order in
    let turned = order_of_left _ _ _ _ _ _ all in
    let task = c.take_over.ensures.task ∙ ap task_of c.deref_mut.ensures.value in
    c.crown.ensures.order ∙ sym (same_around _ _ _ _ _ _ _ turned task c.fork-low.ensures.order refl)

pub returns-then-height-clause-height : goal.returns-then-height-clause-height
returns-then-height-clause-height g c =
    let top = sym (ap height_behind c.in-Some.is) ∙ c.parted-left.ensures.right_height in
    let sides = c.opened-inner.ensures.height ∙ same_height_swapped _ _ in
    single_height _ _ _ _ _ _ _ _ _ _ c.requires.higher top c.parted-left.ensures.left_height
    sides c.height.ensures c.height-2.ensures c.if-height.true c.opened-inner.ensures.balanced.1
    (c.fork-low.ensures.height ∙ same_height_swapped _ _) (c.crown.ensures.height ∙ same_height_swapped _ _)

pub unreachable-requires-in_default-inner : goal.unreachable-requires-in_default-inner
unreachable-requires-in_default-inner g c =
    higher_inner _ _ _ _ c.height.ensures c.height-2.ensures c.if-height.false (ap height_behind c.in_default-inner.is)

pub fork-before-requires-clause-few : goal.fork-before-requires-clause-few
fork-before-requires-clause-few g c =
    let all = order_from_right _ _ _ _ _ _ _ _ c.parted-left.ensures.order c.in-Some.is c.opened-inner.ensures.order in
    let cut = order_from_middle _ _ _ _ _ _ _ _ _ _ all c.in-Some-inner.is c.opened-far.ensures.order in
    (few_of_pairs _ _ _ _ _ _ _ _ cut c.requires.few).0

pub fork-after-requires-clause-few : goal.fork-after-requires-clause-few
fork-after-requires-clause-few g c =
    let all = order_from_right _ _ _ _ _ _ _ _ c.parted-left.ensures.order c.in-Some.is c.opened-inner.ensures.order in
    let cut = order_from_middle _ _ _ _ _ _ _ _ _ _ all c.in-Some-inner.is c.opened-far.ensures.order in
    (few_of_pairs _ _ _ _ _ _ _ _ cut c.requires.few).1

pub crown-requires-2-clause-knows : goal.crown-requires-2-clause-knows
crown-requires-2-clause-knows g c =
    let all = order_from_right _ _ _ _ _ _ _ _ c.parted-left.ensures.order c.in-Some.is c.opened-inner.ensures.order in
    let cut = order_from_middle _ _ _ _ _ _ _ _ _ _ all c.in-Some-inner.is c.opened-far.ensures.order in
    let task = c.take_over-2.ensures.task ∙ ap task_of c.deref_mut-2.ensures.value in
    c.take_over-2.ensures.knows _ (knows_same g.S.Summary.knows _ _ _ _ c.parted-left.ensures.knows c.deref-2.ensures
    (same_around _ _ _ _ _ _ _ cut task c.fork-before.ensures.order c.fork-after.ensures.order))

pub returns-clause-order : goal.returns-clause-order
returns-clause-order g c =
    let all = order_from_right _ _ _ _ _ _ _ _ c.parted-left.ensures.order c.in-Some.is c.opened-inner.ensures.order in
    let cut = order_from_middle _ _ _ _ _ _ _ _ _ _ all c.in-Some-inner.is c.opened-far.ensures.order in
    let task = c.take_over-2.ensures.task ∙ ap task_of c.deref_mut-2.ensures.value in
    c.crown-2.ensures.order ∙ sym (same_around _ _ _ _ _ _ _ cut task c.fork-before.ensures.order c.fork-after.ensures.order)

pub returns-clause-height : goal.returns-clause-height
returns-clause-height g c =
    let top = sym (ap height_behind c.in-Some.is) ∙ c.parted-left.ensures.right_height in
    let sides = c.opened-inner.ensures.height ∙ same_height_swapped _ _ in
    let inner = ap height_behind c.in-Some-inner.is ∙ c.opened-far.ensures.height ∙ same_height_swapped _ _ in
    let crown = c.crown-2.ensures.height ∙ same_height_swapped _ _ in
    double_height _ _ _ _ _ _ _ _ _ _ _ _ _ c.requires.higher top c.parted-left.ensures.left_height
    sides c.height.ensures c.height-2.ensures c.if-height.false c.opened-inner.ensures.balanced.0 inner
    (c.fork-after.ensures.height ∙ same_height_swapped _ _) (c.fork-before.ensures.height ∙ same_height_swapped _ _) crown
