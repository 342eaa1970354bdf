use Rattle.std.proofs.Common.{◌≤◌, arith, inl, inr, length}
use Rattle.bq_verify.proofs.EdgeLemmas.{target_inside}
use Rattle.bq_verify.proofs.HeightLemmas.{heights_small, greatest_out}
use Rattle.bq_verify.proofs.graph_numbers.height.Goals as goal

pub height_at-next-requires : goal.height_at-next-requires
height_at-next-requires c = λ k e.
    rw c.requires.room
    (target_inside c.args.slots.now c.args.slot c.find_targets-targets.result c.requires.sound c.find_targets-targets.ensures k (inl e))

pub height_at-jump-requires : goal.height_at-jump-requires
height_at-jump-requires c = λ k e.
    rw c.requires.room
    (target_inside c.args.slots.now c.args.slot c.find_targets-targets.result c.requires.sound c.find_targets-targets.ensures k (inr e))

pub overflow_add-result : goal.overflow_add-result
overflow_add-result c =
    let small =
    heights_small c.args.slots.now c.requires.sound c.args.slot c.find_targets-targets.result c.find_targets-targets.ensures
    c.args.heights.now c.requires.measured in
    let next : c.height_at-next.result ≤ length c.args.slots.now = rw c.height_at-next.ensures small.0 in
    let jump : c.height_at-jump.result ≤ length c.args.slots.now = rw c.height_at-jump.ensures small.1 in
    omega arith

pub returns : goal.returns
returns c = λ start.
    rw (c.max.ensures, c.height_at-next.ensures, c.height_at-jump.ensures)
    (greatest_out c.args.slots.now c.requires.sound c.args.slot c.find_targets-targets.result c.find_targets-targets.ensures
    c.args.heights.now c.requires.measured)
