use Rattle.std.proofs.Common.{◌≡◌, map, drop}
use Rattle.bq_asm.specs.Jumps.{with_jumps, places_of, awaited_by}
use Rattle.bq_asm.proofs.jump.set_jumps.Given as goal

-- setting the jumps that are left gives what setting all gave
abbrev pub invariant-loop-jump : goal.invariant-loop-jump
invariant-loop-jump l =
    with_jumps (places_of l.labels) (map awaited_by (drop l.jump-index l.jumps)) l.insns
    ≡ with_jumps (places_of l.labels) (map awaited_by l.jumps) l.initial.insns
