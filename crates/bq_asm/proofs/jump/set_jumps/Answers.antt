use Rattle.std.proofs.Common.{rules, ◌∙◌, ◌≤◌, ◌<◌, ap, sym, arith, length, map, None, []}
use Rattle.std.proofs.lemmas.List.{drop_all}
use Rattle.std.proofs.lemmas.List.Elements.{All-get_or}
use Rattle.bq_asm.specs.declared.jump.Jump.{Jump}
use Rattle.bq_asm.specs.Jumps.{places_of, awaited_by, with_jumps}
use Rattle.bq_asm.proofs.JumpLemmas.{with_jumps_at, with_jumps_set}
use Rattle.bq_asm.proofs.jump.set_jumps.Goals as goal

abbrev no_jump : Jump
no_jump = record { index = 0; next = 0; line = 0; label = record { ref_ptr = (0, 0); now = [] } }

pub returns-in_default-clause-missing : goal.returns-in_default-clause-missing
returns-in_default-clause-missing c =
    sym c.loop-jump.invariant
    ∙ with_jumps_at (places_of c.args.labels.now) c.args.jumps.now c.loop-jump.jump-index _ c.loop-jump.insns None
    c.loop-jump-test.true (sym c.in_default.is ∙ c.slot_of.ensures.found)

pub distance_between-distance-requires-clause-from : goal.distance_between-distance-requires-clause-from
distance_between-distance-requires-clause-from c =
    (All-get_or (λ j. (j.next ≤ 4096) × (j.index < length c.args.insns.now)) c.args.jumps.now c.loop-jump.jump-index no_jump
    c.loop-jump-test.true c.requires.jumps).0

pub bounds-insns-jump : goal.bounds-insns-jump
bounds-insns-jump c =
    let near =
    (All-get_or (λ j. (j.next ≤ 4096) × (j.index < length c.args.insns.now)) c.args.jumps.now c.loop-jump.jump-index no_jump
    c.loop-jump-test.true c.requires.jumps).1 in
    let same = c.loop-jump.auto.insns in omega (arith, near, same)

pub loop-jump-preserved : goal.loop-jump-preserved
loop-jump-preserved c =
    with_jumps_set (places_of c.args.labels.now) c.args.jumps.now c.loop-jump.jump-index no_jump c.loop-jump.insns _
    c.in-Some.slot c.aimed.result _ c.loop-jump-test.true (bounds-insns-jump c) (sym c.in-Some.is ∙ c.slot_of.ensures.found)
    c.aimed.ensures (search rules)
    ∙ c.loop-jump.invariant

pub returns-clause-ok : goal.returns-clause-ok
returns-clause-ok c =
    sym c.loop-jump.invariant
    ∙ ap (λ js. with_jumps (places_of c.args.labels.now) (map awaited_by js) c.loop-jump.insns)
    (drop_all c.loop-jump.jump-index c.args.jumps.now c.loop-jump-test.false)
