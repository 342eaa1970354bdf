use Rattle.std.proofs.Common.{◌≡◌, sym, arith, rules, to_z, of_z, w64}
use mir.Val.{SFits}
use Rattle.std.proofs.lemmas.Int.{ints}
use Rattle.bq_verify.proofs.EdgeLemmas.{bad_jump}
use Rattle.bq_verify.proofs.graph_numbers.target.Goals as goal

pub unreachable-requires : goal.unreachable-requires
unreachable-requires c =
    let fits : SFits w64 c.args.distance = search rules in
    let same : to_z w64 (of_z w64 c.args.distance) ≡ c.args.distance = omega (arith, ints) in
    c.requires.sound.lands c.args.slot
    (bad_jump c.args.slots.now c.args.slot c.args.insn c.args.distance c.requires.here (sym c.requires.jumps)
    (rw same at c.in_default.ensures.none))
