use Rattle.std.proofs.Common.{◌≡◌, refl, arith, rules, to_z, of_z, w64}
use mir.Val.{SFits}
use Rattle.std.proofs.lemmas.Int.{ints}
use Rattle.bq_verify.proofs.EdgeLemmas.{bad_jump}
use Rattle.bq_verify.proofs.single.is_bad_jump.Goals as goal

pub returns-in-None : goal.returns-in-None
returns-in-None c =
    let fits : SFits w64 c.in-Some.distance = search rules in
    let same : to_z w64 (of_z w64 c.in-Some.distance) ≡ c.in-Some.distance = omega (arith, ints) in (
      λ _.
          bad_jump c.args.slots.now c.args.slot c.args.insn c.in-Some.distance c.requires.here c.in-Some.ensures
          (rw same at c.in-None.ensures.none),
      λ _. refl,
    )
