use Rattle.std.proofs.Common.{◌≡◌, ℕ, sym, arith, rules, to_z, of_z, w64}
use mir.Val.{SFits}
use Rattle.std.proofs.lemmas.Int.{ints}
use Rattle.bq_bpf.specs.Steps.{LeadsTo}
use Rattle.bq_verify.specs.Edges.{IsStart}
use Rattle.bq_import.proofs.linked.jump_slot.Goals as goal

pub unreachable-requires : goal.unreachable-requires
unreachable-requires c =
    let fits : SFits w64 c.in-Some.distance = search rules in
    let same : to_z w64 (of_z w64 c.in-Some.distance) ≡ c.in-Some.distance = omega (arith, ints) in
    let there = (c.requires.linked.leads c.args.slot c.args.insn c.requires.here).1 c.in-Some.distance (sym c.in-Some.ensures) in
    let none : (to : ℕ) → LeadsTo c.args.slot c.in-Some.distance to → IsStart c.args.slots.now to → ⊥ =
    rw same at c.in_default-landing.ensures.none in
    none there.0 there.1 there.2
