use Rattle.std.proofs.Common.{◌≡◌, refl, arith, rules, to_z, of_z, w64}
use mir.Val.{SFits}
use Rattle.std.proofs.lemmas.Int.{ints}
use Rattle.bq_import.proofs.SearchLemmas.{leads_nowhere, stays_inside}
use Rattle.bq_import.proofs.linked.leads_well.Goals.{else-may_go_on-via-then-may_go_on+else-slot-slots, else-may_go_on-via-else-may_go_on}
use Rattle.bq_import.proofs.linked.leads_well.Goals as goal

pub returns-then-is_none-clause-err : goal.returns-then-is_none-clause-err
returns-then-is_none-clause-err c =
    let fits : SFits w64 c.in-Some.distance = search rules in
    let same : to_z w64 (of_z w64 c.in-Some.distance) ≡ c.in-Some.distance = omega (arith, ints) in (
      refl,
      leads_nowhere c.args.slots.now c.args.slot c.args.insn c.in-Some.distance c.requires.here c.in-Some.ensures
          c.landing.result c.if-is_none.ensures (rw same at c.landing.ensures.none),
      stays_inside c.args.slots.now c.args.slot c.args.insn c.requires.here (elim c.else-may_go_on.branch [
        | else-may_go_on-via-then-may_go_on+else-slot-slots w ↦ λ on. search rules
        | else-may_go_on-via-else-may_go_on w ↦ λ on. search rules
      ]),
    )
