use Rattle.std.proofs.Common.{◌≡◌, ◌<◌, Option, length, subst, arith, rules}
use Rattle.bq_states.specs.declared.abstract_state.StackPart.{StackPart}
use Rattle.bq_states.specs.Parts.{HasStackPart}
use Rattle.bq_states.proofs.PartLemmas.{part_known, part_number}
use Rattle.bq_states.proofs.parts.numbers_at.Goals as goal

pub returns : goal.returns
returns c = λ stack o bytes have within has small.
    let single = c.is_single.ensures.0 c.if-not-is_single.false in
    let place : c.in-Some.part.first ≡ o = omega (arith, single, within, c.if-part-first.false) in
    let same : c.in-Some.part.size ≡ c.args.size = search rules in
    let there : c.place_of.result < length c.args.parts.now = omega (arith, c.requires, c.place_of.ensures) in
    let known = part_known c.args.parts.now c.place_of.result _ c.in-Some.part there c.in-Some.is in
    part_number stack c.in-Some.part o c.args.size bytes place same
    (subst (λ (v : Option StackPart). HasStackPart stack v) known (have c.place_of.result)) has
