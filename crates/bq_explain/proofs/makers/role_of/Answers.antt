use Rattle.std.proofs.Common.{◌≡◌, true, false, Some, None, refl, sym, rules}
use Rattle.bq_bpf.specs.Steps.{instruction_at}
use Rattle.bq_verify.proofs.EdgeLemmas.{target_inside}
use Rattle.bq_verify.specs.Straight.{spares}
use Rattle.bq_explain.proofs.MakerLemmas.{part_none, part_off, part_makes, part_leads}
use Rattle.bq_explain.proofs.makers.role_of.Goals as goal

pub returns-in_default : goal.returns-in_default
returns-in_default c = λ slot lt are.
    let none : instruction_at c.args.slots.now c.args.here ≡ None = search rules in
    part_none c.args.slots.now c.args.register slot c.requires.sound c.args.here lt c.args.leading.now are none

pub one_leads_on-requires : goal.one_leads_on-requires
one_leads_on-requires c = λ k of.
    rw c.requires.room
    (target_inside c.args.slots.now c.args.here c.find_targets-targets.result c.requires.sound c.find_targets-targets.ensures k of)

pub returns-then-not-one_leads_on : goal.returns-then-not-one_leads_on
returns-then-not-one_leads_on c = λ slot lt are.
    part_off c.args.slots.now c.args.register slot c.requires.sound c.args.here
    lt c.args.leading.now are c.find_targets-targets.result c.find_targets-targets.ensures
    (λ k of leads. let on = c.if-not-one_leads_on.ensures.1 (k, of, leads) in absurd cc)

pub returns-then-writes : goal.returns-then-writes
returns-then-writes c = λ slot lt are.
    let on = c.if-not-one_leads_on.ensures.0 refl in
    let here : instruction_at c.args.slots.now c.args.here ≡ Some c.in-Some.insn = sym c.in-Some.ensures in
    let writes : spares c.args.register (instruction_at c.args.slots.now c.args.here) ≡ false = rw here c.if-writes.ensures in
    part_makes c.args.slots.now c.args.register slot c.requires.sound c.args.here lt c.args.leading.now are
    c.find_targets-targets.result c.find_targets-targets.ensures on.0 on.1 on.2 writes

pub returns-else-writes : goal.returns-else-writes
returns-else-writes c = λ slot lt are.
    let on = c.if-not-one_leads_on.ensures.0 refl in
    let here : instruction_at c.args.slots.now c.args.here ≡ Some c.in-Some.insn = sym c.in-Some.ensures in
    let spared : spares c.args.register (instruction_at c.args.slots.now c.args.here) ≡ true = rw here c.if-writes.ensures in
    part_leads c.args.slots.now c.args.register slot c.requires.sound c.args.here lt c.args.leading.now are
    c.find_targets-targets.result c.find_targets-targets.ensures on.0 on.1 on.2 spared
