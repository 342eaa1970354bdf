use Rattle.std.proofs.Common.{rules, Some, subst, ap, ◌∙◌}
use Rattle.std.specs.Prelude.{All}
use Rattle.std.proofs.lemmas.List.{take_all}
use Rattle.std.proofs.lemmas.List.Elements.{All-more}
use Rattle.std.proofs.lemmas.Option.{slice_get-get_or}
use Rattle.bq_explain.specs.Verdicts.{CallsNoOther, IsCalledAgainst}
use Rattle.bq_explain.proofs.limits.called_against.Goals as goal

pub loop-insn-preserved : goal.loop-insn-preserved
loop-insn-preserved c =
    All-more (CallsNoOther (Some c.args.helpers.now)) c.args.insns.now c.loop-insn.insn-index _ c.loop-insn-test.true
    c.loop-insn.invariant c.in_default.ensures

pub returns-in-Some : goal.returns-in-Some
returns-in-Some c =
    let first : IsCalledAgainst (Some c.args.helpers.now) c.args.insns.now c.in-Some.helper = record {
      place = c.loop-insn.insn-index;
      called = slice_get-get_or c.args.insns.now c.loop-insn.insn-index _ c.loop-insn-test.true ∙ ap Some c.in-Some.ensures.calls;
      first = c.loop-insn.invariant;
      against = c.in-Some.ensures.beside;
    } in
    search (rules, first)

pub returns : goal.returns
returns c =
    subst (All (CallsNoOther (Some c.args.helpers.now))) (take_all c.loop-insn.insn-index c.args.insns.now (search rules))
    c.loop-insn.invariant
