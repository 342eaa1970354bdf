use Rattle.std.proofs.Common.{◌≡◌, suc, ◌+◌, ◌∙◌, sym, ap, subst, length-append, true, ◌++◌, ◌∷◌, []}
use Rattle.std.specs.Prelude.{IfErr}
use Rattle.std.proofs.lemmas.List.{map-append, length-map}
use Rattle.std.proofs.lemmas.Result.{IfOk-weaker, err_from_is_err_and}
use Rattle.std.proofs.lemmas.Iterator.Splits.{YieldsList-from_lines}
use Rattle.std.proofs.lemmas.Iterator.Consumers.{YieldsList-so_far, YieldsList-turn, YieldsList-end}
use Rattle.bq_insn.specs.Spelling.{is_well_formed}
use Rattle.bq_insn.specs.Laws.{AllFit}
use Rattle.bq_asm.specs.Lines.{parsed_line, lines_of}
use Rattle.bq_asm.specs.Faults.{fault_at, cause_at_line, IsAssemblyFault}
use Rattle.bq_asm.specs.Assembly.{Assembles}
use Rattle.bq_asm.specs.Draft.{IsDraftOf}
use Rattle.bq_asm.proofs.LineByLineLemmas.{parsed_so_far, next_fault, more_clean, first_fault, assembled, unassembled}
use Rattle.bq_asm.proofs.AssembledLemmas.{assembles_well_formed}
use Rattle.bq_asm.proofs.assembler.assemble.Goals as goal

pub loop-line-preserved : goal.loop-line-preserved
loop-line-preserved c =
    let e = YieldsList-from_lines c.args.text.now cc in
    let yielded = c.loop-line.yielded in
    let so_far = YieldsList-so_far e yielded _ c.loop-line.yielded_by in
    let turn = YieldsList-turn e yielded _ c.loop-line.yielded_by _ _ c.in-Some.line c.in-Some.is c.next.ensures.steps in
    let count = c.loop-line.invariant.count in
    let taken =
    c.in_ok-take_line.ensures.ok (parsed_so_far yielded) c.loop-line.invariant.described
    (ap (λ n. n + 1) (count ∙ sym (length-map yielded (λ line. parsed_line line.now)))) in
    let fault =
    next_fault c.args.text.now yielded c.in-Some.line.now so_far turn.0 turn.1
    ∙ ap (λ line. cause_at_line (parsed_so_far yielded) (parsed_line line)) (sym c.as_bytes.ensures.value) ∙ taken.0 in
    record {
      described =
          subst (λ lines. IsDraftOf lines c.take_line.new.self)
          (ap (λ line. parsed_so_far yielded ++ parsed_line line ∷ []) c.as_bytes.ensures.value
          ∙ sym (map-append (λ line. parsed_line line.now) yielded (c.in-Some.line ∷ []))) taken.1;
      count = ap (λ n. n + 1) count ∙ sym (length-append yielded (c.in-Some.line ∷ []));
      clean =
          more_clean (lines_of c.args.text.now) c.loop-line.number c.loop-line.invariant.clean
          (ap (λ n. fault_at (lines_of c.args.text.now) (suc n)) count ∙ fault);
    }

pub returns-in_err-take_line-clause-fault : goal.returns-in_err-take_line-clause-fault
returns-in_err-take_line-clause-fault c =
    let e = YieldsList-from_lines c.args.text.now cc in
    let yielded = c.loop-line.yielded in
    let so_far = YieldsList-so_far e yielded _ c.loop-line.yielded_by in
    let turn = YieldsList-turn e yielded _ c.loop-line.yielded_by _ _ c.in-Some.line c.in-Some.is c.next.ensures.steps in
    let count = c.loop-line.invariant.count in
    let line = c.as_bytes.ensures.value in
    let fault =
    next_fault c.args.text.now yielded c.in-Some.line.now so_far turn.0 turn.1
    ∙ ap (λ line. cause_at_line (parsed_so_far yielded) (parsed_line line)) (sym line) in
    let p = err_from_is_err_and c.from_residual.result c.from_residual.ensures.1 in
    let is =
    first_fault c.args.text.now c.loop-line.draft yielded c.loop-line.number c.as_bytes.result.now
    c.in_err-take_line.field-0.0 count c.loop-line.invariant.described c.loop-line.invariant.clean
    fault c.in_err-take_line.ensures.fault in
    subst (λ r. IfErr r (IsAssemblyFault c.args.text.now)) (sym p.1) (subst (IsAssemblyFault c.args.text.now) (sym p.2) is)

pub returns-clause-assembles : goal.returns-clause-assembles
returns-clause-assembles c =
    let e = YieldsList-from_lines c.args.text.now cc in
    let end = YieldsList-end e c.loop-line.yielded _ c.loop-line.yielded_by _ _ c.in-None.is c.next.ensures.steps in
    assembled c.args.text.now c.loop-line.draft c.loop-line.yielded c.loop-line.number c.finish.result end.0
    c.loop-line.invariant.count c.loop-line.invariant.described c.loop-line.invariant.clean c.finish.ensures.ok

pub returns-clause-well_formed : goal.returns-clause-well_formed
returns-clause-well_formed c =
    let e = YieldsList-from_lines c.args.text.now cc in
    let end = YieldsList-end e c.loop-line.yielded _ c.loop-line.yielded_by _ _ c.in-None.is c.next.ensures.steps in
    let all =
    assembled c.args.text.now c.loop-line.draft c.loop-line.yielded c.loop-line.number c.finish.result end.0
    c.loop-line.invariant.count c.loop-line.invariant.described c.loop-line.invariant.clean c.finish.ensures.ok in
    IfOk-weaker c.finish.result (λ insns. Assembles c.args.text.now insns.items) (λ insns. is_well_formed insns.items ≡ true)
    (λ insns h. (assembles_well_formed c.args.text.now insns.items h).0) all

pub returns-clause-numbers : goal.returns-clause-numbers
returns-clause-numbers c =
    let e = YieldsList-from_lines c.args.text.now cc in
    let end = YieldsList-end e c.loop-line.yielded _ c.loop-line.yielded_by _ _ c.in-None.is c.next.ensures.steps in
    let all =
    assembled c.args.text.now c.loop-line.draft c.loop-line.yielded c.loop-line.number c.finish.result end.0
    c.loop-line.invariant.count c.loop-line.invariant.described c.loop-line.invariant.clean c.finish.ensures.ok in
    IfOk-weaker c.finish.result (λ insns. Assembles c.args.text.now insns.items) (λ insns. AllFit insns.items)
    (λ insns h. (assembles_well_formed c.args.text.now insns.items h).1) all

pub returns-clause-fault : goal.returns-clause-fault
returns-clause-fault c =
    let e = YieldsList-from_lines c.args.text.now cc in
    let end = YieldsList-end e c.loop-line.yielded _ c.loop-line.yielded_by _ _ c.in-None.is c.next.ensures.steps in
    unassembled c.args.text.now c.loop-line.draft c.loop-line.yielded c.loop-line.number c.finish.result end.0
    c.loop-line.invariant.count c.loop-line.invariant.described c.loop-line.invariant.clean c.finish.ensures.fault
