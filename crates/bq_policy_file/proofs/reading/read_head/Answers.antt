use Rattle.std.proofs.Common.{refl, ◌+◌, ◌∙◌, sym, ap, subst, length-append, ◌++◌, ◌∷◌, [], map}
use Rattle.std.specs.Prelude.{IfErr}
use Rattle.std.specs.Str.Lines.{lines}
use Rattle.std.proofs.lemmas.List.{map-append}
use Rattle.std.proofs.lemmas.Result.{err_from_is_err_and}
use Rattle.std.proofs.lemmas.Iterator.Splits.{YieldsList-from_lines}
use Rattle.std.proofs.lemmas.Iterator.Consumers.{YieldsList-so_far, YieldsList-turn, YieldsList-end}
use Rattle.bq_policy_file.specs.Heads.{IsHeadFault, StatesHead}
use Rattle.bq_policy_file.specs.Taking.{IsRefusedLine}
use Rattle.bq_policy_file.proofs.HeadLemmas.{refused_at, states_nothing}
use Rattle.bq_policy_file.proofs.reading.read_head.Goals as goal

pub loop-line-init : goal.loop-line-init
loop-line-init c = record {
  stated =
      states_nothing c.nothing-head.result c.nothing-head.ensures.hook c.nothing-head.ensures.maps
      c.nothing-head.ensures.format;
  count = refl;
}

pub loop-line-preserved : goal.loop-line-preserved
loop-line-preserved c =
    let yielded = c.loop-line.yielded in
    let count = c.loop-line.invariant.count in
    let taken = c.in_ok-take_line.ensures.ok (map (λ line. line.now) yielded) c.loop-line.invariant.stated in
    record {
      stated =
          subst (λ lines. StatesHead lines c.take_line.new.self)
          (ap (λ line. map (λ l. l.now) yielded ++ line ∷ []) c.as_bytes.ensures.value
          ∙ sym (map-append (λ line. line.now) yielded (c.in-Some.line ∷ []))) taken;
      count = ap (λ n. n + 1) count ∙ sym (length-append yielded (c.in-Some.line ∷ []));
    }

pub returns-in_err-take_line-clause-fault : goal.returns-in_err-take_line-clause-fault
returns-in_err-take_line-clause-fault c =
    let e = YieldsList-from_lines c.args.text.now cc in
    let yielded = c.loop-line.yielded in
    let so_far = YieldsList-so_far e yielded _ c.loop-line.yielded_by in
    let turn = YieldsList-turn e yielded _ c.loop-line.yielded_by _ _ c.in-Some.line c.in-Some.is c.next.ensures.steps in
    let p = err_from_is_err_and c.from_residual.result c.from_residual.ensures.1 in
    let is =
    refused_at c.args.text.now c.loop-line.head yielded c.loop-line.number c.in-Some.line.now c.in_err-take_line.field-0.0
    so_far turn.0 turn.1 c.loop-line.invariant.count c.loop-line.invariant.stated
    (subst (λ line. IsRefusedLine c.loop-line.head (c.loop-line.number + 1) line c.in_err-take_line.field-0.0)
    c.as_bytes.ensures.value c.in_err-take_line.ensures.fault) in
    subst (λ r. IfErr r (IsHeadFault (lines c.args.text.now))) (sym p.1) (subst (IsHeadFault (lines c.args.text.now)) (sym p.2) is)

pub returns-clause-head : goal.returns-clause-head
returns-clause-head c =
    let e = YieldsList-from_lines c.args.text.now cc in
    let end = YieldsList-end e c.loop-line.yielded _ c.loop-line.yielded_by _ _ c.in-None.is c.next.ensures.steps in
    subst (λ lines. StatesHead lines c.loop-line.head) end.0 c.loop-line.invariant.stated
