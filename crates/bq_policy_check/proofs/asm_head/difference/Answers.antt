use Rattle.std.proofs.Common.{◌≢◌, rules, IfOk, Result, inl, inr, sym, subst}
use Rattle.std.specs.declared.alloc.AllocError.{AllocError}
use Rattle.std.specs.Prelude.{Option}
use Rattle.bq_policy_file.specs.declared.fault.PolicyFault.TheVariants.{OutOfMemory}
use Rattle.bq_policy_file.specs.declared.mark.Key.{Key}
use Rattle.bq_policy_check.specs.Disagreeing.{IsDifferingKey}
use Rattle.bq_policy_check.proofs.DifferenceLemmas.{IsDifference-of_fault}
use Rattle.bq_policy_check.proofs.asm_head.difference.Goals.{in-Ok, in-Err-OutOfMemory, in-Err}
use Rattle.bq_policy_check.proofs.asm_head.difference.Goals as goal

pub returns : goal.returns
returns c =
    let P = λ (r : Result (Option Key) AllocError). IfOk r (IsDifferingKey c.args.text.now c.args.given.now) in
    elim c.match-read_policy.branch [
      | in-Ok w ↦ subst P (sym w.result-is) (inr (inl (w.in-Ok.field-0, w.in-Ok.ensures.policy)))
      | in-Err-OutOfMemory w ↦ subst P (sym w.result-is) tt
      | in-Err w ↦
          let other : w.in-Err.fault ≢ OutOfMemory = search rules in
          subst P (sym w.result-is) (IsDifference-of_fault c.args.text.now c.args.given.now w.in-Err.fault w.differing.result
          w.in-Err.ensures.fault other w.differing.ensures)
    ]
