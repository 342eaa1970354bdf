use Rattle.std.proofs.Common.{◌≤◌, arith}
use Rattle.bq_import.proofs.ReachLemmas.{jump_backward}
use Rattle.bq_import.proofs.reached.leads_forward.Goals as goal

pub returns-in-Some-jump-clause-no : goal.returns-in-Some-jump-clause-no
returns-in-Some-jump-clause-no c = λ e forward.
    let back : c.in-Some-jump.to ≤ c.args.slot = grind (arith, e) in
    jump_backward c.args.old.now c.args.slot c.in-Some.insn c.find_targets.result c.in-Some-jump.to c.find_targets.ensures
    c.in-Some-jump.is back forward
