use Rattle.std.proofs.Common.{◌<◌, length, arith, refl}
use Rattle.bq_verify.proofs.PassLemmas.{start_is}
use Rattle.bq_verify.proofs.pass.start.Goals as goal

pub returns-clause-contains : goal.returns-clause-contains
returns-clause-contains c = λ f maps have.
    let long : 10 < length c.blank-state.result.registers = omega arith in
    rw (c.set_register-2.ensures.is, c.set_register.ensures.is)
    (start_is f maps c.blank-state.result _ _ long refl (omega arith, omega arith) refl (omega arith, omega arith)
    (c.blank-state.ensures.contains f _ have))
