use Rattle.std.proofs.Common.{◌<◌, length, arith}
use Rattle.bq_states.proofs.WordLemmas.{describes_number}
use Rattle.bq_transfer.proofs.CallLemmas.{contains_called}
use Rattle.bq_transfer.proofs.calls.answer.Goals as goal

pub returns-clause-contains : goal.returns-clause-contains
returns-clause-contains c = λ f s x contains within.
    let there : 0 < length c.clear.new.registers = omega arith in
    rw c.set_register.ensures.is (contains_called f c.args.state.now s c.clear.new.registers
    c.forget_first_classes.new.classes x _ there c.clear.ensures c.forget_first_classes.ensures contains
    (describes_number f.shapes c.args.offset x within))
