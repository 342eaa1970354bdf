use Rattle.bq_states.proofs.learnt.learn_right.Goals as goal

pub returns-then-register-clause-contains : goal.returns-then-register-clause-contains
returns-then-register-clause-contains c = λ f s contains right.
    let found = right c.in-Reg.register c.in-Reg.is in
    c.sharpen.ensures.contains f s found.0 contains found.1 found.2
