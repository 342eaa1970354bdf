use Rattle.std.proofs.Common.{arith}
use Rattle.bq_states.proofs.AccessLemmas.{finds_bytes}
use Rattle.bq_states.proofs.places.reads_value.Goals as goal

pub returns-in-Stack-clause-finds : goal.returns-in-Stack-clause-finds
returns-in-Stack-clause-finds c = λ yes'.
    finds_bytes c.args.shapes.now c.args.context c.args.state.now c.args.count c.args.register c.in-Some.base
    c.in-Some-bound.bound c.in-Some.ensures c.in-Some-bound.ensures.bounds (omega arith) (omega arith)
    (λ stack. c.stack_is_set.ensures.all yes')

pub returns-in_default-kind-clause-finds : goal.returns-in_default-kind-clause-finds
returns-in_default-kind-clause-finds c = λ yes'.
    finds_bytes c.args.shapes.now c.args.context c.args.state.now c.args.count c.args.register c.in-Some.base
    c.in-Some-bound.bound c.in-Some.ensures c.in-Some-bound.ensures.bounds (omega arith) (omega arith)
    (λ stack. absurd (c.in_default-kind.not-Stack stack))
