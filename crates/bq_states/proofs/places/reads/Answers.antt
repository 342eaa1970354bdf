use Rattle.std.proofs.Common.{arith, rules}
use Rattle.bq_insn.specs.Slots.{byte_count}
use Rattle.bq_states.proofs.AccessLemmas.{finds_bytes}
use Rattle.bq_states.proofs.places.reads.Goals as goal

pub returns-clause-finds : goal.returns-clause-finds
returns-clause-finds c = λ yes'.
    finds_bytes c.args.shapes.now c.args.context c.args.state.now (byte_count c.args.size) c.args.register
    c.in-Some.base c.in-Some-bound.bound c.in-Some.ensures c.in-Some-bound.ensures.bounds (omega arith)
    (search rules) (c.is_readable.ensures.stack yes')
