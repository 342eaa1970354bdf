use Rattle.bq_policy_run.specs.Naming.{SetsCounter}
use Rattle.bq_console.proofs.GivenLemmas.{none_given}
use Rattle.bq_policy_run.proofs.RefusalLemmas.{no_counter_named, no_counter_there}
use Rattle.bq_policy_run.proofs.inputs.Inputs.set_counter.Goals as goal

pub returns-in_default-clause-refused : goal.returns-in_default-clause-refused
returns-in_default-clause-refused c =
    none_given (SetsCounter c.args.text.now c.args.self.now.board) c.refused.result
    (no_counter_named c.args.text.now c.args.self.now.board c.in_default.ensures.none)

pub returns-then-number-ge-COUNTERS-clause-refused : goal.returns-then-number-ge-COUNTERS-clause-refused
returns-then-number-ge-COUNTERS-clause-refused c =
    none_given (SetsCounter c.args.text.now c.args.self.now.board) c.refused-then-number-ge-COUNTERS.result
    (no_counter_there c.args.text.now c.args.self.now.board c.in-Some.number c.in-Some.word c.in-Some.ensures.some
    c.if-number-ge-COUNTERS.true)
