use Rattle.bq_policy_run.proofs.RefusalLemmas.{no_counter_uncut, no_counter_zip}
use Rattle.bq_policy_run.proofs.counters.counter_named.Goals as goal

pub returns-in_err-number-clause-none : goal.returns-in_err-number-clause-none
returns-in_err-number-clause-none c = rw c.from_residual.ensures (no_counter_uncut c.args.text.now c.in_err-number.ensures)

pub returns-clause-none : goal.returns-clause-none
returns-clause-none c =
    rw c.zip.ensures (no_counter_zip c.args.text.now c.in_ok-number.number.now c.in_ok-number.word.now c.decimal.result
    c.value.result c.in_ok-number.ensures c.decimal.ensures.none c.value.ensures.none)
