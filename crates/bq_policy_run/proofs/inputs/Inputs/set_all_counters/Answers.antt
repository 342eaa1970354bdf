use Rattle.std.proofs.Common.{ℕ, List, refl}
use Rattle.std.proofs.lemmas.Result.{err_from_is_err_and}
use Rattle.bq_policy_run.specs.Naming.{SetsCounter}
use Rattle.bq_policy_run.proofs.RefusalLemmas.{counter_seen, text_refused}
use Rattle.bq_policy_run.proofs.inputs.Inputs.set_all_counters.Goals as goal

pub returns-in_err-set_counter-clause-refused : goal.returns-in_err-set_counter-clause-refused
returns-in_err-set_counter-clause-refused c =
    let error = err_from_is_err_and c.from_residual.result c.from_residual.ensures.1 in
    rw (error.1, error.2) (text_refused SetsCounter (λ (_ : List ℕ). 0) counter_seen c.args.texts.now c.loop-text.text-index
    c.text-item.result c.as_str.result.now c.args.self.now.board c.loop-text.self.board c.in_err-set_counter.field-0.0
    c.loop-text-test.true c.text-item.is c.as_str.ensures.value refl c.in_err-set_counter.ensures.refused)
