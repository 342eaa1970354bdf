use Rattle.bq_maps.specs.Arrays.{Arrays}
use Rattle.std.proofs.lemmas.Result.{err_from_is_err_and}
use Rattle.bq_policy_run.specs.Naming.{SetsEntry}
use Rattle.bq_policy_run.proofs.RefusalLemmas.{entry_seen, text_refused}
use Rattle.bq_policy_run.proofs.inputs.Inputs.set_all_entries.Goals as goal

pub returns-in_err-set_entry-clause-refused : goal.returns-in_err-set_entry-clause-refused
returns-in_err-set_entry-clause-refused c =
    let error = err_from_is_err_and c.from_residual.result c.from_residual.ensures.1 in
    rw (error.1, error.2) (text_refused SetsEntry (λ (maps : Arrays). maps.shapes) entry_seen c.args.texts.now
    c.loop-text.text-index c.text-item.result c.as_str.result.now c.args.self.now.maps c.loop-text.self.maps
    c.in_err-set_entry.field-0.0 c.loop-text-test.true c.text-item.is c.as_str.ensures.value c.loop-text.invariant.shapes
    c.in_err-set_entry.ensures.refused)
