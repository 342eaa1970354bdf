use Rattle.std.proofs.lemmas.Result.{err_from_is_err_and}
use Rattle.bq_policy_run.specs.Naming.{SetsCounter, SetsEntry, SetsFields, TextsInTurn}
use Rattle.bq_policy_run.specs.Running.{SetsParts}
use Rattle.bq_console.proofs.GivenLemmas.{none_of_part}
use Rattle.bq_policy_run.proofs.named_inputs.set_parts.Goals as goal

pub returns-in_err-set_all_fields-clause-refused : goal.returns-in_err-set_all_fields-clause-refused
returns-in_err-set_all_fields-clause-refused c =
    let error = err_from_is_err_and c.from_residual.result c.from_residual.ensures.1 in
    let none = rw (c.hook-hook.ensures, c.version-version.ensures, c.as_slice.ensures.value) at c.in_err-set_all_fields.ensures.refused in
    rw (error.1, error.2) (none_of_part
    (TextsInTurn (SetsFields c.args.verified.now.hook c.args.verified.now.version) c.args.words.now.fields.items
    c.args.inputs.now.context.items) (SetsParts c.args.words.now c.args.verified.now c.args.inputs.now)
    c.in_err-set_all_fields.field-0.0 (λ after parts. (after.context.items, parts.fields)) none)

pub returns-in_err-set_all_entries-clause-refused : goal.returns-in_err-set_all_entries-clause-refused
returns-in_err-set_all_entries-clause-refused c =
    let error = err_from_is_err_and c.from_residual-in_err-set_all_entries.result c.from_residual-in_err-set_all_entries.ensures.1 in
    let none = rw (c.as_slice-2.ensures.value, c.in_ok-set_all_fields.ensures.others.maps) at c.in_err-set_all_entries.ensures.refused in
    rw (error.1, error.2) (none_of_part (TextsInTurn SetsEntry c.args.words.now.entries.items c.args.inputs.now.maps)
    (SetsParts c.args.words.now c.args.verified.now c.args.inputs.now) c.in_err-set_all_entries.field-0.0
    (λ after parts. (after.maps, parts.entries)) none)

pub returns-in_err-set_all_counters-clause-refused : goal.returns-in_err-set_all_counters-clause-refused
returns-in_err-set_all_counters-clause-refused c =
    let error = err_from_is_err_and c.from_residual-in_err-set_all_counters.result c.from_residual-in_err-set_all_counters.ensures.1 in
    let none =
    rw (c.as_slice-3.ensures.value, c.in_ok-set_all_entries.ensures.others.board, c.in_ok-set_all_fields.ensures.others.board) at
    c.in_err-set_all_counters.ensures.refused in
    rw (error.1, error.2) (none_of_part (TextsInTurn SetsCounter c.args.words.now.counters.items c.args.inputs.now.board)
    (SetsParts c.args.words.now c.args.verified.now c.args.inputs.now) c.in_err-set_all_counters.field-0.0
    (λ after parts. (after.board, parts.counters)) none)
