-- A key that means nothing is reported.
use Rattle.std.proofs.Common.{◌∙◌}
use Rattle.std.proofs.lemmas.Result.{err_from_is_err_and}
use Rattle.std.specs.Result.{result_err}
use Rattle.toml.specs.View.{table_view}
use Rattle.bq_workload_file.specs.Keys.{document_keys, first_unknown}
use Rattle.bq_workload_file.proofs.KeyLemmas.{unknown_key-found, unknown_there-same}
use Rattle.bq_workload_file.proofs.workloads.outline.Goals as goal

pub returns-in_err-locate-clause-unknown : goal.returns-in_err-locate-clause-unknown
returns-in_err-locate-clause-unknown c = λ key unknown.
    let reported = err_from_is_err_and c.from_residual.result c.from_residual.ensures.1 in
    unknown_there-same c.from_residual.result reported.0 c.in_err-locate.field-0.0 reported.1 reported.2
    ∙ c.in_err-locate.ensures.unknown
    ∙ unknown_key-found (result_err c.all_known.result) (first_unknown document_keys (table_view c.args.document.now)) key
    c.all_known.ensures unknown
