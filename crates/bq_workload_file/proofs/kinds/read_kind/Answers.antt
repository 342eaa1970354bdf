-- A key that means nothing is reported with its place.
use Rattle.std.proofs.Common.{◌∙◌}
use Rattle.std.proofs.lemmas.Result.{err_from_is_err_and}
use Rattle.bq_workload_file.proofs.KeyLemmas.{unknown_there-same}
use Rattle.bq_workload_file.proofs.kinds.read_kind.Goals as goal

pub returns-in_err-numbers-clause-unknown : goal.returns-in_err-numbers-clause-unknown
returns-in_err-numbers-clause-unknown c = λ key named unknown.
    let reported = err_from_is_err_and c.from_residual-in_err-numbers.result c.from_residual-in_err-numbers.ensures.1 in
    unknown_there-same c.from_residual-in_err-numbers.result reported.0 c.in_err-numbers.field-0.0 reported.1 reported.2
    ∙ c.in_err-numbers.ensures.unknown ∙ c.all_numbers.ensures.unknown key unknown
