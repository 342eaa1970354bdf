use Rattle.std.proofs.lemmas.Result.{err_from_is_err_and}
use Rattle.bq_cli.proofs.asm.asm_words.Goals as goal

pub returns-in_err-hook-clause-taken : goal.returns-in_err-hook-clause-taken
returns-in_err-hook-clause-taken c =
    let p = err_from_is_err_and c.from_residual-in_err-hook.result c.from_residual-in_err-hook.ensures.1 in
    rw (p.1, p.2) (λ w given. (rw c.in_ok-words.ensures.hook at c.in_err-hook.ensures.taken) w.options.hook given.hook)

pub returns-in_err-format-clause-taken : goal.returns-in_err-format-clause-taken
returns-in_err-format-clause-taken c =
    let p = err_from_is_err_and c.from_residual-in_err-format.result c.from_residual-in_err-format.ensures.1 in
    rw (p.1, p.2) (λ w given. (rw c.in_ok-words.ensures.format at c.in_err-format.ensures.taken) w.options.format given.format)
