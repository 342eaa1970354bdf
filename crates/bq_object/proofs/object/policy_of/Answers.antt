use Rattle.std.proofs.Common.{Result, Ok, Err, inl, inr}
use Rattle.std.proofs.lemmas.Result.{err_from_is_err_and}
use Rattle.std.specs.Result.{IfErr}
use Rattle.bq_object.specs.Faults.{IsFunctionFault, IsObjectFault}
use Rattle.bq_object.proofs.object.policy_of.Goals as goal

if_err_weaker : {T E : Type 0} (P Q : E → Type 0) (r : Result T E) → ((e : E) → P e → Q e) → IfErr r P → IfErr r Q
if_err_weaker P Q (Ok v) weaker p = p
if_err_weaker P Q (Err e) weaker p = weaker e p

pub returns-in_err-tables-clause-err : goal.returns-in_err-tables-clause-err
returns-in_err-tables-clause-err c =
    let p = err_from_is_err_and c.from_residual-in_err-tables.result c.from_residual-in_err-tables.ensures.1 in
    rw (p.1, p.2) (inr (c.in_ok-headers.headers.now, c.in_ok-headers.ensures.ok, inl c.in_err-tables.ensures.err))

pub returns-clause-err : goal.returns-clause-err
returns-clause-err c =
    if_err_weaker
    (IsFunctionFault c.args.file.now c.in_ok-headers.headers.now c.in_ok-tables.tables.entries.now c.in_ok-tables.tables.names.now)
    (IsObjectFault c.args.file.now) c.function.result
    (λ fault wrong. inr (
      c.in_ok-headers.headers.now,
      c.in_ok-headers.ensures.ok,
      inr (c.in_ok-tables.tables.entries.now, c.in_ok-tables.tables.names.now, c.in_ok-tables.ensures.ok, wrong),
    )) c.function.ensures.err
