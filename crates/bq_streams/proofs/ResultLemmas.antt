-- What holds of a result.
use Rattle.std.proofs.Common.{Result, Ok, Err}
use Rattle.std.specs.Prelude.{OnErr}

-- what holds anyhow holds where the result is an error
pub OnErr-anyhow : {T E P : Type 0} (r : Result T E) → P → OnErr r P
OnErr-anyhow (Ok x) p = tt
OnErr-anyhow (Err e) p = p
