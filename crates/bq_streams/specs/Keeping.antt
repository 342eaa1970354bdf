-- Readers and writers that keep why they failed.
use Rattle.std.specs.Prelude.{Option}
use Rattle.std.specs.declared.io.Error.{Error}
use Rattle.bq_streams.specs.declared.error_keeper.ErrorKeeper.{ErrorKeeper}

-- the reader or the writer itself
abbrev pub kept_inner : {T : Type 0} → ErrorKeeper T → T
kept_inner k = k.inner

-- the error of the last call that failed
abbrev pub failure_of : {T : Type 0} → ErrorKeeper T → Option Error
failure_of k = k.failure
