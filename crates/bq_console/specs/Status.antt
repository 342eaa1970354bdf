-- The exit statuses.
use Rattle.std.specs.Prelude.{◌≡◌, ◌≢◌, ◌⊎◌, ℕ, Bool, true, false, Result, Ok, Err}
use Rattle.std.specs.Process.{exit_status}
use Rattle.std.specs.declared.process.ExitCode.{ExitCode}
use Rattle.std.specs.declared.io.ErrorKind.{ErrorKind}
use Rattle.std.specs.declared.io.ErrorKind.TheVariants as kind
use Rattle.bq_console.specs.declared.fault.WordsFault.{WordsFault}
use Rattle.bq_console.specs.declared.fault.WordsFault.TheVariants as fault
use Rattle.bq_streams.specs.declared.fault.StreamFault.{StreamFault}
use Rattle.bq_streams.specs.declared.fault.StreamFault.TheVariants.{Read, Write, TooLong, OutOfMemory}

-- the exit status of an outcome
abbrev pub status_of : Result Bool StreamFault → ℕ
status_of (Ok true) = 0
status_of (Ok false) = 1
status_of (Err OutOfMemory) = 3
status_of (Err Read) = 4
status_of (Err Write) = 4
status_of (Err TooLong) = 4

-- the status of words that ask for nothing, or for whose message memory ran out
abbrev pub refused_status : WordsFault → ℕ
refused_status (fault.Words text) = 2
refused_status fault.OutOfMemory = 3

-- the exit status of a program of which a call to the system failed: 3 if memory ran out, and 4 otherwise
pub record EndsFor (failed : ErrorKind) (code : ExitCode) : Type 0 where
  pub memory : failed ≡ kind.OutOfMemory → exit_status code ≡ 3
  pub other : failed ≢ kind.OutOfMemory → exit_status code ≡ 4

-- the exit status of a program of which some call to the system failed: 3 or 4
abbrev pub EndsFailed : ExitCode → Type 0
EndsFailed code = (exit_status code ≡ 3) ⊎ (exit_status code ≡ 4)
