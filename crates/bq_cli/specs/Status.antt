-- The exit statuses.
use Rattle.std.specs.Prelude.{◌≡◌, ◌⊎◌, ℕ, Result, Ok, Err}
use Rattle.std.specs.declared.alloc.AllocError.{AllocError}
use Rattle.bq_policy_check.specs.declared.answered.Answered.{Answered}
use Rattle.bq_policy_check.specs.declared.answered.Answered.TheVariants.{Done, Refused, Words}

-- the exit status of an answer
abbrev pub answer_status : Result Answered AllocError → ℕ
answer_status (Ok (Done text)) = 0
answer_status (Ok (Refused text)) = 1
answer_status (Ok (Words text)) = 2
answer_status (Err e) = 3

-- a command ends with this status, unless its answer can't be written: then with 3 if memory ran out, and with 4 otherwise
abbrev pub EndsBy : ℕ → ℕ → Type 0
EndsBy status ended = (ended ≡ status) ⊎ ((ended ≡ 3) ⊎ (ended ≡ 4))
