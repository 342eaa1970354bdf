-- Readers with a limit.
use Rattle.std.specs.Prelude.{ℕ, ◌+◌, ◌-◌, ◌^◌, Bool, false, nat_lt, Option, Some, None, Result, IsErrAnd, min, ◌≡◌}
use Rattle.std.specs.IoError.{error_kind}
use Rattle.std.specs.declared.io.Error.{Error}
use Rattle.std.specs.declared.io.ErrorKind.TheVariants as kind
use Rattle.bq_console.specs.declared.bounded.Bounded.{Bounded}

-- the reader itself
abbrev pub bounded_inner : {R : Type 0} → Bounded R → R
bounded_inner b = b.inner

-- the limit: how many bytes are allowed; None if any number is
abbrev pub limit_of : {R : Type 0} → Bounded R → Option ℕ
limit_of b = b.most

-- how many bytes the reader has given; 2^64 - 1 is also for any greater number
abbrev pub given_by : {R : Type 0} → Bounded R → ℕ
given_by b = b.given

-- how many bytes have been given after a read that gives `count` more
abbrev pub given_after : ℕ → ℕ → ℕ
given_after given count = min (given + count) (2 ^ 64 - 1)

-- whether more bytes were given than a limit allows
abbrev pub is_past_limit : Option ℕ → ℕ → Bool
is_past_limit None given = false
is_past_limit (Some most) given = nat_lt most given

-- a read fails because more bytes were given than the limit allows
abbrev pub FailsByLimit : Result ℕ Error → Type 0
FailsByLimit result = IsErrAnd result (λ error. error_kind error ≡ kind.FileTooLarge)
