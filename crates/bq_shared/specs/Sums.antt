-- The words of the counters as sums of what accounts add.
use Rattle.std.specs.Prelude.{◌≡◌, ℕ, ◌+◌, ◌-◌, ◌<◌, ◌%◌, ◌^◌, List, [], ◌∷◌, ◌++◌, length, slice_index}
use mathlib.Core.Option.{some}
use lib.ListN.{get_elem?}
use Rattle.bq_bpf.specs.declared.board.CounterCall.{CounterCall}
use Rattle.bq_bpf.specs.declared.board.TheConstants.{COUNTERS}
use Rattle.bq_bpf.specs.Counters.{sum_of}
use Rattle.bq_history.specs.Whole.{total}
use Rattle.bq_shared.specs.declared.account.Account.{Account}

-- an account of no seat, without calls
abbrev pub seatless_account : Account
seatless_account = record { seats = 0; calls = [] }

-- the account of some seats, without calls
abbrev pub fresh_account : ℕ → Account
fresh_account n = record { seats = n; calls = [] }

-- the account after one more call
abbrev pub account_called : Account → CounterCall → Account
account_called a c = record { seats = a.seats; calls = a.calls ++ c ∷ [] }

-- two accounts as one
abbrev pub joined_accounts : Account → Account → Account
joined_accounts a b = record { seats = a.seats + b.seats; calls = a.calls ++ b.calls }

-- the account without one of its seats
abbrev pub without_one : Account → Account
without_one a = record { seats = a.seats - 1; calls = a.calls }

-- all seats are in some account, an account of no seat has no calls, and each word is the sum of what all accounts add to
-- its counter, modulo 2^64
pub record AreSums (seats : ℕ) (words : List ℕ) (accounts : List Account) : Type 0 where
  pub many : length words ≡ COUNTERS
  pub whole : total (λ (a : Account). a.seats) accounts ≡ seats
  pub blank : (by : ℕ) (a : Account) → get_elem? accounts by ≡ some a → a.seats ≡ 0 → a.calls ≡ []
  pub sums : (i : ℕ) → i < COUNTERS → slice_index words i ≡ total (λ (a : Account). sum_of i a.calls) accounts % 2 ^ 64

-- each word is the sum of what the calls add to its counter, modulo 2^64
abbrev pub AreSumsOf : List CounterCall → List ℕ → Type 0
AreSumsOf calls words = (i : ℕ) → i < COUNTERS → slice_index words i ≡ sum_of i calls % 2 ^ 64
