-- The calls of counters in records.
use Rattle.std.specs.Prelude.{◌≡◌, ℕ, zero, suc, ◌+◌, List, [], ◌∷◌, ◌++◌, length}
use Rattle.bq_bpf.specs.declared.board.CounterCall.{CounterCall}
use Rattle.bq_history.specs.declared.shared_state.Receipt.{Receipt}
use Rattle.bq_history.specs.Callers.{receipts_of}
use Rattle.bq_shared.specs.declared.account.Account.{Account}
use Rattle.bq_shared.specs.declared.working.Working.{Working}

module _ {R : Type 0} (calls : R → List CounterCall) where
  -- the calls in some records
  abbrev pub calls_in : List R → List CounterCall
  calls_in [] = []
  calls_in (r ∷ rs) = calls r ++ calls_in rs

  -- the calls in some receipts
  abbrev pub calls_of : List (Receipt R) → List CounterCall
  calls_of [] = []
  calls_of (x ∷ xs) = calls x.entry ++ calls_of xs

  -- the account of a seat with these receipts
  abbrev pub account_of : List (Receipt R) → Account
  account_of xs = record { seats = 1; calls = calls_of xs }

  -- what the seat holds is in step: its account has exactly the calls in its receipts
  abbrev pub AccountMatchesReceipts : {P D N : Type 0} → Working R P D N → Type 0
  AccountMatchesReceipts working = working.account ≡ account_of (receipts_of working.caller)

  -- the account of such a seat after further calls, which no receipt has yet
  abbrev pub ahead : List (Receipt R) → List CounterCall → Account
  ahead xs [] = account_of xs
  ahead xs (c ∷ cs) = record { seats = 1; calls = calls_of xs ++ c ∷ cs }

  -- the calls in the receipts of all callers
  abbrev pub calls_by : List (ℕ × List (Receipt R)) → List CounterCall
  calls_by [] = []
  calls_by (c ∷ cs) = calls_of (receipts_of c) ++ calls_by cs

  -- the account of all these callers together
  abbrev pub account_by : List (ℕ × List (Receipt R)) → Account
  account_by callers = record { seats = length callers; calls = calls_by callers }

-- n callers without receipts, numbered from s on
abbrev pub fresh_callers : {R : Type 0} → ℕ → ℕ → List (ℕ × List (Receipt R))
fresh_callers s zero = []
fresh_callers s (suc n) = (s, []) ∷ fresh_callers (s + 1) n
