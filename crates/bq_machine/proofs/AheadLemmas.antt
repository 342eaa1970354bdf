-- What an account is ahead of its receipts by.
use Rattle.std.proofs.Common.{◌≡◌, List, sym, ap, ◌∙◌}
use Rattle.bq_bpf.specs.declared.board.CounterCall.{CounterCall}
use Rattle.bq_bpf.specs.Counters.{Through}
use Rattle.bq_history.specs.declared.shared_state.Receipt.{Receipt}
use Rattle.bq_shared.specs.declared.account.Account.{Account}
use Rattle.bq_shared.specs.Sums.{account_called}
use Rattle.bq_shared.specs.Calls.{account_of, ahead}
use Rattle.bq_shared.proofs.AccountLemmas.{goes_ahead}
use Rattle.bq_shared.specs.declared.record.Record.{Record}
use Rattle.bq_shared.specs.Parts.{reported_calls}

-- an account that went over a counter board is ahead by the calls that were made there
pub ahead_of : {B : Type 0} (account : B → Account) (b d : B) (xs ys : List (Receipt Record))
    (made : List CounterCall) (a : Account)
    → account b ≡ account_of reported_calls xs
    → Through (λ (old : B) (c : CounterCall) (new : B). account new ≡ account_called (account old) c) b made d
    → a ≡ account d → ys ≡ xs
    → a ≡ ahead reported_calls ys made
ahead_of account b d xs ys made a e t s same =
    s ∙ (goes_ahead reported_calls account b d xs made e t ∙ ap (λ zs. ahead reported_calls zs made) (sym same))
