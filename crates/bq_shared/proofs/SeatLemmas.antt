-- One turn of the loop that makes the seats.
use Rattle.std.proofs.Common.{◌≡◌, ℕ, zero, suc, ◌+◌, ◌-◌, ◌<◌, List, [], ◌∷◌, ◌++◌, ap, ◌∙◌, arith}
use Rattle.bq_history.specs.Items.{callers_from}
use Rattle.bq_history.specs.declared.shared_state.Item.{Item}
use Rattle.bq_shared.specs.Sums.{fresh_account, without_one}
use Rattle.bq_history.specs.declared.shared_state.Receipt.{Receipt}
use Rattle.bq_shared.specs.Calls.{fresh_callers}

-- one less is left after a turn
pub left_over : (i n : ℕ) → i < n → n - i ≡ suc (n - (i + 1))
left_over i n b = omega arith

-- the callers that are left, with the next one first
pub caller_turn : {R P D : Type 0} (i n : ℕ) → i < n
    → let l : List (Item R P D) = callers_from i (n - i) in l ≡ callers_from i (suc (n - (i + 1)))
caller_turn i n b = ap (λ (k : ℕ). callers_from i k) (left_over i n b)

-- the account that is left, without the next seat
pub account_turn : (i n : ℕ) → i < n → without_one (fresh_account (n - i)) ≡ fresh_account (n - (i + 1))
account_turn i n b = ap fresh_account (let e : n - i - 1 ≡ n - (i + 1) = omega arith in e)

-- one more fresh seat at the end
pub fresh_more : {R : Type 0} (s n : ℕ) → let l : List (ℕ × List (Receipt R)) = fresh_callers s (suc n) in l ≡ fresh_callers s n ++ (s + n, []) ∷ []
fresh_more s zero = ap (λ (k : ℕ). (k, []) ∷ []) (omega arith)
fresh_more s (suc n) = ap (λ ys. (s, []) ∷ ys) (fresh_more (s + 1) n ∙ ap (λ (k : ℕ). fresh_callers (s + 1) n ++ (k, []) ∷ []) (omega arith))
