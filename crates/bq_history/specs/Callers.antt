-- A caller, as contracts see it: a pair of its number and its receipts, in order.
use Rattle.std.specs.Prelude.{ℕ, List, [], ◌∷◌, ◌++◌}
use Rattle.bq_history.specs.declared.shared_state.Receipt.{Receipt}

module _ {R : Type 0} where
  -- the number of the caller
  abbrev pub number_of : ℕ × List (Receipt R) → ℕ
  number_of caller = caller.0

  -- the receipts of the caller, in order
  abbrev pub receipts_of : ℕ × List (Receipt R) → List (Receipt R)
  receipts_of caller = caller.1

  -- the caller with further receipts at the end
  abbrev pub with_receipts : List (Receipt R) → ℕ × List (Receipt R) → ℕ × List (Receipt R)
  with_receipts receipts caller = (caller.0, caller.1 ++ receipts)

  -- the caller with one more receipt at the end
  abbrev pub with_receipt : Receipt R → ℕ × List (Receipt R) → ℕ × List (Receipt R)
  with_receipt receipt caller = (caller.0, caller.1 ++ receipt ∷ [])
