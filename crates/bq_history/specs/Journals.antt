-- A journal, as contracts see it: a pair of the records so far and what is kept of the world that they lead to.
use Rattle.std.specs.Prelude.{◌≡◌, ◌+◌, ◌<◌, ◌^◌, List, [], ◌∷◌, ◌++◌, length, Option, None, Some}
use Rattle.bq_history.specs.declared.shared_state.Receipt.{Receipt}

-- what is kept of the world after a commit: what the commit hands in, or what was kept if it hands in nothing
abbrev pub kept_after : {D : Type 0} → D → Option D → D
kept_after d None = d
kept_after d (Some e) = e

module _ {R D : Type 0} where
  -- the records of the journal, in order
  abbrev pub records_of : List R × D → List R
  records_of journal = journal.0

  -- what the journal keeps of the world
  abbrev pub kept_of : List R × D → D
  kept_of journal = journal.1

  -- the journal after a commit of this record, which hands in what is kept from then on, or nothing if that does not change
  abbrev pub with_record : R → Option D → List R × D → List R × D
  with_record entry kept journal = (journal.0 ++ entry ∷ [], kept_after journal.1 kept)

  -- the history has a free place, for another record
  abbrev pub HasFreePlace : List R × D → Type 0
  HasFreePlace journal = length journal.0 + 1 < 2 ^ 64

  -- the receipt is for this record, at the place after all records of the journal
  abbrev pub IsNextReceipt : R → List R × D → Receipt R → Type 0
  IsNextReceipt entry journal receipt = (receipt.place ≡ length journal.0) × (receipt.entry ≡ entry)
