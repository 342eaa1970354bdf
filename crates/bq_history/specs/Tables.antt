-- Tables of words, and the pairs in which contracts see them.
use Rattle.std.specs.Prelude.{◌≡◌, ℕ, List}
use Rattle.atomic_table.specs.Table.{Me}
use Rattle.atomic_table.specs.Seated.{TableId}

-- the table has n words and no slots
abbrev pub IsOfWords : ℕ → TableId → Type 0
IsOfWords n table = (table.words ≡ n) × (table.slots ≡ 0)

module _ {S : Type 0} where
  -- the table of what has no name yet
  abbrev pub table_of : TableId × S → TableId
  table_of unnamed = unnamed.0

  -- what is fixed at the start, of what has no name yet
  abbrev pub start_of : TableId × S → S
  start_of unnamed = unnamed.1

module _ {A V : Type 0} where
  -- the view of a seat of a table: what its owner knows
  abbrev pub view_of : Me A V → V
  view_of seat = seat.0

  -- the slots that a seat of a table holds
  abbrev pub slots_of : Me A V → List (ℕ × A)
  slots_of seat = seat.1
