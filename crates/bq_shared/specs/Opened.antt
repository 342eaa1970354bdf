-- What the holders have at the start.
use Rattle.std.specs.Prelude.{ℕ, zero, suc, ◌+◌, List, [], ◌∷◌}
use Rattle.bq_history.specs.declared.shared_state.Item.{Item}
use Rattle.bq_history.specs.Items.{part_item}
use Rattle.bq_parts.specs.Processors.{new_processor}
use Rattle.bq_shared.specs.declared.journal_state.JournalState.{JournalState}
use Rattle.bq_shared.specs.declared.world_part.WorldPart.{WorldPart}
use Rattle.bq_shared.specs.declared.world_part.WorldPart.TheVariants as part
use Rattle.bq_shared.specs.declared.record.Record.{Record}

-- an item of a holder
abbrev pub ItemOf : Type 0
ItemOf = Item Record WorldPart JournalState

-- the items of n processors at the start, numbered from c on
abbrev pub cpu_items : ℕ → ℕ → List ItemOf
cpu_items c zero = []
cpu_items c (suc n) = part_item (part.Cpu c new_processor) ∷ cpu_items (c + 1) n

-- the items of n inboxes at the start, numbered from c on
abbrev pub inbox_items : ℕ → ℕ → List ItemOf
inbox_items c zero = []
inbox_items c (suc n) = part_item (part.Inbox c []) ∷ inbox_items (c + 1) n
