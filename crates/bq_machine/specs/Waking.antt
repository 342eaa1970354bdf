-- What the receipts of a wake say, and what a processor's holder says meanwhile.
use Rattle.std.specs.Prelude.{◌≡◌, ◌⊎◌, ◌↔◌, ℕ, [], ◌∷◌, IfErr, IfSome, IsOk, IsSome}
use Rattle.bq_parts.specs.declared.event.Event.TheVariants.{BeginWake, EndWake}
use Rattle.bq_parts.specs.declared.refusal.Refusal.TheVariants as no
use Rattle.bq_history.specs.declared.cell.Cell.{Cell}
use Rattle.bq_history.specs.Items.{part_item}
use Rattle.bq_shared.specs.declared.cells.NumberedCpu.{NumberedCpu}
use Rattle.bq_shared.specs.declared.journal_state.JournalState.{JournalState}
use Rattle.bq_shared.specs.declared.world_part.WorldPart.{WorldPart}
use Rattle.bq_shared.specs.declared.record.Record.{Record}
use Rattle.bq_shared.specs.Parts.{cpu_part}
use Rattle.bq_machine.specs.Calls.{RecordsAtReading}
use Rattle.bq_machine.specs.Placing.{WasPlaced}
use Rattle.bq_machine.specs.declared.waking_calls.WakeReceipts.{WakeReceipts}

-- the holder of the processor says what the processor is now
abbrev pub HoldsItsPart : {Q R N : Type 0} → Cell (NumberedCpu Q R) Record WorldPart JournalState N → Type 0
HoldsItsPart cpu = cpu.holder ≡ part_item (cpu_part cpu.content.number cpu.content.state) ∷ []

-- A wake of the task at the processor began, or was refused for what the lobby has. The wake ended exactly when it began, at
-- a reading that the clock may give
pub record IsWake (gives : ℕ → Type 0) (processor task : ℕ) (w : WakeReceipts) : Type 0 where
  pub begin : w.begin.entry.event ≡ BeginWake processor task
  pub begun : IfErr w.begin.entry.reply (λ e. (e ≡ no.NoTask) ⊎ (e ≡ no.NotBlocked))
  pub end : IfSome w.end (λ r. RecordsAtReading gives (λ now. EndWake processor now) r)
  pub placed : IfSome w.end (λ r. WasPlaced task r.entry.reply)
  pub ended : IsSome w.end ↔ IsOk w.begin.entry.reply
