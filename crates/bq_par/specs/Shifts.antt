-- What one thread of a parallel run does: the shift of its processor.
use Rattle.std.specs.Prelude.{◌≡◌, ◌↔◌, ℕ, ◌-◌, ◌^◌, pos, List, [], ◌∷◌, ◌++◌, length, Option, IfSome, IsOk, IsSome}
use Rattle.std.specs.Option.{option_to_list}
use Rattle.bq_disc.specs.declared.limits.TheConstants.{DEFAULT_SLICE}
use Rattle.bq_history.specs.Whole.{Each}
use Rattle.bq_history.specs.Callers.{number_of, receipts_of}
use Rattle.bq_history.specs.declared.shared_state.Receipt.{Receipt}
use Rattle.bq_parts.specs.declared.event.Event.TheVariants.{Admit, BeginWake, EndWake, Drain, Tick}
use Rattle.bq_shared.specs.declared.record.Record.{Record}

-- the receipt is for a tick of that processor
abbrev pub IsTickAt : ℕ → Receipt Record → Type 0
IsTickAt p r = (now : ℕ) × (r.entry.event ≡ Tick p now)

-- The processor's task, whose id is the processor's number, is admitted for all processors, then woken and drained at this
-- one. The wake ends exactly when its beginning was not refused
pub record IsShiftStart (p : ℕ) (l : List (Receipt Record)) : Type 0 where
  pub admit : Receipt Record
  pub begin : Receipt Record
  pub end : Option (Receipt Record)
  pub drain : Receipt Record
  pub whole : l ≡ admit ∷ begin ∷ (option_to_list end ++ drain ∷ [])
  pub admitted : admit.entry.event ≡ Admit p (pos 0) (2 ^ 64 - 1) DEFAULT_SLICE
  pub begun : begin.entry.event ≡ BeginWake p p
  pub woken : IfSome end (λ (r : Receipt Record). (now : ℕ) × (r.entry.event ≡ EndWake p now))
  pub ended : IsSome end ↔ IsOk begin.entry.reply
  pub drained : (now : ℕ) × (drain.entry.event ≡ Drain p now)

-- the receipts after are the receipts before, then this many ticks of the processor
pub record TicksMore (p ticks : ℕ) (before after : List (Receipt Record)) : Type 0 where
  pub beats : List (Receipt Record)
  pub behind : after ≡ before ++ beats
  pub many : length beats ≡ ticks
  pub each : Each (IsTickAt p) beats

-- the receipts of a shift: the processor's task is admitted, woken and drained there, then the processor ticks this many times
pub record IsShift (p ticks : ℕ) (l : List (Receipt Record)) : Type 0 where
  pub start : List (Receipt Record)
  pub started : IsShiftStart p start
  pub ticked : TicksMore p ticks start l

-- the caller's receipts are those of the shift of the processor with the caller's number
abbrev pub DidShift : ℕ → ℕ × List (Receipt Record) → Type 0
DidShift ticks caller = IsShift (number_of caller) ticks (receipts_of caller)
