-- The summary of a parallel run.
use Rattle.std.specs.Prelude.{◌≡◌, ℕ, ◌*◌, List, ◌++◌, length, codes}
use Rattle.std.specs.Fmt.{decimal}
use Rattle.bq_disc.specs.Discipline.{Discipline}
use Rattle.bq_history.specs.Whole.{total, Each}
use Rattle.bq_history.specs.Callers.{receipts_of}
use Rattle.bq_history.specs.History.{EachOnce, IsHistory, AreReceiptsOf}
use Rattle.bq_history.specs.declared.shared_state.Receipt.{Receipt}
use Rattle.bq_parts.specs.World.{World, opening_world}
use Rattle.bq_shared.specs.Parts.{RecordStep}
use Rattle.bq_shared.specs.declared.record.Record.{Record}
use Rattle.bq_par.specs.Shifts.{DidShift}
use Rattle.bq_par.specs.Ticks.{ticks_in}
use Rattle.bq_par.specs.declared.summary.HistorySummary.{HistorySummary}

-- The summary has the history of a machine of that many processors under the discipline, each asked for that many ticks, and
-- the history's numbers
pub record IsHistorySummary (d : Discipline) (processors ticks : ℕ) (s : HistorySummary) : Type 0 where
  pub world : World
  pub callers : List (ℕ × List (Receipt Record))
  -- each record is a step of the scheduler
  pub is_history : IsHistory (RecordStep d) (opening_world processors) s.history world
  -- the receipts of the callers share the records out, each at its place
  pub receipts : AreReceiptsOf s.history callers
  -- There is exactly one caller for each processor, with the processor's number, and its receipts are those of the
  -- processor's shift: its task is admitted, woken and drained there, and then it ticks exactly as often as was asked for
  pub many : length callers ≡ processors
  pub numbers : EachOnce processors callers
  pub shifts : Each (DidShift ticks) callers
  -- the numbers: how many records there are, how many of them are ticks, and how many receipts the history confirms, which
  -- is all of them
  pub events : s.events ≡ length s.history
  pub ticked : s.ticks ≡ ticks_in s.history
  pub asked : s.ticks ≡ processors * ticks
  pub confirmed : s.confirmed ≡ total (λ c. length (receipts_of c)) callers

-- the line of text with these numbers
abbrev pub summary_line : HistorySummary → List ℕ
summary_line s = codes "events " ++ (decimal s.events ++ (codes " ticks " ++ (decimal s.ticks ++ (codes " confirmed " ++ (decimal s.confirmed ++ codes "\n")))))
