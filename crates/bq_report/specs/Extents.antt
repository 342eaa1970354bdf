-- The time over which a picture is drawn.
use Rattle.std.specs.Prelude.{◌≡◌, ℕ, ◌<◌, ◌≤◌, max, min, Some, IsSome}
use Rattle.bq_schedule.specs.Figures.{Figures, processor_in_figures}
use Rattle.bq_report.specs.declared.window.Window.{Window}
use Rattle.bq_report.specs.declared.extent.Extent.{Extent}
use Rattle.bq_report.specs.Windows.{ShowsProcessor}

-- the extent is not empty, and is inside the window
pub record IsInWindow (w : Window) (e : Extent) : Type 0 where
  pub lasts : e.from < e.to
  pub begun : w.from ≤ e.from
  pub not_over : e.to ≤ w.to

-- this moment is the first reading of a processor that is shown
pub record IsFirstReading (w : Window) (s : Figures) (at : ℕ) : Type 0 where
  pub processor : ℕ
  pub shown : ShowsProcessor w processor
  pub first : (processor_in_figures s processor).first ≡ Some at

-- this moment is the last reading of a processor that is shown and was read
pub record IsLastReading (w : Window) (s : Figures) (at : ℕ) : Type 0 where
  pub processor : ℕ
  pub shown : ShowsProcessor w processor
  pub was_read : IsSome (processor_in_figures s processor).first
  pub last : (processor_in_figures s processor).last ≡ at

-- n is the least number for which this holds
pub record IsEarliestReading (Holds : ℕ → Type 0) (n : ℕ) : Type 0 where
  pub holds : Holds n
  pub least : (other : ℕ) → Holds other → n ≤ other

-- n is the greatest number for which this holds
pub record IsLatestReading (Holds : ℕ → Type 0) (n : ℕ) : Type 0 where
  pub holds : Holds n
  pub bounds : (other : ℕ) → Holds other → other ≤ n

-- the extent reaches from the earliest first reading of the shown processors to their latest last reading, cut at the edges of the
-- window
pub record SpansReadings (w : Window) (s : Figures) (e : Extent) : Type 0 where
  pub earliest : ℕ
  pub latest : ℕ
  pub is_earliest : IsEarliestReading (IsFirstReading w s) earliest
  pub is_latest : IsLatestReading (IsLastReading w s) latest
  pub begins : e.from ≡ max w.from earliest
  pub ends : e.to ≡ min w.to latest
