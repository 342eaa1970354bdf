-- What `perform` reads and writes.
use Rattle.std.specs.Prelude.{◌≡◌, ℕ, Bool, true, false, List, Option, ◌⊎◌}
use Rattle.std.specs.Io.KnownBytes.{Appends, Keeps}
use Rattle.bq_streams.specs.Writing.{AppendsPart}
use Rattle.bq_policy_file.specs.Check.{CheckWrites}
use Rattle.bq_policy_file.specs.Dis.{DisWrites}
use Rattle.bq_trace.specs.Machines.{discipline_of}
use Rattle.bq_trace.specs.Replaying.{Replays, ReplaysInPart}
use Rattle.bq_words.specs.Sizes.{processors_in}
use Rattle.bq_par.specs.Summaries.{IsHistorySummary, summary_line}
use Rattle.bq_par.specs.declared.summary.HistorySummary.{HistorySummary}
use Rattle.bq_cli.specs.Filtering.{FiltersAll, AsmFilters, AsmFiltersInPart, FilteringBreaksOff, DoesNothing}
use Rattle.bq_cli.specs.Words.{is_plain_check, is_plain_dis}
use Rattle.bq_cli.specs.declared.command.Command.{Command}
use Rattle.bq_cli.specs.declared.command.Command.TheVariants.{Asm, Check, Dis, Par, Replay}
use Rattle.bq_cli.specs.declared.par.ParWords.{ParWords}

-- The line says what a history of the scheduler that was asked for has.
abbrev pub IsParLine : ParWords → List ℕ → Type 0
IsParLine p line = (s : HistorySummary) × IsHistorySummary (discipline_of p.discipline) (processors_in p.size) p.ticks s × (line ≡ summary_line s)

-- The writer got the line.
abbrev pub WritesPar : ParWords → Option (List ℕ) → Option (List ℕ) → Type 0
WritesPar p old new = (line : List ℕ) × IsParLine p line × Appends old new line

-- The writer got nothing, or a beginning of the line.
abbrev pub WritesParInPart : ParWords → Option (List ℕ) → Option (List ℕ) → Type 0
WritesParInPart p old new = Keeps old new ⊎ ((line : List ℕ) × IsParLine p line × AppendsPart old new line)

-- Without file and options the whole input is answered; else nothing is done.
abbrev pub PerformsIf : Bool → (List ℕ → Bool → List ℕ → Type 0) → Option (List ℕ) → Option (List ℕ) → Option (List ℕ) → Option (List ℕ) → Bool → Type 0
PerformsIf true Writes from to old new accepted = FiltersAll Writes from to old new accepted
PerformsIf false Writes from to old new accepted = (accepted ≡ false) × DoesNothing from to old new

-- A command ended by a fault: there were neither file nor options, and the writer got a beginning of the answer, or nothing.
abbrev pub PerformsInPartIf : Bool → (List ℕ → Bool → List ℕ → Type 0) → Option (List ℕ) → Option (List ℕ) → Option (List ℕ) → Option (List ℕ) → Type 0
PerformsInPartIf true Writes from to old new = FilteringBreaksOff Writes from to old new
PerformsInPartIf false Writes from to old new = ⊥

-- What was read and written if a command has ended, with whether its input was accepted, or no line of it was bad. Some commands do nothing
-- here and answer false: `run`, `import`, `timeline` and `simulate`, and `check` and `dis` with a file or an option. `do_command` does those.
abbrev pub PerformsCommand : Command → Option (List ℕ) → Option (List ℕ) → Option (List ℕ) → Option (List ℕ) → Bool → Type 0
PerformsCommand (Asm w) from to old new accepted = AsmFilters w.options from to old new accepted
PerformsCommand (Check w) from to old new accepted = PerformsIf (is_plain_check w) CheckWrites from to old new accepted
PerformsCommand (Dis w) from to old new accepted = PerformsIf (is_plain_dis w) DisWrites from to old new accepted
PerformsCommand (Par p) from to old new accepted = (to ≡ from) × (accepted ≡ true) × WritesPar p old new
PerformsCommand (Replay w) from to old new clean = Replays from to old new clean
PerformsCommand other from to old new accepted = (accepted ≡ false) × DoesNothing from to old new

-- What was read and written if it ended by a fault.
abbrev pub PerformsInPart : Command → Option (List ℕ) → Option (List ℕ) → Option (List ℕ) → Option (List ℕ) → Type 0
PerformsInPart (Asm w) from to old new = AsmFiltersInPart w.options from to old new
PerformsInPart (Check w) from to old new = PerformsInPartIf (is_plain_check w) CheckWrites from to old new
PerformsInPart (Dis w) from to old new = PerformsInPartIf (is_plain_dis w) DisWrites from to old new
PerformsInPart (Par p) from to old new = (to ≡ from) × WritesParInPart p old new
PerformsInPart (Replay w) from to old new = ReplaysInPart from to old new
PerformsInPart other from to old new = ⊥
