-- What each line of a trace does, and what is reported of it.
use Rattle.std.specs.Prelude.{◌≡◌, ◌≢◌, ℕ, Bool, true, false, ◌&&◌, not, List, [], ◌∷◌, ◌++◌, ◌⊎◌, map, Option, Some, None, Result, Ok, Err, slice_index, nat_lt, if◌then◌else◌}
use Rattle.std.specs.List.{AllByRecursion}
use Rattle.std.specs.Str.Lines.{strip_carriage_return}
use Rattle.hex.specs.declared.error.FromHexError.{FromHexError}
use Rattle.hex.specs.Hex.{decode_of}
use Rattle.bq_verify.specs.Accepted.{Accepted}
use Rattle.bq_bpf.specs.declared.board.TheConstants.{COUNTERS}
use Rattle.bq_hooks.specs.declared.hook.Hook.{Hook}
use Rattle.bq_load.specs.Answers.{Loads, IsUnloaded}
use Rattle.bq_load.specs.declared.fault.LoadFault.{LoadFault}
use Rattle.bq_load.specs.declared.fault.LoadFault.TheVariants as fault
use Rattle.bq_parts.specs.declared.event.Event.{Event}
use Rattle.bq_parts.specs.declared.event.Event.TheVariants.{Install, BeginWake, EndWake}
use Rattle.bq_parts.specs.declared.reply.Reply.{Reply}
use Rattle.bq_parts.specs.declared.refusal.Refusal.{Refusal}
use Rattle.bq_parts.specs.declared.refusal.Refusal.TheVariants as no
use Rattle.bq_lines.specs.Kept.{IsOneLine, KeepsLine, short_line}
use Rattle.bq_lines.specs.Lines.{reading_of_short_line}
use Rattle.bq_lines.specs.declared.command.LineCommand.TheVariants.{Machine, Does, Wake, Load, Show, Counter}
use Rattle.bq_lines.specs.declared.command.LineReading.{LineReading}
use Rattle.bq_lines.specs.declared.command.LineReading.TheVariants as reads
use Rattle.bq_parts.specs.Events.{without_policy}
use Rattle.bq_streams.specs.Counts.{one_more}
use Rattle.bq_trace.specs.Feeding.{with_feeds}
use Rattle.bq_trace.specs.Machines.{TraceMachine, AdvancesMachine, opening_machine}
use Rattle.bq_trace.specs.TraceEvents.{Reported, Opened, Skipped, Comes, Answered, NotHex, NotLoaded, ProcessorAsked, CounterRead, Bad}
use Rattle.bq_trace.specs.declared.loading.Installation.{Installation}
use Rattle.bq_trace.specs.declared.phase.Phase.{Phase}
use Rattle.bq_trace.specs.declared.phase.Phase.TheVariants.{Waiting, Abandoned, Running}
use Rattle.bq_trace.specs.declared.progress.Progress.{Progress}
use Rattle.bq_trace.specs.declared.trace_position.TracePosition.{TracePosition}

-- Line n brings an event, which is reported before it is done, and with its answer after. The reports leave out the policy that
-- it brings. Lack of memory is no answer.
pub record Happens (m : TraceMachine) (n : ℕ) (event : Event) (answer : Result Reply Refusal) (reported : Reported) (k : TraceMachine) : Type 0 where
  pub answered : answer ≢ Err no.OutOfMemory
  pub moves : AdvancesMachine m event answer k
  pub reports : reported ≡ (n, Comes (without_policy event) m) ∷ (n, Answered (without_policy event) answer k) ∷ []

-- What follows the begin of a wake: its end, or nothing if the begin was refused.
abbrev pub EndHappens : Result Reply Refusal → TraceMachine → ℕ → ℕ → ℕ → Reported → TraceMachine → Type 0
EndHappens (Err refusal) m n c now reported k = (reported ≡ []) × (k ≡ m)
EndHappens (Ok begun) m n c now reported k = (answer : Result Reply Refusal) × Happens m n (EndWake c now) answer reported k

-- A wake is a begin and what follows the begin. Both are reported.
pub record WakeHappens (m : TraceMachine) (n c task now : ℕ) (reported : Reported) (k : TraceMachine) : Type 0 where
  pub begun : Result Reply Refusal
  pub mid : TraceMachine
  pub first : Reported
  pub more : Reported
  pub begins : Happens m n (BeginWake c task) begun first mid
  pub ends : EndHappens begun mid n c now more k
  pub whole : reported ≡ first ++ more

-- the word of an image is not hex: that is reported, and the machine stays as it is
abbrev pub HexRefusalHappens : TraceMachine → ℕ → List ℕ → Reported → TraceMachine → Type 0
HexRefusalHappens m n image reported k = (error : FromHexError) × (decode_of image ≡ Err error) × (reported ≡ (n, NotHex) ∷ []) × (k ≡ m)

-- the word spells bytes that do not load: that is reported, and the machine stays as it is
abbrev pub ImageRefusalHappens : TraceMachine → ℕ → List ℕ → Reported → TraceMachine → Type 0
ImageRefusalHappens m n image reported k =
    (bytes : List ℕ) × (why : LoadFault) × (decode_of image ≡ Ok bytes) × IsUnloaded bytes why × (why ≢ fault.OutOfMemory) × (reported ≡ (n, NotLoaded why) ∷ []) × (k ≡ m)

-- the word spells the image of a program that is accepted, and its policy is installed as an event
abbrev pub InstallHappens : TraceMachine → ℕ → ℕ → Hook → ℕ → List ℕ → Reported → TraceMachine → Type 0
InstallHappens m n c hook generation image reported k =
    (bytes : List ℕ) × (policy : Accepted) × (answer : Result Reply Refusal) × (decode_of image ≡ Ok bytes) × Loads bytes policy
    × Happens m n (Install c hook generation (Some policy)) answer reported k

-- An image is refused and nothing happens, or its policy is installed as an event. Either is reported.
abbrev pub LoadHappens : TraceMachine → ℕ → ℕ → Hook → ℕ → List ℕ → Reported → TraceMachine → Type 0
LoadHappens m n c hook generation image reported k =
    HexRefusalHappens m n image reported k ⊎ (ImageRefusalHappens m n image reported k ⊎ InstallHappens m n c hook generation image reported k)

-- `LoadHappens`, as an installation asks for it.
abbrev pub InstallationHappens : TraceMachine → ℕ → Installation → Reported → TraceMachine → Type 0
InstallationHappens m n i reported k = LoadHappens m n i.processor i.hook i.generation i.image reported k

-- what is reported of a line that says nothing. `None` stands for a line that is too long; it does not occur here, as such a line is bad
abbrev pub skips : ℕ → Option (List ℕ) → Reported
skips n None = []
skips n (Some line) = (n, Skipped line) ∷ []

-- What line n does in a phase, by what was kept of the line and what it says: the report, the next phase, and whether it is bad.
abbrev pub Reports : Phase → ℕ → Option (List ℕ) → LineReading → Reported → Phase → Bool → Type 0
Reports Abandoned n line reading reported after bad = (reported ≡ []) × (after ≡ Abandoned) × (bad ≡ false)
Reports Waiting n line reads.Skipped reported after bad = (reported ≡ skips n line) × (after ≡ Waiting) × (bad ≡ false)
Reports Waiting n line (reads.Asks (Machine discipline size)) reported after bad =
    (reported ≡ (n, Opened discipline size) ∷ []) × (after ≡ Running (opening_machine discipline size)) × (bad ≡ false)
Reports Waiting n line reading reported after bad = (reported ≡ (n, Bad line) ∷ []) × (after ≡ Abandoned) × (bad ≡ true)
Reports (Running m) n line reads.Skipped reported after bad = (reported ≡ skips n line) × (after ≡ Running m) × (bad ≡ false)
Reports (Running m) n line (reads.Asks (Does event)) reported after bad =
    (k : TraceMachine) × (answer : Result Reply Refusal) × Happens m n event answer reported k × (after ≡ Running k) × (bad ≡ false)
Reports (Running m) n line (reads.Asks (Wake c task now)) reported after bad = (k : TraceMachine) × WakeHappens m n c task now reported k × (after ≡ Running k) × (bad ≡ false)
Reports (Running m) n line (reads.Asks (Load c hook generation image)) reported after bad =
    (k : TraceMachine) × LoadHappens m n c hook generation image reported k × (after ≡ Running k) × (bad ≡ false)
Reports (Running m) n line (reads.Asks (Counter i)) reported after bad =
    (reported ≡ (if nat_lt i COUNTERS then (n, CounterRead i (slice_index m.counters i)) ∷ [] else (n, Bad line) ∷ [])) × (after ≡ Running m) × (bad ≡ not (nat_lt i COUNTERS))
Reports (Running m) n line (reads.Asks (Show c)) reported after bad = (reported ≡ (n, ProcessorAsked c m) ∷ []) × (after ≡ Running m) × (bad ≡ false)
Reports (Running m) n line (reads.Asks (Machine discipline size)) reported after bad = (reported ≡ (n, Bad line) ∷ []) × (after ≡ Running m) × (bad ≡ true)
Reports (Running m) n line reads.Bad reported after bad = (reported ≡ (n, Bad line) ∷ []) × (after ≡ Running m) × (bad ≡ true)

-- What one line after p does, by what was kept of it: the report, and the state after the line.
pub record ReportsShortLine (p : Progress) (line : Option (List ℕ)) (reported : Reported) (q : Progress) : Type 0 where
  pub counted : q.line ≡ one_more p.line
  pub bad : Bool
  pub reports : Reports p.phase q.line line (reading_of_short_line line) reported q.phase bad
  pub clean : q.clean ≡ (p.clean && not bad)

-- what one line after p does
abbrev pub ReportsLine : Progress → List ℕ → Reported → Progress → Type 0
ReportsLine p line reported q = ReportsShortLine p (short_line line) reported q

-- What lines do in order, each in the state that the one before it left.
abbrev pub Story : Progress → List (List ℕ) → Reported → Progress → Type 0
Story p [] reported q = (reported ≡ []) × (q ≡ p)
Story p (line ∷ others) reported q =
    (m : Progress) × (first : Reported) × (more : Reported) × ReportsLine p line first m × Story m others more q × (reported ≡ first ++ more)

-- The piece continues the line that has begun. The lines that end in it are reported, and the rest begins the next line.
pub record ReportsPiece (s : TracePosition) (begun piece : List ℕ) (reported : Reported) (t : TracePosition) : Type 0 where
  pub ended : List (List ℕ)
  pub rest : List ℕ
  pub whole : begun ++ piece ≡ with_feeds ended ++ rest
  pub each : AllByRecursion IsOneLine ended
  pub story : Story s.progress (map strip_carriage_return ended) reported t.progress
  pub stands : KeepsLine t.begun rest
