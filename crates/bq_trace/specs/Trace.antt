-- The answers to a trace's lines (this project's own trace format).
use Rattle.std.specs.Prelude.{◌≡◌, ℕ, Bool, true, false, ◌&&◌, not, List, [], ◌∷◌, ◌++◌, Option, Result, Ok, Err, slice_index, nat_lt, if◌then◌else◌}
use Rattle.std.specs.Str.Lines.{lines}
use Rattle.bq_bpf.specs.declared.board.TheConstants.{COUNTERS}
use Rattle.bq_parts.specs.declared.event.Event.TheVariants.{BeginWake, EndWake}
use Rattle.bq_parts.specs.declared.reply.Reply.{Reply}
use Rattle.bq_parts.specs.declared.refusal.Refusal.{Refusal}
use Rattle.bq_streams.specs.Counts.{one_more}
use Rattle.bq_trace.specs.Machines.{TraceMachine, opening_machine}
use Rattle.bq_trace.specs.Doing.{DoesAndAnswers}
use Rattle.bq_trace.specs.Loading.{LoadsAndAnswers}
use Rattle.bq_streams.specs.Writing.{AppendsPart}
use Rattle.bq_lines.specs.Lines.{reading_of}
use Rattle.bq_trace.specs.Texts.{bad_line, show_line, counter_line}
use Rattle.bq_lines.specs.declared.command.LineCommand.TheVariants.{Machine, Does, Wake, Load, Show, Counter}
use Rattle.bq_lines.specs.declared.command.LineReading.{LineReading}
use Rattle.bq_lines.specs.declared.command.LineReading.TheVariants.{Skipped, Bad, Asks}
use Rattle.bq_trace.specs.declared.phase.Phase.{Phase}
use Rattle.bq_trace.specs.declared.phase.Phase.TheVariants.{Waiting, Abandoned, Running}
use Rattle.bq_trace.specs.declared.progress.Progress.{Progress}

-- What follows the begin of a wake: its end, or nothing if the begin was refused.
abbrev pub EndsWake : Result Reply Refusal → TraceMachine → ℕ → ℕ → List ℕ → TraceMachine → Type 0
EndsWake (Err refusal) m c now text n = (text ≡ []) × (n ≡ m)
EndsWake (Ok begun) m c now text n = (answer : Result Reply Refusal) × DoesAndAnswers m (EndWake c now) answer text n

-- A wake is a begin and what follows the begin; the text answers both.
pub record AnswersWake (m : TraceMachine) (c task now : ℕ) (text : List ℕ) (n : TraceMachine) : Type 0 where
  pub begun : Result Reply Refusal
  pub mid : TraceMachine
  pub first : List ℕ
  pub more : List ℕ
  pub begins : DoesAndAnswers m (BeginWake c task) begun first mid
  pub ends : EndsWake begun mid c now more n
  pub whole : text ≡ first ++ more

-- The answer to the line of this number in a phase, the phase after it, and whether the line was called bad.
abbrev pub AnswersAtPhase : Phase → LineReading → ℕ → List ℕ → Phase → Bool → Type 0
AnswersAtPhase Abandoned reading n text after bad = (text ≡ []) × (after ≡ Abandoned) × (bad ≡ false)
AnswersAtPhase Waiting Skipped n text after bad = (text ≡ []) × (after ≡ Waiting) × (bad ≡ false)
AnswersAtPhase Waiting (Asks (Machine discipline size)) n text after bad = (text ≡ []) × (after ≡ Running (opening_machine discipline size)) × (bad ≡ false)
AnswersAtPhase Waiting reading n text after bad = (text ≡ bad_line n) × (after ≡ Abandoned) × (bad ≡ true)
AnswersAtPhase (Running m) Skipped n text after bad = (text ≡ []) × (after ≡ Running m) × (bad ≡ false)
AnswersAtPhase (Running m) (Asks (Does event)) n text after bad =
    (k : TraceMachine) × (answer : Result Reply Refusal) × DoesAndAnswers m event answer text k × (after ≡ Running k) × (bad ≡ false)
AnswersAtPhase (Running m) (Asks (Wake c task now)) n text after bad = (k : TraceMachine) × AnswersWake m c task now text k × (after ≡ Running k) × (bad ≡ false)
AnswersAtPhase (Running m) (Asks (Load c hook generation image)) n text after bad = (k : TraceMachine) × LoadsAndAnswers m c hook generation image text k × (after ≡ Running k) × (bad ≡ false)
AnswersAtPhase (Running m) (Asks (Counter i)) n text after bad =
    (text ≡ (if nat_lt i COUNTERS then counter_line i (slice_index m.counters i) else bad_line n)) × (after ≡ Running m) × (bad ≡ not (nat_lt i COUNTERS))
AnswersAtPhase (Running m) (Asks (Show c)) n text after bad = (text ≡ show_line m.world c) × (after ≡ Running m) × (bad ≡ false)
AnswersAtPhase (Running m) (Asks (Machine discipline size)) n text after bad = (text ≡ bad_line n) × (after ≡ Running m) × (bad ≡ true)
AnswersAtPhase (Running m) Bad n text after bad = (text ≡ bad_line n) × (after ≡ Running m) × (bad ≡ true)

-- The answer to one line after p, by what the line says, and the state after it.
pub record AnswersReading (p : Progress) (reading : LineReading) (text : List ℕ) (q : Progress) : Type 0 where
  pub counted : q.line ≡ one_more p.line
  pub bad : Bool
  pub answered : AnswersAtPhase p.phase reading q.line text q.phase bad
  pub clean : q.clean ≡ (p.clean && not bad)

-- the answer to one line after p, and the state after it
abbrev pub AnswersLine : Progress → List ℕ → List ℕ → Progress → Type 0
AnswersLine p line text q = AnswersReading p (reading_of line) text q

-- The answers to lines in order, each in the state that the one before it left.
abbrev pub AnswersAll : Progress → List (List ℕ) → List ℕ → Progress → Type 0
AnswersAll p [] text q = (text ≡ []) × (q ≡ p)
AnswersAll p (line ∷ others) text q =
    (m : Progress) × (first : List ℕ) × (more : List ℕ) × AnswersLine p line first m × AnswersAll m others more q × (text ≡ first ++ more)

-- the state before the first line
abbrev pub opening_progress : Progress
opening_progress = record { phase = Waiting; line = 0; clean = true }

-- The output that answers an input. It is clean if no line was called bad.
pub record TraceText (input output : List ℕ) (clean : Bool) : Type 0 where
  pub final : Progress
  pub chain : AnswersAll opening_progress (lines input) output final
  pub is_clean : clean ≡ final.clean

-- The writer got a beginning of the answers to the first few of these lines.
pub record WritesBeginning (p : Progress) (all : List (List ℕ)) (old new : Option (List ℕ)) : Type 0 where
  pub answered : List (List ℕ)
  pub others : List (List ℕ)
  pub whole : all ≡ answered ++ others
  pub text : List ℕ
  pub final : Progress
  pub chain : AnswersAll p answered text final
  pub part : AppendsPart old new text
