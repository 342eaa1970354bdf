-- What a session does with pieces of a trace.
use Rattle.std.specs.Prelude.{◌≡◌, ℕ, Bool, List, [], ◌∷◌, ◌++◌, map, Option}
use Rattle.std.specs.List.{flat_map, AllByRecursion}
use Rattle.std.specs.Str.Lines.{lines, strip_carriage_return}
use Rattle.std.specs.Io.KnownBytes.{Appends}
use Rattle.bq_lines.specs.Kept.{IsOneLine, KeepsLine}
use Rattle.bq_trace.specs.Trace.{AnswersAll, WritesBeginning}
use Rattle.bq_trace.specs.declared.progress.Progress.{Progress}
use Rattle.bq_trace.specs.declared.trace_position.TracePosition.{TracePosition}

-- the lines, with a line feed after each
abbrev pub with_feeds : List (List ℕ) → List ℕ
with_feeds ended = flat_map (λ line. line ++ 10 ∷ []) ended

-- whatever the bytes are of the line that has begun, this holds of them
abbrev pub ForBegunLine : TracePosition → (List ℕ → Type 0) → Type 0
ForBegunLine s Holds = (begun : List ℕ) → KeepsLine s.begun begun → Holds begun

-- The piece continues the line that has begun. The text answers the lines that end in the piece, and the rest begins the next line.
pub record Continues (s : TracePosition) (begun piece text : List ℕ) (t : TracePosition) : Type 0 where
  pub ended : List (List ℕ)
  pub rest : List ℕ
  pub whole : begun ++ piece ≡ with_feeds ended ++ rest
  pub each : AllByRecursion IsOneLine ended
  pub chain : AnswersAll s.progress (map strip_carriage_return ended) text t.progress
  pub stands : KeepsLine t.begun rest

-- The piece continues the line that has begun, as `Continues` says, and the writer got the text.
pub record Feeds (s : TracePosition) (begun piece : List ℕ) (t : TracePosition) (old new : Option (List ℕ)) : Type 0 where
  pub text : List ℕ
  pub goes_on : Continues s begun piece text t
  pub added : Appends old new text

-- Only a beginning of the answers to the begun line and the piece was written.
abbrev pub BreaksOff : TracePosition → List ℕ → List ℕ → Option (List ℕ) → Option (List ℕ) → Type 0
BreaksOff s begun piece old new = WritesBeginning s.progress (lines (begun ++ piece)) old new

-- The line that has begun is the last one: the writer got its answer.
pub record Finishes (s : TracePosition) (begun : List ℕ) (old new : Option (List ℕ)) (clean : Bool) : Type 0 where
  pub text : List ℕ
  pub final : Progress
  pub chain : AnswersAll s.progress (lines begun) text final
  pub is_clean : clean ≡ final.clean
  pub added : Appends old new text
