-- What a session does from its start to its end.
use Rattle.std.specs.Prelude.{◌≡◌, ℕ, Bool, List, [], ◌∷◌, Option, Some}
use Rattle.std.specs.List.{flat_map}
use Rattle.std.specs.Io.KnownBytes.{Appends}
use Rattle.bq_trace.specs.Feeding.{Feeds, Finishes, ForBegunLine}
use Rattle.bq_trace.specs.Trace.{TraceText, opening_progress}
use Rattle.bq_trace.specs.declared.trace_position.TracePosition.{TracePosition}

-- A session is fed some pieces, one after another, and each feed does what its contract says.
abbrev pub IsFed : TracePosition → List (List ℕ) → TracePosition → Option (List ℕ) → Option (List ℕ) → Type 0
IsFed s [] t old new = (t ≡ s) × (new ≡ old)
IsFed s (piece ∷ pieces) t old new =
    (mid : TracePosition) × (now : Option (List ℕ)) × ForBegunLine s (λ begun. Feeds s begun piece mid old now) × IsFed mid pieces t now new

-- A session is finished, and the finish does what its contract says.
abbrev pub IsFinished : TracePosition → Option (List ℕ) → Option (List ℕ) → Bool → Type 0
IsFinished s old new clean = ForBegunLine s (λ begun. Finishes s begun old new clean)

-- all pieces in one
abbrev pub pieces_joined : List (List ℕ) → List ℕ
pieces_joined pieces = flat_map (λ piece. piece) pieces

-- The writer got the answers to an input.
pub record GetsAnswers (input : List ℕ) (old new : Option (List ℕ)) (clean : Bool) : Type 0 where
  pub output : List ℕ
  pub added : Appends old new output
  pub answers : TraceText input output clean

-- If a session begins, is fed some pieces and is finished, the writer got the answers to the joined pieces.
abbrev pub SessionAnswers : Type 0
SessionAnswers =
    (s t : TracePosition) (pieces : List (List ℕ)) (old now new : Option (List ℕ)) (clean : Bool) →
    s.progress ≡ opening_progress → s.begun ≡ Some [] → IsFed s pieces t old now → IsFinished t now new clean → GetsAnswers (pieces_joined pieces) old new clean
