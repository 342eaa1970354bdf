-- What a replay reads and writes.
use Rattle.std.specs.Prelude.{ℕ, Bool, List, Option}
use Rattle.std.specs.Str.Lines.{lines}
use Rattle.std.specs.Io.KnownBytes.{Appends, Consumes, IsAtEnd}
use Rattle.bq_trace.specs.Trace.{TraceText, WritesBeginning, opening_progress}

-- The reader gave these bytes and has no more, and the writer got the answers to them.
pub record Replays (from to old new : Option (List ℕ)) (clean : Bool) : Type 0 where
  pub input : List ℕ
  pub output : List ℕ
  pub consumed : Consumes from to input
  pub at_end : IsAtEnd to
  pub added : Appends old new output
  pub answers : TraceText input output clean

-- The reader gave these bytes, and the writer got a beginning of the answers to them.
pub record ReplaysInPart (from to old new : Option (List ℕ)) : Type 0 where
  pub input : List ℕ
  pub consumed : Consumes from to input
  pub beginning : WritesBeginning opening_progress (lines input) old new
