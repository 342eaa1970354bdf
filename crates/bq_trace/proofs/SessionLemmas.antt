-- The replies to the lines of a piece, and what a writer got of them.
use Rattle.std.proofs.Common.{ℕ, List, [], ◌++◌, map, refl, sym, ap, ◌∙◌, append-nil, subst, Option}
use Rattle.std.specs.Str.Lines.{lines, strip_carriage_return}
use Rattle.std.specs.Io.KnownBytes.{Appends}
use Rattle.std.proofs.KnownBytes.{Appends-nil}
use Rattle.bq_streams.specs.Writing.{AppendsPart}
use Rattle.bq_trace.specs.Writing.{GrowsByPiece}
use Rattle.bq_trace.specs.Trace.{AnswersAll}
use Rattle.bq_trace.specs.Feeding.{Continues, Feeds, BreaksOff, Finishes}
use Rattle.bq_trace.proofs.LineLemmas.{lines-with_feeds}
use Rattle.bq_trace.specs.declared.trace_position.TracePosition.{TracePosition}

-- what holds of the piece that was added to nothing holds of all that is there
only : (new : List ℕ) (Holds : List ℕ → Type 0) (a : GrowsByPiece [] new Holds) → Holds new
only new Holds a = subst Holds (sym a.added) a.holds

-- if all answers to a piece were written, the piece was fed
pub feeds_all : (s t : TracePosition) (begun piece answers : List ℕ) (old new : Option (List ℕ))
    → GrowsByPiece [] answers (λ l. Continues s begun piece l t) → Appends old new answers
    → Feeds s begun piece t old new
feeds_all s t begun piece answers old new a written =
    record { text = answers; goes_on = only answers (λ l. Continues s begun piece l t) a; added = written }

-- if only a beginning of the answers to a piece was written, the session breaks off there
pub feeds_part : (s t : TracePosition) (begun piece answers : List ℕ) (old new : Option (List ℕ))
    → GrowsByPiece [] answers (λ l. Continues s begun piece l t) → AppendsPart old new answers
    → BreaksOff s begun piece old new
feeds_part s t begun piece answers old new a part =
    let c : Continues s begun piece answers t = only answers (λ l. Continues s begun piece l t) a in
    record {
      answered = map strip_carriage_return c.ended;
      others = lines c.rest;
      whole = ap lines c.whole ∙ lines-with_feeds c.ended c.rest c.each;
      text = answers;
      final = t.progress;
      chain = c.chain;
      part = part;
    }

-- if nothing was written, the session breaks off before the piece
pub feeds_none : (s : TracePosition) (begun piece : List ℕ) (w : Option (List ℕ)) → BreaksOff s begun piece w w
feeds_none s begun piece w = record {
  answered = [];
  others = lines (begun ++ piece);
  whole = refl;
  text = [];
  final = s.progress;
  chain = (refl, refl);
  part = ([], record { done = []; whole = refl; added = Appends-nil w });
}

-- if the last line's whole answer was written, the session has finished
pub finishes_all : (s t : TracePosition) (begun answers : List ℕ) (old new : Option (List ℕ))
    → GrowsByPiece [] answers (λ l. AnswersAll s.progress (lines begun) l t.progress) → Appends old new answers
    → Finishes s begun old new t.progress.clean
finishes_all s t begun answers old new a written =
    record {
      text = answers;
      final = t.progress;
      chain = only answers (λ l. AnswersAll s.progress (lines begun) l t.progress) a;
      is_clean = refl;
      added = written;
    }

-- if only a beginning of it was written, the session breaks off there
pub finishes_part : (s t : TracePosition) (begun answers : List ℕ) (old new : Option (List ℕ))
    → GrowsByPiece [] answers (λ l. AnswersAll s.progress (lines begun) l t.progress) → AppendsPart old new answers
    → BreaksOff s begun [] old new
finishes_part s t begun answers old new a part = record {
  answered = lines begun;
  others = [];
  whole = ap lines (append-nil begun) ∙ sym (append-nil (lines begun));
  text = answers;
  final = t.progress;
  chain = only answers (λ l. AnswersAll s.progress (lines begun) l t.progress) a;
  part = part;
}
