-- How the pieces of a trace are read and answered in turn.
use Rattle.std.proofs.Common.{◌≡◌, ℕ, List, [], ◌∷◌, ◌++◌, map, refl, sym, ap, ◌∙◌, append_assoc, append-nil, subst, Some, Option, Bool}
use Rattle.std.specs.List.{AllByRecursion}
use Rattle.std.specs.Str.Lines.{lines, strip_carriage_return}
use Rattle.std.specs.Io.KnownBytes.{Appends, Consumes, Keeps, IsAtEnd}
use Rattle.std.proofs.KnownBytes.{Appends-nil, Appends-trans, Consumes-nil, Consumes-trans, Consumes-kept}
use Rattle.std.proofs.lemmas.List.{map-append}
use Rattle.std.proofs.lemmas.Grind.{flat_map-append}
use Rattle.bq_lines.specs.Kept.{IsOneLine, KeepsLine}
use Rattle.bq_trace.specs.Trace.{AnswersAll, opening_progress}
use Rattle.bq_trace.specs.Feeding.{with_feeds, Continues, Feeds, BreaksOff, Finishes}
use Rattle.bq_trace.specs.Replaying.{Replays, ReplaysInPart}
use Rattle.bq_trace.proofs.LineLemmas.{AnswersAll-append, lines-with_feeds}
use Rattle.bq_trace.proofs.StandingLemmas.{stands_for_nothing}
use Rattle.bq_trace.specs.declared.trace_position.TracePosition.{TracePosition}

-- The reader gave input, whose whole lines are answered by output, and the rest has begun.
pub record Underway (from to old new : Option (List ℕ)) (s : TracePosition) : Type 0 where
  pub input : List ℕ
  pub output : List ℕ
  pub ended : List (List ℕ)
  pub rest : List ℕ
  pub consumed : Consumes from to input
  pub whole : input ≡ with_feeds ended ++ rest
  pub each : AllByRecursion IsOneLine ended
  pub chain : AnswersAll opening_progress (map strip_carriage_return ended) output s.progress
  pub stands : KeepsLine s.begun rest
  pub added : Appends old new output

-- at the start nothing has been read and nothing answered
pub Underway-none : (from old : Option (List ℕ)) (s : TracePosition) → s.progress ≡ opening_progress → s.begun ≡ Some [] → Underway from from old old s
Underway-none from old s first empty = record {
  input = [];
  output = [];
  ended = [];
  rest = [];
  consumed = Consumes-nil from;
  whole = refl;
  each = tt;
  chain = (refl, first);
  stands = subst (λ k. KeepsLine k []) (sym empty) stands_for_nothing;
  added = Appends-nil old;
}

-- each of two lists of lines together is one line
pub AllByRecursion-append : (xs ys : List (List ℕ)) → AllByRecursion IsOneLine xs → AllByRecursion IsOneLine ys
    → AllByRecursion IsOneLine (xs ++ ys)
AllByRecursion-append [] ys h k = k
AllByRecursion-append (x ∷ xs) ys h k = (h.0, AllByRecursion-append xs ys h.1 k)

-- two pieces end the lines that their join does
pub with_feeds-join : (begun piece rest more last : List ℕ) (ended others : List (List ℕ))
    → begun ++ piece ≡ with_feeds ended ++ rest → rest ++ more ≡ with_feeds others ++ last
    → begun ++ (piece ++ more) ≡ with_feeds (ended ++ others) ++ last
with_feeds-join begun piece rest more last ended others first second =
    sym (append_assoc begun piece more) ∙ ap (λ l. l ++ more) first ∙ append_assoc (with_feeds ended) rest more
    ∙ ap (λ l. with_feeds ended ++ l) second ∙ sym (append_assoc (with_feeds ended) (with_feeds others) last)
    ∙ ap (λ l. l ++ last) (sym (flat_map-append (λ line. line ++ 10 ∷ []) ended others))

-- a piece and another one that goes on from its rest are one piece, answered by both texts
pub Continues-join : (s t u : TracePosition) (begun piece more text others : List ℕ)
    → (h : Continues s begun piece text t) → Continues t h.rest more others u
    → Continues s begun (piece ++ more) (text ++ others) u
Continues-join s t u begun piece more text others h k = record {
  ended = h.ended ++ k.ended;
  rest = k.rest;
  whole = with_feeds-join begun piece h.rest more k.rest h.ended k.ended h.whole k.whole;
  each = AllByRecursion-append h.ended k.ended h.each k.each;
  chain =
      subst (λ ls. AnswersAll s.progress ls (text ++ others) u.progress)
      (sym (map-append strip_carriage_return h.ended k.ended))
      (AnswersAll-append s.progress t.progress u.progress (map strip_carriage_return h.ended)
      (map strip_carriage_return k.ended) text others h.chain k.chain);
  stands = k.stands;
}

-- a piece that is read and fed to the session leaves the replay underway
pub Underway-more : (from mid to old now new : Option (List ℕ)) (s t : TracePosition) (piece : List ℕ)
    → (h : Underway from mid old now s) → Consumes mid to piece → Feeds s h.rest piece t now new
    → Underway from to old new t
Underway-more from mid to old now new s t piece h consumed fed = record {
  input = h.input ++ piece;
  output = h.output ++ fed.text;
  ended = h.ended ++ fed.goes_on.ended;
  rest = fed.goes_on.rest;
  consumed = Consumes-trans from mid to h.input piece h.consumed consumed;
  whole = with_feeds-join [] h.input h.rest piece fed.goes_on.rest h.ended fed.goes_on.ended h.whole fed.goes_on.whole;
  each = AllByRecursion-append h.ended fed.goes_on.ended h.each fed.goes_on.each;
  chain =
      subst (λ ls. AnswersAll opening_progress ls (h.output ++ fed.text) t.progress)
      (sym (map-append strip_carriage_return h.ended fed.goes_on.ended))
      (AnswersAll-append opening_progress s.progress t.progress (map strip_carriage_return h.ended)
      (map strip_carriage_return fed.goes_on.ended) h.output fed.text h.chain fed.goes_on.chain);
  stands = fed.goes_on.stands;
  added = Appends-trans old now new h.output fed.text h.added fed.added;
}

-- a replay whose reader has no more and whose last line is answered is done
pub Underway-ends : (from mid to old now new : Option (List ℕ)) (s : TracePosition) (clean : Bool)
    → (h : Underway from mid old now s) → Consumes mid to [] → IsAtEnd to → Finishes s h.rest now new clean
    → Replays from to old new clean
Underway-ends from mid to old now new s clean h consumed at_end f = record {
  input = h.input;
  output = h.output ++ f.text;
  consumed = subst (Consumes from to) (append-nil h.input) (Consumes-trans from mid to h.input [] h.consumed consumed);
  at_end = at_end;
  added = Appends-trans old now new h.output f.text h.added f.added;
  answers = record {
    final = f.final;
    chain = subst (λ ls. AnswersAll opening_progress ls (h.output ++ f.text) f.final) (sym (ap lines h.whole ∙ lines-with_feeds h.ended h.rest h.each))
        (AnswersAll-append opening_progress s.progress f.final (map strip_carriage_return h.ended) (lines h.rest) h.output f.text h.chain f.chain);
    is_clean = f.is_clean;
  };
}

-- where a piece breaks off, a beginning of the answers to what was read was written
pub Underway-breaks : (from mid to old now new : Option (List ℕ)) (s : TracePosition) (piece : List ℕ)
    → (h : Underway from mid old now s) → Consumes mid to piece → BreaksOff s h.rest piece now new
    → ReplaysInPart from to old new
Underway-breaks from mid to old now new s piece h consumed b = record {
  input = h.input ++ piece;
  consumed = Consumes-trans from mid to h.input piece h.consumed consumed;
  beginning = record {
    answered = map strip_carriage_return h.ended ++ b.answered;
    others = b.others;
    whole =
        ap (λ l. lines (l ++ piece)) h.whole ∙ ap lines (append_assoc (with_feeds h.ended) h.rest piece)
        ∙ lines-with_feeds h.ended (h.rest ++ piece) h.each ∙ ap (λ ls. map strip_carriage_return h.ended ++ ls) b.whole
        ∙ sym (append_assoc (map strip_carriage_return h.ended) b.answered b.others);
    text = h.output ++ b.text;
    final = b.final;
    chain = AnswersAll-append opening_progress s.progress b.final (map strip_carriage_return h.ended) b.answered h.output b.text h.chain b.chain;
    part = (
      b.part.0,
      record {
        done = h.output ++ b.part.1.done;
        whole = ap (λ l. h.output ++ l) b.part.1.whole ∙ sym (append_assoc h.output b.part.1.done b.part.0);
        added = Appends-trans old now new h.output b.part.1.done h.added b.part.1.added;
      },
    );
  };
}

-- where the reader gives nothing more, a beginning of the answers to what it gave was written
pub Underway-stops : (from mid to old new : Option (List ℕ)) (s : TracePosition)
    → (h : Underway from mid old new s) → Keeps mid to → ReplaysInPart from to old new
Underway-stops from mid to old new s h kept = record {
  input = h.input;
  consumed = Consumes-kept from mid to h.input h.consumed kept;
  beginning = record {
    answered = map strip_carriage_return h.ended;
    others = lines h.rest;
    whole = ap lines h.whole ∙ lines-with_feeds h.ended h.rest h.each;
    text = h.output;
    final = s.progress;
    chain = h.chain;
    part = ([], record { done = h.output; whole = sym (append-nil h.output); added = h.added });
  };
}
