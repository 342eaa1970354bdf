-- What a session does from its start to its end.
use Rattle.std.proofs.Common.{◌≡◌, ℕ, Bool, List, [], ◌∷◌, ◌++◌, map, refl, sym, ap, ◌∙◌, append_assoc, append-nil, subst, Option, Some}
use Rattle.std.specs.Str.Lines.{lines, strip_carriage_return}
use Rattle.std.specs.Io.KnownBytes.{Appends}
use Rattle.std.proofs.KnownBytes.{Appends-nil, Appends-trans}
use Rattle.bq_lines.specs.Kept.{KeepsLine}
use Rattle.bq_trace.specs.Trace.{AnswersAll, opening_progress}
use Rattle.bq_trace.specs.Feeding.{Continues, Feeds, Finishes}
use Rattle.bq_trace.specs.Sessions.{IsFed, pieces_joined, GetsAnswers, SessionAnswers}
use Rattle.bq_trace.proofs.LineLemmas.{AnswersAll-append, lines-with_feeds}
use Rattle.bq_trace.proofs.ReplayLemmas.{Continues-join}
use Rattle.bq_trace.proofs.StandingLemmas.{stands_for_nothing}
use Rattle.bq_trace.specs.declared.trace_position.TracePosition.{TracePosition}

-- From s on, where nothing had begun, the input was read, and what answers it was written.
pub record HasRead (s : TracePosition) (input : List ℕ) (t : TracePosition) (old new : Option (List ℕ)) : Type 0 where
  pub output : List ℕ
  pub goes_on : Continues s [] input output t
  pub added : Appends old new output

-- at the start nothing was read, and nothing was written
nothing_read : (s : TracePosition) (w : Option (List ℕ)) → s.begun ≡ Some [] → HasRead s [] s w w
nothing_read s w empty = record {
  output = [];
  goes_on = record {
    ended = [];
    rest = [];
    whole = refl;
    each = tt;
    chain = (refl, refl);
    stands = subst (λ k. KeepsLine k []) (sym empty) stands_for_nothing;
  };
  added = Appends-nil w;
}

-- one more piece that is fed is read behind the input
one_more : (s t u : TracePosition) (input piece : List ℕ) (old now new : Option (List ℕ))
    → (h : HasRead s input t old now) → Feeds t h.goes_on.rest piece u now new
    → HasRead s (input ++ piece) u old new
one_more s t u input piece old now new h fed = record {
  output = h.output ++ fed.text;
  goes_on = Continues-join s t u [] input piece h.output fed.text h.goes_on fed.goes_on;
  added = Appends-trans old now new h.output fed.text h.added fed.added;
}

-- some more pieces that are fed are read behind the input
more : (s t u : TracePosition) (input : List ℕ) (pieces : List (List ℕ)) (old now new : Option (List ℕ))
    → HasRead s input t old now → IsFed t pieces u now new → HasRead s (input ++ pieces_joined pieces) u old new
more s t u input [] old now new h f =
    subst (λ w. HasRead s (input ++ []) u old w) (sym f.1)
    (subst (λ v. HasRead s (input ++ []) v old now) (sym f.0) (subst (λ i. HasRead s i t old now) (sym (append-nil input)) h))
more s t u input (piece ∷ pieces) old now new h f =
    let next = one_more s t f.0 input piece old now f.1 h (f.2 h.goes_on.rest h.goes_on.stands) in
    subst (λ i. HasRead s i u old new) (append_assoc input piece (pieces_joined pieces))
    (more s f.0 u (input ++ piece) pieces old f.1 new next f.3)

-- the line that has begun is the last
ends : (s t : TracePosition) (input : List ℕ) (old now new : Option (List ℕ)) (clean : Bool)
    → s.progress ≡ opening_progress → (h : HasRead s input t old now) → Finishes t h.goes_on.rest now new clean
    → GetsAnswers input old new clean
ends s t input old now new clean first h f =
    let c = h.goes_on in
    record {
      output = h.output ++ f.text;
      added = Appends-trans old now new h.output f.text h.added f.added;
      answers = record {
        final = f.final;
        chain =
            subst (λ ls. AnswersAll opening_progress ls (h.output ++ f.text) f.final) (sym (ap lines c.whole ∙ lines-with_feeds c.ended c.rest c.each))
            (AnswersAll-append opening_progress t.progress f.final (map strip_carriage_return c.ended) (lines c.rest) h.output f.text
            (subst (λ p. AnswersAll p (map strip_carriage_return c.ended) h.output t.progress) first c.chain) f.chain);
        is_clean = f.is_clean;
      };
    }

-- pieces and then the end are answered as their join is
pub session_answers : SessionAnswers
session_answers s t pieces old now new clean first empty fed finished =
    let h = more s s t [] pieces old old now (nothing_read s old empty) fed in
    ends s t (pieces_joined pieces) old now new clean first h (finished h.goes_on.rest h.goes_on.stands)
