-- The texts of what comes of a trace's lines are what answers them.
use Rattle.std.proofs.Common.{◌≡◌, ℕ, Bool, true, false, cond, ltb, List, [], ◌∷◌, ◌++◌, map, refl, ap, ◌∙◌, append-nil, subst, Option, Some, None, Result, Ok, Err, inl, inr}
use Rattle.std.specs.Prelude.{slice_index}
use Rattle.std.specs.Str.Lines.{strip_carriage_return}
use Rattle.bq_hooks.specs.declared.hook.Hook.{Hook}
use Rattle.bq_parts.specs.declared.event.Event.{Event}
use Rattle.bq_parts.specs.declared.event.Event.TheVariants.{EndWake}
use Rattle.bq_parts.specs.declared.reply.Reply.{Reply}
use Rattle.bq_parts.specs.declared.refusal.Refusal.{Refusal}
use Rattle.bq_lines.specs.declared.command.LineCommand.TheVariants.{Machine, Does, Wake, Load, Show, Counter}
use Rattle.bq_lines.specs.declared.command.LineReading.{LineReading}
use Rattle.bq_lines.specs.declared.command.LineReading.TheVariants as reads
use Rattle.bq_lines.proofs.KeptLemmas.{reading_of_short_line-line}
use Rattle.bq_trace.specs.Machines.{TraceMachine}
use Rattle.bq_trace.specs.Doing.{DoesAndAnswers}
use Rattle.bq_trace.specs.Loading.{LoadsAndAnswers, load_fault_line, no_hex_line}
use Rattle.bq_trace.specs.Texts.{event_line, bad_line, counter_line, show_line}
use Rattle.bq_trace.specs.Trace.{AnswersAtPhase, AnswersLine, AnswersAll, EndsWake, AnswersWake}
use Rattle.bq_trace.specs.Feeding.{Continues}
use Rattle.bq_trace.specs.Writing.{GrowsByPiece}
use Rattle.bq_trace.specs.TraceEvents.{Reported, CounterRead, Bad, Gets, text_of, texts}
use Rattle.bq_trace.specs.Reporting.{Happens, EndHappens, WakeHappens, LoadHappens, Reports, ReportsLine, Story, ReportsPiece, skips}
use Rattle.bq_trace.specs.declared.phase.Phase.{Phase}
use Rattle.bq_trace.specs.declared.phase.Phase.TheVariants.{Waiting, Abandoned, Running}
use Rattle.bq_trace.specs.declared.progress.Progress.{Progress}
use Rattle.bq_trace.specs.declared.trace_position.TracePosition.{TracePosition}
use Rattle.bq_trace.proofs.TakingLemmas.{texts-append, added_by}

-- an event that happens is done and answered
pub happens_text : (m k : TraceMachine) (n : ℕ) (event : Event) (answer : Result Reply Refusal) (reported : Reported)
    → Happens m n event answer reported k → DoesAndAnswers m event answer (texts reported) k
happens_text m k n event answer reported h = record {
  answered = h.answered;
  moves = h.moves;
  line = ap texts h.reports ∙ append-nil (event_line answer);
}

-- the text of what follows the begin of a wake answers it
ends_text : (begun : Result Reply Refusal) (m k : TraceMachine) (n c now : ℕ) (reported : Reported)
    → EndHappens begun m n c now reported k → EndsWake begun m c now (texts reported) k
ends_text (Err refusal) m k n c now reported h = (ap texts h.0, h.1)
ends_text (Ok reply) m k n c now reported h = (h.0, happens_text m k n (EndWake c now) h.0 reported h.1)

-- the text of what comes of a wake answers the wake
wake_text : (m k : TraceMachine) (n c task now : ℕ) (reported : Reported)
    → WakeHappens m n c task now reported k → AnswersWake m c task now (texts reported) k
wake_text m k n c task now reported h = record {
  begun = h.begun;
  mid = h.mid;
  first = texts h.first;
  more = texts h.more;
  begins = happens_text m h.mid n _ h.begun h.first h.begins;
  ends = ends_text h.begun h.mid k n c now h.more h.ends;
  whole = ap texts h.whole ∙ texts-append h.first h.more;
}

-- the text of what comes of a load answers the load
load_text : (m k : TraceMachine) (n c generation : ℕ) (hook : Hook) (image : List ℕ) (reported : Reported)
    → LoadHappens m n c hook generation image reported k
    → LoadsAndAnswers m c hook generation image (texts reported) k
load_text m k n c generation hook image reported (inl h) = inl (h.0, h.1, ap texts h.2 ∙ append-nil no_hex_line, h.3)
load_text m k n c generation hook image reported (inr (inl h)) =
    inr (inl (h.0, h.1, h.2, h.3, h.4, ap texts h.5 ∙ append-nil (load_fault_line h.1), h.6))
load_text m k n c generation hook image reported (inr (inr h)) = inr (inr (h.0, h.1, h.2, h.3, h.4, happens_text m k n _ h.2 reported h.5))

-- the texts of a line that says nothing, of a bad line, and of a line that asks for a counter:
skips_text : (n : ℕ) (line : Option (List ℕ)) → texts (skips n line) ≡ []
skips_text n None = refl
skips_text n (Some line) = refl

bad_text : (n : ℕ) (line : Option (List ℕ)) (reported : Reported) → reported ≡ (n, Bad line) ∷ [] → texts reported ≡ bad_line n
bad_text n line reported h = ap texts h ∙ append-nil (bad_line n)

counter_text : (n i value : ℕ) (line : Option (List ℕ)) (b : Bool)
    → texts (cond b ((n, CounterRead i value) ∷ []) ((n, Bad line) ∷ [])) ≡ cond b (counter_line i value) (bad_line n)
counter_text n i value line true = append-nil (counter_line i value)
counter_text n i value line false = append-nil (bad_line n)

-- the texts of what comes of a line are what answers it
pub reports_text : (p : Phase) (n : ℕ) (line : Option (List ℕ)) (r : LineReading) (reported : Reported)
    (q : Phase) (bad : Bool)
    → Reports p n line r reported q bad → AnswersAtPhase p r n (texts reported) q bad
reports_text Abandoned n line r reported q bad h = (ap texts h.0, h.1, h.2)
reports_text Waiting n line reads.Skipped reported q bad h = (ap texts h.0 ∙ skips_text n line, h.1, h.2)
reports_text Waiting n line reads.Bad reported q bad h = (bad_text n line reported h.0, h.1, h.2)
reports_text Waiting n line (reads.Asks (Machine discipline size)) reported q bad h = (ap texts h.0, h.1, h.2)
reports_text Waiting n line (reads.Asks (Does event)) reported q bad h = (bad_text n line reported h.0, h.1, h.2)
reports_text Waiting n line (reads.Asks (Wake c task now)) reported q bad h = (bad_text n line reported h.0, h.1, h.2)
reports_text Waiting n line (reads.Asks (Load c hook generation image)) reported q bad h = (bad_text n line reported h.0, h.1, h.2)
reports_text Waiting n line (reads.Asks (Show c)) reported q bad h = (bad_text n line reported h.0, h.1, h.2)
reports_text Waiting n line (reads.Asks (Counter i)) reported q bad h = (bad_text n line reported h.0, h.1, h.2)
reports_text (Running m) n line reads.Skipped reported q bad h = (ap texts h.0 ∙ skips_text n line, h.1, h.2)
reports_text (Running m) n line reads.Bad reported q bad h = (bad_text n line reported h.0, h.1, h.2)
reports_text (Running m) n line (reads.Asks (Machine discipline size)) reported q bad h = (bad_text n line reported h.0, h.1, h.2)
reports_text (Running m) n line (reads.Asks (Does event)) reported q bad h =
    (h.0, h.1, happens_text m h.0 n event h.1 reported h.2, h.3, h.4)
reports_text (Running m) n line (reads.Asks (Wake c task now)) reported q bad h = (h.0, wake_text m h.0 n c task now reported h.1, h.2, h.3)
reports_text (Running m) n line (reads.Asks (Load c hook generation image)) reported q bad h =
    (h.0, load_text m h.0 n c generation hook image reported h.1, h.2, h.3)
reports_text (Running m) n line (reads.Asks (Show c)) reported q bad h = (ap texts h.0 ∙ append-nil (show_line m.world c), h.1, h.2)
reports_text (Running m) n line (reads.Asks (Counter i)) reported q bad h =
    (ap texts h.0 ∙ counter_text n i (slice_index m.counters i) line (ltb i 64), h.1, h.2)

-- the text of what comes of one line, read by what is kept of it, answers the line
line_text : (p q : Progress) (line : List ℕ) (reported : Reported) → ReportsLine p line reported q → AnswersLine p line (texts reported) q
line_text p q line reported h = record {
  counted = h.counted;
  bad = h.bad;
  answered =
      subst (λ r. AnswersAtPhase p.phase r q.line (texts reported) q.phase h.bad) (reading_of_short_line-line line)
      (reports_text p.phase q.line _ _ reported q.phase h.bad h.reports);
  clean = h.clean;
}

-- the texts of what comes of lines in order are what answers them
pub story_text : (p q : Progress) (ls : List (List ℕ)) (reported : Reported) → Story p ls reported q → AnswersAll p ls (texts reported) q
story_text p q [] reported h = (ap texts h.0, h.1)
story_text p q (line ∷ others) reported h =
    (h.0, texts h.1, texts h.2, line_text p h.0 line h.1 h.3, story_text h.0 q others h.2 h.4, ap texts h.5 ∙ texts-append h.1 h.2)

-- where a piece goes on, the texts of its events answer the lines that it ends
pub goes_on_text : (s t : TracePosition) (begun piece : List ℕ) (reported : Reported)
    → ReportsPiece s begun piece reported t → Continues s begun piece (texts reported) t
goes_on_text s t begun piece reported h = record {
  ended = h.ended;
  rest = h.rest;
  whole = h.whole;
  each = h.each;
  chain = story_text s.progress t.progress (map strip_carriage_return h.ended) reported h.story;
  stands = h.stands;
}

-- what the sink of texts gets, it adds
pub gets_text : {S : Type 0} (bytes : S → List ℕ) (old new : S) (Tale : Reported → Type 0) (Text : List ℕ → Type 0)
    → ((reported : Reported) → Tale reported → Text (texts reported))
    → Gets (λ o n x w. bytes w ≡ bytes o ++ text_of n x) old new Tale
    → GrowsByPiece (bytes old) (bytes new) Text
gets_text bytes old new Tale Text along g =
    record { piece = texts g.reported; added = added_by bytes old new g.reported g.taken; holds = along g.reported g.holds }
