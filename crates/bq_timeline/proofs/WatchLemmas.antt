-- What a viewer keeps of the events of a trace that comes in pieces.
use Rattle.std.proofs.Common.{◌≡◌, ℕ, ◌==◌, List, [], ◌∷◌, ◌++◌, map, refl, sym, ap, ◌∙◌, append-nil, subst, string_bytes, Some, None, Option}
use Rattle.std.specs.List.{AllByRecursion}
use Rattle.std.specs.Str.Lines.{lines, strip_carriage_return}
use Rattle.std.specs.Io.KnownBytes.{Appends, Consumes, IsAtEnd}
use Rattle.std.proofs.KnownBytes.{Appends-nil, Appends-trans, Consumes-nil, Consumes-trans}
use Rattle.std.proofs.lemmas.List.{map-append}
use Rattle.bq_lines.specs.Kept.{IsOneLine, KeepsLine}
use Rattle.bq_schedule.specs.Figures.{Figures}
use Rattle.bq_trace.specs.Feeding.{with_feeds}
use Rattle.bq_trace.specs.TraceEvents.{TraceEvent, Reported, Gets, TakesAll}
use Rattle.bq_trace.specs.Reporting.{ReportsPiece, Story}
use Rattle.bq_trace.specs.Trace.{opening_progress}
use Rattle.bq_trace.proofs.LineLemmas.{lines-with_feeds}
use Rattle.bq_trace.proofs.ReplayLemmas.{with_feeds-join, AllByRecursion-append}
use Rattle.bq_trace.proofs.StandingLemmas.{Story-append, stands_for_nothing}
use Rattle.bq_timeline.specs.Notes.{last_notes}
use Rattle.bq_timeline.specs.ScreenTexts.{ScreenState, state_of}
use Rattle.bq_timeline.specs.Timelines.{Closes, IsTimeline, TakesEvent, Watches, WatchesAndWrites, WatchesEvent}
use Rattle.bq_timeline.specs.TraceTexts.{IsBlank, ScreenTakesAll, TextCloses}
use Rattle.bq_timeline.specs.Watching.{schedule_after, bad_or_refused_after_event, bad_or_refused_after, schedule_after_event}
use Rattle.bq_timeline.specs.declared.settings.Settings.{Settings}
use Rattle.bq_timeline.specs.declared.whole_timeline.Outcome.{Outcome}
use Rattle.bq_timeline.specs.declared.whole_timeline.TimelineSoFar.{TimelineSoFar}
use Rattle.bq_timeline.specs.declared.viewer.Viewer.{Viewer}
use Rattle.bq_timeline.proofs.TextLemmas.{all_append, all_behind, closes_behind}

-- the schedule and the count of a viewer go on with an event
abbrev pub Watched : Viewer → ℕ → TraceEvent → Viewer → Type 0
Watched old n traced new = WatchesEvent old traced new

-- a viewer takes an event
abbrev pub Takes : Viewer → ℕ → TraceEvent → Viewer → Type 0
Takes old n traced new = TakesEvent old traced new

-- events that a viewer watches leave it their schedule and their count
pub watched_all : (old new : Viewer) (reported : Reported) → TakesAll Watched old reported new
    → (new.schedule ≡ schedule_after old.schedule reported) × (new.bad_or_refused ≡ bad_or_refused_after old.bad_or_refused reported)
watched_all old new [] h = (ap (λ (v : Viewer). v.schedule) h, ap (λ (v : Viewer). v.bad_or_refused) h)
watched_all old new ((n, x) ∷ more) h =
    let rest = watched_all h.0 new more h.2 in
    (rest.0 ∙ ap (λ s. schedule_after s more) h.1.0, rest.1 ∙ ap (λ k. bad_or_refused_after k more) h.1.1)

-- a viewer watches the events that it takes
watches_all : (old new : Viewer) (reported : Reported) → TakesAll Takes old reported new → TakesAll Watched old reported new
watches_all old new [] h = h
watches_all old new ((n, x) ∷ more) h = (h.0, h.1.watches, watches_all h.0 new more h.2)

-- the screen of a viewer shows trace events, with the schedule before them
abbrev pub ShowsAll : Option Figures → Viewer → Reported → Viewer → Type 0
ShowsAll s old reported new =
    ScreenTakesAll s (state_of old.screen) reported (state_of new.screen) (string_bytes old.screen.text) (string_bytes new.screen.text)

-- the screen of a viewer shows the events that the viewer takes
shows_all : (old new : Viewer) (reported : Reported) → TakesAll Takes old reported new → ShowsAll old.schedule old reported new
shows_all old new [] h = (ap (λ (v : Viewer). state_of v.screen) h, ap (λ (v : Viewer). string_bytes v.screen.text) h)
shows_all old new ((n, x) ∷ more) h =
    let mid = h.0 in (
      state_of mid.screen,
      string_bytes mid.screen.text,
      h.1.shows,
      subst (λ (s : Option Figures). ShowsAll s mid more new) h.1.watches.0 (shows_all mid new more h.2),
    )

-- what a sink gets, where the viewer is one; what is written and cleared besides changes nothing else of it
pub watches_what_it_gets : (old new then : Viewer) (Holds : Reported → Type 0)
    → Gets Takes old new Holds → then.schedule ≡ new.schedule → then.bad_or_refused ≡ new.bad_or_refused → state_of then.screen ≡ state_of new.screen
    → Watches old then (string_bytes new.screen.text) Holds
watches_what_it_gets old new then Holds g schedule bad_or_refused state =
    let kept = watched_all old new g.reported (watches_all old new g.reported g.taken) in
    record {
      reported = g.reported;
      schedule = schedule ∙ kept.0;
      bad_or_refused = bad_or_refused ∙ kept.1;
      shows =
          subst
          (λ (t : ScreenState).
          ScreenTakesAll old.schedule (state_of old.screen) g.reported t (string_bytes old.screen.text) (string_bytes new.screen.text))
          (sym state) (shows_all old new g.reported g.taken);
      holds = g.holds;
    }

-- the schedule of events and of more behind them
pub schedule_after-append : (s : Option Figures) (xs ys : Reported) → schedule_after s (xs ++ ys) ≡ schedule_after (schedule_after s xs) ys
schedule_after-append s [] ys = refl
schedule_after-append s ((n, x) ∷ xs) ys = schedule_after-append (schedule_after_event s x) xs ys

-- the count of events and of more behind them
pub bad_or_refused_after-append : (k : ℕ) (xs ys : Reported) → bad_or_refused_after k (xs ++ ys) ≡ bad_or_refused_after (bad_or_refused_after k xs) ys
bad_or_refused_after-append k [] ys = refl
bad_or_refused_after-append k ((n, x) ∷ xs) ys = bad_or_refused_after-append (bad_or_refused_after_event k x) xs ys

-- The reader gave input, whose whole lines the viewer got, and the rest has begun. The output got the text of these lines.
pub record Underway (asked : Settings) (from to was now : Option (List ℕ)) (timeline : TimelineSoFar) : Type 0 where
  pub input : List ℕ
  pub reported : Reported
  pub ended : List (List ℕ)
  pub rest : List ℕ
  pub consumed : Consumes from to input
  pub whole : input ≡ with_feeds ended ++ rest
  pub each : AllByRecursion IsOneLine ended
  pub story : Story opening_progress (map strip_carriage_return ended) reported timeline.position.progress
  pub stands : KeepsLine timeline.position.begun rest
  pub schedule : timeline.viewer.schedule ≡ schedule_after None reported
  pub bad_or_refused : timeline.viewer.bad_or_refused ≡ bad_or_refused_after 0 reported
  pub first : ScreenState
  pub text : List ℕ
  pub blank : IsBlank asked first
  pub takes : ScreenTakesAll None first reported (state_of timeline.viewer.screen) [] text
  pub wrote : Appends was now text
  pub empty : string_bytes timeline.viewer.screen.text ≡ []

-- at the start nothing has been read, and nothing written
pub Underway-none : (asked : Settings) (from was : Option (List ℕ)) (timeline : TimelineSoFar)
    → timeline.position.progress ≡ opening_progress → timeline.position.begun ≡ Some [] → timeline.viewer.schedule ≡ None
    → timeline.viewer.bad_or_refused ≡ 0 → IsBlank asked (state_of timeline.viewer.screen) → string_bytes timeline.viewer.screen.text ≡ []
    → Underway asked from from was was timeline
Underway-none asked from was timeline first nothing schedule bad_or_refused blank empty = record {
  input = [];
  reported = [];
  ended = [];
  rest = [];
  consumed = Consumes-nil from;
  whole = refl;
  each = tt;
  story = (refl, first);
  stands = subst (λ k. KeepsLine k []) (sym nothing) stands_for_nothing;
  schedule = schedule;
  bad_or_refused = bad_or_refused;
  first = state_of timeline.viewer.screen;
  text = [];
  blank = blank;
  takes = (refl, refl);
  wrote = Appends-nil was;
  empty = empty;
}

-- what a screen whose text is cleared shows, as it is shown behind the text that was written before
shown_behind : (p pending after : List ℕ) (s : Option Figures) (before : Reported) (old new : ScreenState) (reported : Reported)
    → s ≡ schedule_after None before → pending ≡ [] → ScreenTakesAll s old reported new pending after
    → ScreenTakesAll (schedule_after None before) old reported new p (p ++ after)
shown_behind p pending after s before old new reported schedule empty h =
    subst (λ (t : List ℕ). ScreenTakesAll (schedule_after None before) old reported new t (p ++ after)) (append-nil p)
    (subst (λ (t : List ℕ). ScreenTakesAll (schedule_after None before) old reported new (p ++ t) (p ++ after)) empty
    (subst (λ (s : Option Figures). ScreenTakesAll s old reported new (p ++ pending) (p ++ after)) schedule
    (all_behind p s old reported new pending after h)))

-- a piece that is read, told and written leaves the timeline underway
pub Underway-more : (asked : Settings) (from mid to was between now : Option (List ℕ)) (s t : TimelineSoFar) (piece : List ℕ)
    → (h : Underway asked from mid was between s) → Consumes mid to piece
    → WatchesAndWrites s.viewer t.viewer between now (λ reported. ReportsPiece s.position h.rest piece reported t.position)
    → string_bytes t.viewer.screen.text ≡ []
    → Underway asked from to was now t
Underway-more asked from mid to was between now s t piece h consumed written empty =
    let w = written.watches in
    let on = w.holds in
    record {
      input = h.input ++ piece;
      reported = h.reported ++ w.reported;
      ended = h.ended ++ on.ended;
      rest = on.rest;
      consumed = Consumes-trans from mid to h.input piece h.consumed consumed;
      whole = with_feeds-join [] h.input h.rest piece on.rest h.ended on.ended h.whole on.whole;
      each = AllByRecursion-append h.ended on.ended h.each on.each;
      story =
          subst (λ ls. Story opening_progress ls (h.reported ++ w.reported) t.position.progress)
          (sym (map-append strip_carriage_return h.ended on.ended))
          (Story-append opening_progress s.position.progress t.position.progress (map strip_carriage_return h.ended)
          (map strip_carriage_return on.ended) h.reported w.reported h.story on.story);
      stands = on.stands;
      schedule = w.schedule ∙ ap (λ k. schedule_after k w.reported) h.schedule ∙ sym (schedule_after-append None h.reported w.reported);
      bad_or_refused = w.bad_or_refused ∙ ap (λ k. bad_or_refused_after k w.reported) h.bad_or_refused ∙ sym (bad_or_refused_after-append 0 h.reported w.reported);
      first = h.first;
      text = h.text ++ written.text;
      blank = h.blank;
      takes =
          all_append None h.first (state_of s.viewer.screen) (state_of t.viewer.screen) h.reported w.reported [] h.text (h.text ++ written.text) h.takes
          (shown_behind h.text (string_bytes s.viewer.screen.text) written.text s.viewer.schedule h.reported (state_of s.viewer.screen)
          (state_of t.viewer.screen) w.reported h.schedule h.empty w.shows);
      wrote = Appends-trans was between now h.text written.text h.wrote written.wrote;
      empty = empty;
    }

-- a timeline whose reader has no more and whose last line is reported is done
pub Underway-ends : (asked : Settings) (from mid to was between now : Option (List ℕ)) (timeline : TimelineSoFar) (outcome : Outcome)
    → (h : Underway asked from mid was between timeline) → Consumes mid to [] → IsAtEnd to → Closes timeline h.rest between now outcome
    → IsTimeline asked from to was now outcome
Underway-ends asked from mid to was between now timeline outcome h consumed at_end f =
    let count : bad_or_refused_after timeline.viewer.bad_or_refused f.reported ≡ bad_or_refused_after 0 (h.reported ++ f.reported) =
    ap (λ k. bad_or_refused_after k f.reported) h.bad_or_refused ∙ sym (bad_or_refused_after-append 0 h.reported f.reported) in
    let last : schedule_after timeline.viewer.schedule f.reported ≡ schedule_after None (h.reported ++ f.reported) =
    ap (λ s. schedule_after s f.reported) h.schedule ∙ sym (schedule_after-append None h.reported f.reported) in
    record {
      input = h.input;
      reported = h.reported ++ f.reported;
      final = f.final;
      consumed = subst (Consumes from to) (append-nil h.input) (Consumes-trans from mid to h.input [] h.consumed consumed);
      at_end = at_end;
      story =
          subst (λ ls. Story opening_progress ls (h.reported ++ f.reported) f.final)
          (sym (ap lines h.whole ∙ lines-with_feeds h.ended h.rest h.each))
          (Story-append opening_progress timeline.position.progress f.final (map strip_carriage_return h.ended)
          (lines h.rest) h.reported f.reported h.story f.story);
      clean = f.clean ∙ ap (λ k. k == 0) count;
      before = f.before;
      notes = f.notes ∙ ap (λ k. f.before ++ last_notes (schedule_after timeline.viewer.schedule f.reported) k) count
          ∙ ap (λ s. f.before ++ last_notes s (bad_or_refused_after 0 (h.reported ++ f.reported))) last;
      text = h.text ++ f.text;
      shown = record {
        first = h.first;
        last = f.last;
        taken = h.text ++ f.taken;
        blank = h.blank;
        takes =
            all_append None h.first (state_of timeline.viewer.screen) f.last h.reported f.reported [] h.text (h.text ++ f.taken) h.takes
            (shown_behind h.text (string_bytes timeline.viewer.screen.text) f.taken timeline.viewer.schedule h.reported
            (state_of timeline.viewer.screen) f.last f.reported h.schedule h.empty f.takes);
        closes =
            subst (λ (s : Option Figures). TextCloses s f.last (h.text ++ f.taken) (h.text ++ f.text)) last
            (closes_behind h.text (schedule_after timeline.viewer.schedule f.reported) f.last f.taken f.text f.closes);
      };
      wrote = Appends-trans was between now h.text f.text h.wrote f.wrote;
    }
