use Rattle.std.proofs.Common.{◌==◌, ℕ, ◌++◌, Option, ap, ◌∙◌, refl, subst}
use Rattle.std.specs.Prelude.{string_bytes}
use Rattle.std.specs.Str.Lines.{lines}
use Rattle.bq_trace.specs.Reporting.{Story}
use Rattle.bq_schedule.specs.Figures.{Figures}
use Rattle.std.specs.Io.KnownBytes.{Appends}
use Rattle.bq_streams.specs.Counts.{counted_inner}
use Rattle.bq_timeline.specs.Notes.{absent_notes, last_notes}
use Rattle.bq_timeline.specs.ScreenTexts.{state_of}
use Rattle.bq_timeline.specs.Timelines.{Watches}
use Rattle.bq_timeline.specs.TraceTexts.{TextCloses}
use Rattle.bq_timeline.specs.Watching.{schedule_after}
use Rattle.bq_timeline.proofs.WatchLemmas.{watches_what_it_gets}
use Rattle.bq_timeline.proofs.whole_timeline.TimelineSoFar.finish.Goals as goal

pub returns-clause-reported : goal.returns-clause-reported
returns-clause-reported g c = λ begun stands.
    let old = c.args.self.now in
    let new = c.run_last_line.new.sink in
    let w : Watches old.viewer new (string_bytes new.screen.text) (λ reported. Story old.position.progress (lines begun) reported c.run_last_line.new.self.progress) =
    watches_what_it_gets old.viewer new new (λ reported. Story old.position.progress (lines begun) reported c.run_last_line.new.self.progress)
    (c.in_ok-run_last_line.ensures begun stands) refl refl refl in
    let ends = c.in_ok-end.ensures.notes in
    let before = string_bytes ends.begun.notes ++ absent_notes new.schedule ends.begun.tasks.items ends.begun.part in
    record {
      reported = w.reported;
      final = c.run_last_line.new.self.progress;
      story = w.holds;
      clean = ap (λ k. k == 0) (c.end.ensures.bad_or_refused ∙ w.bad_or_refused);
      before = before;
      notes = c.in_ok-notes.ensures.cases ∙ ends.notes ∙ ap (λ (s : Option Figures). before ++ last_notes s new.bad_or_refused) w.schedule
          ∙ ap (λ (k : ℕ). before ++ last_notes (schedule_after old.viewer.schedule w.reported) k) w.bad_or_refused;
      last = state_of new.screen;
      taken = string_bytes new.screen.text;
      text = string_bytes c.end.new.self.screen.text;
      takes = w.shows;
      closes =
          subst (λ (s : Option Figures). TextCloses s (state_of new.screen) (string_bytes new.screen.text) (string_bytes c.end.new.self.screen.text)) w.schedule
          c.in_ok-end.ensures.text;
      wrote =
          subst (Appends (g.W.Write.contents (counted_inner c.args.output.now)) (g.W.Write.contents (counted_inner c.write_text.new.self)))
          c.as_bytes.ensures.value c.in_ok-write_text.ensures.whole;
    }
