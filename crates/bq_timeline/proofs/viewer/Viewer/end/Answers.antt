-- The notes stand behind those that were there when the form had begun.
use Rattle.std.proofs.Common.{ℕ, ◌++◌, Option, ap, ◌∙◌, string_bytes}
use Rattle.bq_schedule.specs.Figures.{Figures}
use Rattle.bq_timeline.specs.Notes.{absent_notes, last_notes}
use Rattle.bq_timeline.proofs.viewer.Viewer.end.Goals as goal

pub returns-clause-notes : goal.returns-clause-notes
returns-clause-notes c =
    let begun = c.begin.new.self in
    let screen = begun.screen in
    let notes = λ (s : Option Figures) (n : ℕ).
    (string_bytes screen.notes ++ absent_notes s screen.tasks.items screen.part) ++ last_notes s n in
    record {
      begun = screen;
      begins = c.in_ok-begin.ensures.form;
      notes =
          c.in_ok-close.ensures.notes ∙ ap (λ (s : Option Figures). notes s begun.bad_or_refused) c.begin.ensures.schedule
          ∙ ap (notes c.args.self.now.schedule) c.begin.ensures.bad_or_refused;
    }
