-- The notes on tasks, one after another.
use Rattle.std.proofs.Common.{◌≡◌, ℕ, ◌+◌, List, ◌++◌, ap, sym, ◌∙◌, append_assoc, append-nil, add-one, false, refl}
use Rattle.std.specs.Prelude.{◌||◌, nat_le}
use Rattle.bq_schedule.specs.Figures.{Figures, processor_in_figures}
use Rattle.bq_schedule.specs.Runnable.{undrained}
use Rattle.bq_timeline.specs.Notes.{reaches, waiting_note, waiting_notes}

-- before the first task there is no task
pub waiting_notes-none : (s : Figures) (old : List ℕ) → old ≡ old ++ waiting_notes s 0
unfolding waiting_notes
waiting_notes-none s old = sym (append-nil old)

-- a task's note stands behind those before it
pub waiting_notes-more : (s : Figures) (old now next : List ℕ) (task : ℕ)
    → now ≡ old ++ waiting_notes s task → next ≡ now ++ waiting_note task (undrained s task)
    → next ≡ old ++ waiting_notes s (task + 1)
unfolding waiting_notes
waiting_notes-more s old now next task h k =
    k ∙ ap (λ l. l ++ waiting_note task (undrained s task)) h
    ∙ append_assoc old (waiting_notes s task) (waiting_note task (undrained s task))
    ∙ ap (λ n. old ++ waiting_notes s n) (sym (add-one task))

-- no processor below the first reaches a moment
pub reaches_none : (s : Figures) (from : ℕ) → reaches s from 0 ≡ false
unfolding reaches
reaches_none s from = refl

-- whether some processor reaches a time goes on by one more processor
pub reaches_more : (s : Figures) (from p : ℕ) → reaches s from (p + 1) ≡ (reaches s from p || nat_le from (processor_in_figures s p).last)
unfolding reaches
reaches_more s from p = ap (λ n. reaches s from n) (add-one p)
