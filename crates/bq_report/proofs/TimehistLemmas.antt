-- The lines of the runs that go on, one after another.
use Rattle.std.proofs.Common.{◌≡◌, ℕ, ◌+◌, List, [], ◌++◌, Option, refl, ap, sym, ◌∙◌, subst, append_assoc, append-nil, add-one}
use Rattle.bq_schedule.specs.declared.change.Start.{Start}
use Rattle.bq_schedule.specs.declared.figures.ProcessorFigures.{ProcessorFigures}
use Rattle.bq_schedule.specs.Figures.{Figures, processor_in_figures}
use Rattle.bq_report.specs.declared.window.Window.{Window}
use Rattle.bq_report.specs.Names.{NamedTasks}
use Rattle.bq_report.specs.Timehist.{AreLastLines, IsShownRunner, runner_text}

-- a text is an old one and the last lines of the processors below a number
abbrev pub EndsIn : Window → NamedTasks → Figures → ℕ → List ℕ → List ℕ → Type 0
EndsIn w names s number old now = (lines : List ℕ) × AreLastLines w names s number lines × (now ≡ old ++ lines)

-- a processor's line stands behind a text, where its run is shown
abbrev pub AddsRunner : Window → NamedTasks → ℕ → ProcessorFigures → List ℕ → List ℕ → Type 0
AddsRunner w names number p now next =
    (part : Option Start) × IsShownRunner w number p.last p.running part × (next ≡ now ++ runner_text names p.last part)

-- before the first processor there is no processor
pub EndsIn-none : (w : Window) (names : NamedTasks) (s : Figures) (old : List ℕ) → EndsIn w names s 0 old old
unfolding AreLastLines
EndsIn-none w names s old = ([], refl, sym (append-nil old))

-- a processor's line stands behind those before it
pub EndsIn-more : (w : Window) (names : NamedTasks) (s : Figures) (number : ℕ) (p : ProcessorFigures) (old now next : List ℕ)
    → EndsIn w names s number old now → p ≡ processor_in_figures s number → AddsRunner w names number p now next
    → EndsIn w names s (number + 1) old next
unfolding AreLastLines
EndsIn-more w names s number p old now next h is step =
    let here : AddsRunner w names number (processor_in_figures s number) now next = subst (λ q. AddsRunner w names number q now next) is step in
    let own = runner_text names (processor_in_figures s number).last here.0 in
    let there : AreLastLines w names s (number + 1) (h.0 ++ own) =
    subst (λ n. AreLastLines w names s n (h.0 ++ own)) (sym (add-one number)) (h.0, here.0, h.1, here.1, refl) in
    (h.0 ++ own, there, here.2 ∙ ap (λ l. l ++ own) h.2 ∙ append_assoc old h.0 own)

-- a report with the last lines of all processors ends in the last lines
pub EndsIn-end : (w : Window) (names : NamedTasks) (s : Figures) (number end : ℕ) (old now : List ℕ)
    → number ≡ end → EndsIn w names s number old now → EndsIn w names s end old now
EndsIn-end w names s number end old now is h = subst (λ n. EndsIn w names s n old now) is h
