use Rattle.std.proofs.Common.{◌≡◌, ◌∙◌, ap, arith, List, replicate}
use Rattle.bq_schedule.specs.declared.figures.ProcessorFigures.{ProcessorFigures}
use Rattle.bq_schedule.specs.declared.figures.TaskFigures.{TaskFigures}
use Rattle.bq_schedule.specs.Figures.{Figures, unread, unknown}
use Rattle.bq_schedule.proofs.schedule.Schedule.new.Goals as goal

same_figures : (ps qs : List ProcessorFigures) (ts us : List TaskFigures) → ps ≡ qs → ts ≡ us →
    ◌≡◌ {A = Figures} (record { processors = ps; tasks = ts; refused = 0 }) (record { processors = qs; tasks = us; refused = 0 })
same_figures ps qs ts us p t = cc

pub returns : goal.returns
returns c =
    let count : c.processors.counter ≡ c.args.processors = omega arith in
    let all : c.tasks.counter ≡ 1024 = omega arith in
    same_figures _ _ _ _ (c.processors.invariant ∙ ap (λ n. replicate n unread) count)
    (c.tasks.invariant ∙ ap (λ n. replicate n unknown) all)
