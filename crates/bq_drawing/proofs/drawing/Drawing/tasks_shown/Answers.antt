use Rattle.std.proofs.Common.{List, ℕ, ◌∙◌, ap}
use Rattle.std.proofs.lemmas.List.{drop_all}
use Rattle.bq_drawing.specs.Keys.{tasks_shown}
use Rattle.bq_drawing.proofs.LegendLemmas.{shown_end, shown_next}
use Rattle.bq_drawing.proofs.drawing.Drawing.tasks_shown.Goals as goal

pub loop-task-preserved : goal.loop-task-preserved
loop-task-preserved c =
    shown_next c.args.self.now.tasks c.tasks-all.result.now c.loop-task.task-index _ _ _ _ c.loop-task-test.true
    c.in_ok-push_if_shown.ensures c.loop-task.invariant

pub returns : goal.returns
returns c =
    shown_end c.args.self.now.tasks c.tasks-all.result.now c.loop-task.task-index _ c.loop-task.tasks.items
    (drop_all c.loop-task.task-index c.tasks-all.result.now c.loop-task-test.false) c.loop-task.invariant
    ∙ ap (λ (l : List ℕ). tasks_shown l c.args.self.now.tasks) c.tasks-all.ensures
