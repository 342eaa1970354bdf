use Rattle.std.proofs.Common.{List, ℕ, ◌++◌, ◌∙◌, ap}
use Rattle.bq_drawing.specs.declared.legend.Key.{Key}
use Rattle.bq_drawing.specs.Keys.{tasks_shown}
use Rattle.bq_drawing.specs.Legends.{legend_text}
use Rattle.bq_drawing.specs.Frames.{picture_setting}
use Rattle.bq_drawing.specs.Writing.{key_beside}
use Rattle.bq_drawing.proofs.drawing.Drawing.legend.Goals as goal

pub returns-clause-text : goal.returns-clause-text
returns-clause-text c =
    let s = picture_setting c.args.frame.now in
    let given = c.as_slice.result.now in
    let tasks = tasks_shown s.tasks c.args.self.now.tasks in
    let key = c.key-key.result in
    let first = c.legend_top-first.result in
    c.in_ok-write_legend.ensures ∙ ap (λ (t : List ℕ). t ++ legend_text s given key first) c.new-text.ensures.bytes
    ∙ ap (λ (l : List ℕ). legend_text s l key first) (c.as_slice.ensures.value ∙ c.in_ok-tasks.ensures)
    ∙ ap (λ (k : Key). legend_text s tasks k first) c.key-key.ensures
    ∙ ap (λ n. legend_text s tasks (key_beside c.args.self.now.links c.args.rows.now) n) c.legend_top-first.ensures
