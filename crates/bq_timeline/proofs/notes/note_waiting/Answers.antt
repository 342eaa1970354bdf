use Rattle.std.proofs.Common.{ℕ, ◌++◌, Option, ap, ◌∙◌}
use Rattle.std.specs.Prelude.{string_bytes}
use Rattle.bq_timeline.specs.Notes.{waiting_note}
use Rattle.bq_timeline.proofs.NoteLemmas.{waiting_notes-none, waiting_notes-more}
use Rattle.bq_timeline.proofs.notes.note_waiting.Goals as goal

pub loop-task-init : goal.loop-task-init
loop-task-init c = waiting_notes-none c.args.schedule.now _

pub loop-task-preserved : goal.loop-task-preserved
loop-task-preserved c =
    let task = c.loop-task.task in
    let now = string_bytes c.loop-task.notes in
    waiting_notes-more c.args.schedule.now _ now _ task c.loop-task.invariant
    (c.in_ok-note_task.ensures ∙ ap (λ (place : Option ℕ). now ++ waiting_note task place) c.undrained.ensures)
