use Rattle.std.proofs.Common.{true, refl}
use Rattle.bq_report.proofs.LegendLemmas.{notes_hidden, notes_idle, notes_task}
use Rattle.bq_report.proofs.legend.Legend.note_column.Goals as goal

pub returns-in_ok-insert-in-Task : goal.returns-in_ok-insert-in-Task
returns-in_ok-insert-in-Task c = λ e.
    notes_task e c.args.self.now
    (record { ran = c.args.self.now.ran; tasks = c.insert.new.self; has_hidden = c.args.self.now.has_hidden }) c.args.column
    c.in-Task.task c.in-Task.is c.in_ok-insert-in-Task.ensures.updates.0 refl refl

pub returns-in-Hidden : goal.returns-in-Hidden
returns-in-Hidden c = λ e.
    notes_hidden e c.args.self.now
    (record { ran = c.args.self.now.ran; tasks = c.args.self.now.tasks; has_hidden = true }) c.args.column c.in-Hidden.is
    refl refl refl

pub returns-in-Idle : goal.returns-in-Idle
returns-in-Idle c = λ e. notes_idle e c.args.self.now c.args.column c.in-Idle.is
