use Rattle.std.proofs.Common.{◌≡◌, replicate}
use Rattle.bq_schedule.specs.Figures.{unread, unknown}
use Rattle.bq_schedule.proofs.schedule.Schedule.new.Given as goal

abbrev pub invariant-processors : goal.invariant-processors
invariant-processors l = l.figures.items ≡ replicate l.counter unread

abbrev pub invariant-tasks : goal.invariant-tasks
invariant-tasks l = l.tasks.items ≡ replicate l.counter unknown
