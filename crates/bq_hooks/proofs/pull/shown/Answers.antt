use Rattle.std.proofs.Common.{refl, ap, sym, ◌∙◌, length}
use Rattle.std.proofs.lemmas.Option.{slice_get_read}
use Rattle.std.specs.Prelude.{option_and_then}
use Rattle.bq_disc.specs.Tasks.{find_task}
use Rattle.bq_hooks.proofs.pull.shown.Goals as goal

pub returns : goal.returns
returns g c =
    let read = c.in_ok-get.ensures.lookup in
    let first = c.args.first.now in
    let there = slice_get_read first (length first) c.args.at c.in_ok-get.field-0.now refl read.3.0 read.1 in
    c.get-2.ensures.task ∙ ap (option_and_then (λ id. find_task id (g.Q.RunQueue.members c.args.queue.now))) (sym there)
