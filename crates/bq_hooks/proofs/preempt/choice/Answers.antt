use Rattle.std.proofs.Common.{◌≡◌, Some, sym, ◌∙◌}
use Rattle.bq_disc.specs.Tasks.{id_of}
use Rattle.bq_hooks.proofs.ChosenLemmas.{choice_found}
use Rattle.bq_hooks.proofs.preempt.choice.Goals as goal

pub returns : goal.returns
returns g c =
    let members = g.Q.RunQueue.members c.args.queue.now in
    let d = g.Q.R.Discipline.discipline in
    let id : id_of (d.choice members) ≡ Some c.in_ok-choice.field-0 = sym c.choice.ensures ∙ c.in_ok-choice.was in
    c.get.ensures.task ∙ choice_found d members c.in_ok-choice.field-0 g.met.Q.R.Discipline.lawful c.requires.distinct id
