use Rattle.std.proofs.Common.{◌≡◌, ◌<◌, None, leb-false}
use Rattle.bq_parts.specs.declared.event.Event.TheVariants.{Retire}
use Rattle.bq_parts.specs.Refusals.{argument_refusal}
use Rattle.bq_parts.specs.declared.refusal.Refusal.TheVariants as no
use Rattle.bq_parts.proofs.RefusalLemmas.{first_refusal_passed}
use Rattle.bq_shared.specs.Parts.{lobby_part}
use Rattle.bq_shared.proofs.CallStepLemmas.{retire_moves}
use Rattle.bq_machine.proofs.BriefLemmas.{retires_brief}
use Rattle.bq_machine.proofs.machine.Machine.retire_from_lobby.Goals as goal

pub without_calls-requires-clause-answer : goal.without_calls-requires-clause-answer
without_calls-requires-clause-answer g c = retires_brief c.args.task _ c.retire-reply.result c.retire-reply.new.self c.retire-reply.ensures.share

pub commit_one-requires-clause-may : goal.commit_one-requires-clause-may
commit_one-requires-clause-may g c =
    let own = c.lobby.inside.cell.content.state in
    let k = c.deref_mut.result.now.1 in
    let n = c.args.self.now.recorder.history.setup in
    let task = c.args.task in
    let fits : argument_refusal n (Retire task) ≡ None = c.requires.passed in
    let bound : task < 1024 = leb-false 1024 task (first_refusal_passed _ no.NoTask None fits).0 in (
      lobby_part own,
      c.lobby.invariant.0,
      rw (c.draft-draft.ensures, c.without_calls.ensures)
          (retire_moves g.Q.R.Discipline.discipline n task own c.retire-reply.new.self k c.retire-reply.result
          bound fits c.retire-reply.ensures.share),
    )

pub commit_one-requires-clause-reported : goal.commit_one-requires-clause-reported
commit_one-requires-clause-reported g c = rw (c.draft-draft.ensures, c.without_calls.ensures) c.requires.account
