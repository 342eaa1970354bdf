use Rattle.std.proofs.Common.{◌≡◌, None}
use Rattle.bq_parts.specs.declared.event.Event.TheVariants.{Admit}
use Rattle.bq_parts.specs.Moves.{admitted}
use Rattle.bq_parts.specs.Refusals.{argument_refusal}
use Rattle.bq_shared.specs.Parts.{lobby_part}
use Rattle.bq_shared.proofs.CallStepLemmas.{admit_moves}
use Rattle.bq_machine.proofs.BriefLemmas.{admits_brief}
use Rattle.bq_machine.proofs.machine.Machine.admit_to_lobby.Goals as goal

pub commit_one-requires-clause-may : goal.commit_one-requires-clause-may
commit_one-requires-clause-may g c =
    let own = c.lobby.inside.cell.content.state in
    let k = c.deref_mut.result.now.1 in
    let a = c.args.admission in
    let n = c.args.self.now.recorder.history.setup in
    let fits : argument_refusal n (Admit a.task a.nice a.mask a.slice) ≡ None = rw (← c.args.self.now.setup) at c.requires.passed in
    let new : c.args.new ≡ admitted n a.task a.nice a.mask a.slice = rw (← c.args.self.now.setup) at c.requires.new in (
      lobby_part own,
      c.lobby.invariant.0,
      rw (c.draft-draft.ensures, c.without_calls.ensures, c.event.ensures)
          (admit_moves g.Q.R.Discipline.discipline n a.task a.nice a.mask a.slice own c.admit-reply.new.self k
          c.admit-reply.result fits (rw new at c.admit-reply.ensures.share)),
    )

pub commit_one-requires-clause-reported : goal.commit_one-requires-clause-reported
commit_one-requires-clause-reported g c = rw (c.draft-draft.ensures, c.without_calls.ensures) c.requires.account

pub without_calls-requires-clause-answer : goal.without_calls-requires-clause-answer
without_calls-requires-clause-answer g c =
    admits_brief c.args.admission.task _ _ c.admit-reply.result c.admit-reply.new.self c.admit-reply.ensures.share
