use Rattle.std.proofs.Common.{◌≡◌, ap, ◌∙◌, arith, Some}
use Rattle.std.specs.Option.{option_map}
use Rattle.bq_parts.specs.declared.carried.Carried.{Carried}
use Rattle.bq_parts.specs.Choices.{by_programs}
use Rattle.bq_parts.specs.Shares.{Places}
use Rattle.bq_shared.specs.Parts.{cpu_part, inbox_part}
use Rattle.bq_shared.proofs.LookLemmas.{Seen, SeenInbox, seen_usable, seen_few}
use Rattle.bq_shared.proofs.WakeLemmas.{placed_own}
use Rattle.bq_shared.proofs.CallStepLemmas.{place_moves}
use Rattle.bq_machine.proofs.machine.Machine.end_in_inbox.Goals as goal

pub place_task-woken-requires-clause-usable : goal.place_task-woken-requires-clause-usable
place_task-woken-requires-clause-usable g c =
    let d = g.Q.R.Discipline.discipline in
    let n = c.args.self.now.recorder.history.setup in
    let own = c.look.new.self.content in
    let was = c.args.cpu.now.content in
    let seen : Seen d n own.number own.state =
    rw c.look.ensures.same (c.look.ensures.world (cpu_part was.number was.state) c.requires.held) in
    rw c.args.self.now.setup at (seen_usable d n own.number own.state seen)

pub push-requires : goal.push-requires
push-requires g c =
    let d = g.Q.R.Discipline.discipline in
    let n = c.args.self.now.recorder.history.setup in
    let box = c.inbox.inside.cell.content in
    let there = c.inbox.view_is ∙ c.look-2.ensures.same in
    let seen : SeenInbox d n box.number box.state = rw there c.look-2.ensures.world in
    omega (arith, seen_few d n box.number box.state seen)

pub commit_two-requires-clause-may : goal.commit_two-requires-clause-may
commit_two-requires-clause-may g c =
    let d = g.Q.R.Discipline.discipline in
    let n = c.args.self.now.recorder.history.setup in
    let own = c.look.new.self.content in
    let box = c.inbox.inside.cell.content in
    let k = c.deref_mut-journal.result.now.1 in
    let p = c.place_task-woken in
    let x = p.result in
    let there = c.inbox.view_is ∙ c.look-2.ensures.same in
    let same : box.number ≡ x.to = ap (λ b. b.number) (there ∙ c.deref_mut-inbox.ensures.value) ∙ c.lock_inbox-guard.ensures.own in
    let share : Places (by_programs d) n own.number c.args.now own.state p.new.content.scratch (Some x) p.new.content.state =
    rw (← c.args.self.now.setup) at p.ensures.share in
    let hand : option_map (λ (y : Carried). y.task.id) own.state.hand ≡ Some c.args.task = rw c.look.ensures.same c.requires.hand in
    let asked : c.args.task ≡ x.task.id = placed_own c.args.task own.state.hand share.carried x hand share.in_hand share.task in (
      cpu_part own.number own.state,
      inbox_part box.number box.state,
      rw c.look.ensures.same c.requires.held,
      c.inbox.invariant.0,
      rw (
        c.draft-draft.ensures,
        c.of-records.ensures,
        c.hold_calls-calls.ensures.record,
        c.calls.ensures.value,
        c.one_more.ensures,
        c.copy-kept.ensures,
        c.kept.ensures,
        c.push.ensures,
        p.ensures.number,
        same,
      ) (place_moves d n own.number c.args.now c.args.task own.state p.new.content.state
          box.state p.new.content.scratch k x asked share),
    )

pub commit_two-requires-clause-reported : goal.commit_two-requires-clause-reported
commit_two-requires-clause-reported g c =
    rw (c.draft-draft.ensures, c.of-records.ensures, c.hold_calls-calls.ensures.record, c.calls.ensures.value)
    c.place_task-woken.ensures.account
