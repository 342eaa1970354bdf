use Rattle.std.proofs.Common.{◌≡◌, ◌∙◌, ap}
use Rattle.bq_shared.specs.Parts.{cpu_part}
use Rattle.bq_shared.proofs.LookLemmas.{Seen, seen_once, seen_ids}
use Rattle.bq_shared.proofs.CallStepLemmas.{tick_moves}
use Rattle.bq_machine.proofs.AheadLemmas.{ahead_of}
use Rattle.bq_machine.proofs.machine.Machine.tick_at.Goals as goal

pub tick-reply-requires-clause-once : goal.tick-reply-requires-clause-once
tick-reply-requires-clause-once g c =
    let d = g.Q.R.Discipline.discipline in
    let n = c.args.self.now.recorder.history.setup in
    let own = c.cpu.inside.cell.content in
    let here = c.cpu.view_is ∙ c.look.ensures.same in
    let seen : Seen d n own.number own.state = rw here c.look.ensures.world in
    seen_once d n own.number own.state seen

pub tick-reply-requires-clause-ids : goal.tick-reply-requires-clause-ids
tick-reply-requires-clause-ids g c =
    let d = g.Q.R.Discipline.discipline in
    let n = c.args.self.now.recorder.history.setup in
    let own = c.cpu.inside.cell.content in
    let here = c.cpu.view_is ∙ c.look.ensures.same in
    let seen : Seen d n own.number own.state = rw here c.look.ensures.world in
    seen_ids d n own.number own.state seen

pub commit_one-requires-clause-may : goal.commit_one-requires-clause-may
commit_one-requires-clause-may g c =
    let n = c.args.self.now.recorder.history.setup in
    let own = c.cpu.inside.cell.content in
    let same : own.number ≡ c.args.processor =
    ap (λ x. x.number) (c.cpu.view_is ∙ c.look.ensures.same ∙ c.deref_mut-cpu.ensures.value)
    ∙ c.lock_processor-guard.ensures.own in
    let k = c.deref_mut.result.now.1 in
    let t = c.tick-reply in (
      cpu_part own.number own.state,
      c.cpu.invariant.0,
      rw (c.draft-draft.ensures, c.of_tick.ensures, c.hold_calls-held.ensures.record, c.calls.ensures.value, same)
          (tick_moves g.Q.R.Discipline.discipline n c.args.processor c.now-now.result own.state t.new.self
          t.new.scratch k t.result t.ensures.share),
    )

pub commit_one-requires-clause-reported : goal.commit_one-requires-clause-reported
commit_one-requires-clause-reported g c =
    let t = c.tick-reply in
    rw (c.draft-draft.ensures, c.of_tick.ensures, c.hold_calls-held.ensures.record, c.calls.ensures.value)
    (ahead_of (λ x. x.account) c.open_board-counter_board.result t.new.board c.args.working.now.caller.1
    c.close_board.new.self.caller.1 t.new.scratch c.close_board.new.self.account
    (c.open_board-counter_board.ensures.counter_board ∙ c.requires.account) t.ensures.board c.close_board.ensures.account
    (ap (λ x. x.1) (c.close_board.ensures.caller ∙ c.open_board-counter_board.ensures.caller)))
