use Rattle.std.proofs.Common.{Ok, ◌≡◌, ℕ, ap, sym, subst, ◌∙◌}
use Rattle.bq_shared.specs.Parts.{cpu_part, inbox_part, HasPart}
use Rattle.bq_shared.proofs.LookLemmas.{SeenBoth, both_once, both_ids}
use Rattle.bq_shared.proofs.CallStepLemmas.{drain_moves}
use Rattle.bq_machine.proofs.AheadLemmas.{ahead_of}
use Rattle.bq_shared.specs.PackedReplies.{has_loads}
use Rattle.bq_machine.proofs.machine.Machine.drain_at.Goals as goal

pub drain-reply-requires-clause-once : goal.drain-reply-requires-clause-once
drain-reply-requires-clause-once g c =
    let d = g.Q.R.Discipline.discipline in
    let n = c.args.self.now.recorder.history.setup in
    let own = c.cpu.inside.cell.content in
    let box = c.inbox.inside.cell.content in
    let P = c.deref_mut-cpu.result.now in
    let B = c.deref_mut-inbox.result.now in
    let here = c.cpu.view_is ∙ c.look_at_both.ensures.a in
    let there = c.inbox.view_is ∙ c.look_at_both.ensures.b in
    let at : P.number ≡ c.args.processor = ap (λ x. x.number) c.deref_mut-cpu.ensures.value ∙ c.lock_processor-guard.ensures.own in
    let same : B.number ≡ P.number = ap (λ x. x.number) c.deref_mut-inbox.ensures.value ∙ c.lock_inbox-inbox_guard.ensures.own ∙ sym at in
    let k = c.look_at_both.ensures.world in
    let both : SeenBoth d n P.number P.state B.state = (k.0, k.1, k.2, subst (λ (x : ℕ). HasPart k.0 (inbox_part x B.state)) same k.3) in
    let seen : SeenBoth d n own.number own.state box.state = rw (here, there) both in
    both_once d n own.number own.state box.state seen

pub drain-reply-requires-clause-ids : goal.drain-reply-requires-clause-ids
drain-reply-requires-clause-ids g c =
    let d = g.Q.R.Discipline.discipline in
    let n = c.args.self.now.recorder.history.setup in
    let own = c.cpu.inside.cell.content in
    let box = c.inbox.inside.cell.content in
    let P = c.deref_mut-cpu.result.now in
    let B = c.deref_mut-inbox.result.now in
    let here = c.cpu.view_is ∙ c.look_at_both.ensures.a in
    let there = c.inbox.view_is ∙ c.look_at_both.ensures.b in
    let at : P.number ≡ c.args.processor = ap (λ x. x.number) c.deref_mut-cpu.ensures.value ∙ c.lock_processor-guard.ensures.own in
    let same : B.number ≡ P.number = ap (λ x. x.number) c.deref_mut-inbox.ensures.value ∙ c.lock_inbox-inbox_guard.ensures.own ∙ sym at in
    let k = c.look_at_both.ensures.world in
    let both : SeenBoth d n P.number P.state B.state = (k.0, k.1, k.2, subst (λ (x : ℕ). HasPart k.0 (inbox_part x B.state)) same k.3) in
    let seen : SeenBoth d n own.number own.state box.state = rw (here, there) both in
    both_ids d n own.number own.state box.state seen

pub commit_two-requires-clause-may : goal.commit_two-requires-clause-may
commit_two-requires-clause-may g c =
    let d = g.Q.R.Discipline.discipline in
    let n = c.args.self.now.recorder.history.setup in
    let own = c.cpu.inside.cell.content in
    let box = c.inbox.inside.cell.content in
    let here = c.cpu.view_is ∙ c.look_at_both.ensures.a in
    let there = c.inbox.view_is ∙ c.look_at_both.ensures.b in
    let at : own.number ≡ c.args.processor =
    ap (λ x. x.number) (here ∙ c.deref_mut-cpu.ensures.value) ∙ c.lock_processor-guard.ensures.own in
    let box_at : box.number ≡ c.args.processor =
    ap (λ x. x.number) (there ∙ c.deref_mut-inbox.ensures.value) ∙ c.lock_inbox-inbox_guard.ensures.own in
    let k = c.deref_mut.result.now.1 in
    let t = c.drain-reply in (
      cpu_part own.number own.state,
      inbox_part box.number box.state,
      c.cpu.invariant.0,
      c.inbox.invariant.0,
      rw (c.draft-draft.ensures, c.of.ensures, c.hold_calls-held.ensures.record, c.calls.ensures.value, t.ensures.emptied, box_at, at)
          (drain_moves d n c.args.processor c.now-now.result own.state t.new.self box.state t.new.scratch k t.result t.ensures.share),
    )

pub commit_two-requires-clause-reported : goal.commit_two-requires-clause-reported
commit_two-requires-clause-reported g c =
    let t = c.drain-reply in
    rw (c.draft-draft.ensures, c.of.ensures, c.hold_calls-held.ensures.record, c.calls.ensures.value)
    (ahead_of (λ x. x.account) c.open_board-counter_board.result t.new.board c.args.working.now.caller.1
    c.close_board.new.self.caller.1 t.new.scratch c.close_board.new.self.account
    (c.open_board-counter_board.ensures.counter_board ∙ c.requires.account) t.ensures.board c.close_board.ensures.account
    (ap (λ x. x.1) (c.close_board.ensures.caller ∙ c.open_board-counter_board.ensures.caller)))

pub of-requires-clause-answer : goal.of-requires-clause-answer
of-requires-clause-answer g c = ap (λ r. has_loads (Ok r)) c.drain-reply.ensures.share.3
