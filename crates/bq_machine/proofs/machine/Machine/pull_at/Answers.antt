use Rattle.std.proofs.Common.{Ok, ◌≡◌, ◌≢◌, ap, ◌∙◌, arith}
use Rattle.bq_history.specs.Journals.{kept_after}
use Rattle.bq_shared.specs.Parts.{cpu_part, kept_by_pull}
use Rattle.bq_shared.proofs.LookLemmas.{SeenTwo, two_once, two_ids}
use Rattle.bq_shared.proofs.PullStepLemmas.{pull_moves}
use Rattle.bq_machine.proofs.AheadLemmas.{ahead_of}
use Rattle.bq_shared.specs.PackedReplies.{has_loads}
use Rattle.bq_machine.proofs.machine.Machine.pull_at.Goals as goal

pub pull-reply-requires-clause-inside : goal.pull-reply-requires-clause-inside
pull-reply-requires-clause-inside g c = omega (arith, c.requires.inside.0, c.args.self.now.few)

pub pull-reply-requires-clause-once : goal.pull-reply-requires-clause-once
pull-reply-requires-clause-once g c =
    let d = g.Q.R.Discipline.discipline in
    let n = c.args.self.now.recorder.history.setup in
    let own = c.cpu.inside.cell.content in
    let other = c.source.inside.cell.content in
    let here = c.cpu.view_is ∙ c.look_at_both.ensures.a in
    let there = c.source.view_is ∙ c.look_at_both.ensures.b in
    let own_at : own.number ≡ c.args.processor =
    ap (λ x. x.number) (here ∙ c.deref_mut-cpu.ensures.value) ∙ c.lock_both-guard.ensures.own in
    let other_at : other.number ≡ c.args.from =
    ap (λ x. x.number) (there ∙ c.deref_mut-source.ensures.value) ∙ c.lock_both-guard.ensures.own_source in
    let apart : own.number ≢ other.number = rw (own_at, other_at) c.requires.apart in
    let seen : SeenTwo d n own.number other.number own.state other.state apart = rw (here, there) c.look_at_both.ensures.world in
    two_once d n own.number other.number own.state other.state apart seen

pub pull-reply-requires-clause-ids : goal.pull-reply-requires-clause-ids
pull-reply-requires-clause-ids g c =
    let d = g.Q.R.Discipline.discipline in
    let n = c.args.self.now.recorder.history.setup in
    let own = c.cpu.inside.cell.content in
    let other = c.source.inside.cell.content in
    let here = c.cpu.view_is ∙ c.look_at_both.ensures.a in
    let there = c.source.view_is ∙ c.look_at_both.ensures.b in
    let own_at : own.number ≡ c.args.processor =
    ap (λ x. x.number) (here ∙ c.deref_mut-cpu.ensures.value) ∙ c.lock_both-guard.ensures.own in
    let other_at : other.number ≡ c.args.from =
    ap (λ x. x.number) (there ∙ c.deref_mut-source.ensures.value) ∙ c.lock_both-guard.ensures.own_source in
    let apart : own.number ≢ other.number = rw (own_at, other_at) c.requires.apart in
    let seen : SeenTwo d n own.number other.number own.state other.state apart = rw (here, there) c.look_at_both.ensures.world in
    two_ids d n own.number other.number own.state other.state apart seen

pub commit_two-requires-clause-may : goal.commit_two-requires-clause-may
commit_two-requires-clause-may g c =
    let d = g.Q.R.Discipline.discipline in
    let n = c.args.self.now.recorder.history.setup in
    let own = c.cpu.inside.cell.content in
    let other = c.source.inside.cell.content in
    let here = c.cpu.view_is ∙ c.look_at_both.ensures.a in
    let there = c.source.view_is ∙ c.look_at_both.ensures.b in
    let own_at : own.number ≡ c.args.processor =
    ap (λ x. x.number) (here ∙ c.deref_mut-cpu.ensures.value) ∙ c.lock_both-guard.ensures.own in
    let other_at : other.number ≡ c.args.from =
    ap (λ x. x.number) (there ∙ c.deref_mut-source.ensures.value) ∙ c.lock_both-guard.ensures.own_source in
    let apart : c.args.processor ≢ c.args.from = c.requires.apart in
    let k = c.deref_mut.result.now.1 in
    let t = c.pull-reply in
    let after : kept_after k c.after_pull-kept.result ≡ kept_by_pull c.args.processor c.args.from t.result k =
    rw (c.kept.ensures, c.deref.ensures, ← c.deref_mut.ensures.value) at c.after_pull-kept.ensures in (
      cpu_part own.number own.state,
      cpu_part other.number other.state,
      c.cpu.invariant.0,
      c.source.invariant.0,
      rw (c.draft-draft.ensures, c.of.ensures, c.hold_calls-held.ensures.record, c.calls.ensures.value, after, own_at, other_at)
          (pull_moves d n c.args.processor c.args.from c.now-now.result own.state t.new.self other.state t.new.source
          t.new.scratch k t.result apart t.ensures.share),
    )

pub commit_two-requires-clause-reported : goal.commit_two-requires-clause-reported
commit_two-requires-clause-reported g c =
    let t = c.pull-reply in
    rw (c.draft-draft.ensures, c.of.ensures, c.hold_calls-held.ensures.record, c.calls.ensures.value)
    (ahead_of (λ x. x.account) c.open_board-counter_board.result t.new.board c.args.working.now.caller.1
    c.close_board.new.self.caller.1 t.new.scratch c.close_board.new.self.account
    (c.open_board-counter_board.ensures.counter_board ∙ c.requires.account) t.ensures.board c.close_board.ensures.account
    (ap (λ x. x.1) (c.close_board.ensures.caller ∙ c.open_board-counter_board.ensures.caller)))

pub of-requires-clause-answer : goal.of-requires-clause-answer
of-requires-clause-answer g c = ap (λ r. has_loads (Ok r)) c.pull-reply.ensures.share.replies
