use Rattle.std.proofs.Common.{◌≡◌, ap, ◌∙◌}
use Rattle.bq_history.specs.Journals.{kept_after}
use Rattle.bq_shared.specs.Parts.{cpu_part, lobby_part, kept_by_block}
use Rattle.bq_shared.proofs.LookLemmas.{Seen, seen_ids}
use Rattle.bq_shared.proofs.CallStepLemmas.{block_moves}
use Rattle.bq_machine.proofs.BriefLemmas.{blocks_brief}
use Rattle.bq_machine.proofs.machine.Machine.block_at.Goals as goal

pub block-reply-requires : goal.block-reply-requires
block-reply-requires g c =
    let d = g.Q.R.Discipline.discipline in
    let n = c.args.self.now.recorder.history.setup in
    let own = c.cpu.inside.cell.content in
    let here = c.cpu.view_is ∙ c.look.ensures.same in
    let seen : Seen d n own.number own.state = rw here c.look.ensures.world in
    seen_ids d n own.number own.state seen

pub commit_two-requires-clause-may : goal.commit_two-requires-clause-may
commit_two-requires-clause-may g c =
    let d = g.Q.R.Discipline.discipline in
    let n = c.args.self.now.recorder.history.setup in
    let own = c.cpu.inside.cell.content in
    let lobby = c.lobby.inside.cell.content.state in
    let b = c.block-reply in
    let k = c.deref_mut.result.now.1 in
    let same : own.number ≡ c.args.processor =
    ap (λ x. x.number) (c.cpu.view_is ∙ c.look.ensures.same ∙ c.deref_mut-cpu.ensures.value)
    ∙ c.lock_processor-guard.ensures.own in
    let after : kept_after k c.after_block-kept.result ≡ kept_by_block c.args.processor b.result k =
    rw (c.kept.ensures, c.deref.ensures, ← c.deref_mut.ensures.value) at c.after_block-kept.ensures in (
      cpu_part own.number own.state,
      lobby_part lobby,
      c.cpu.invariant.0,
      c.lobby.invariant.0,
      rw (c.draft.ensures, c.without_calls-records.ensures, after, same)
          (block_moves d n c.args.processor c.now-now.result own.state b.new.self lobby b.new.lobby k b.result b.ensures.share),
    )

pub commit_two-requires-clause-reported : goal.commit_two-requires-clause-reported
commit_two-requires-clause-reported g c = rw (c.draft.ensures, c.without_calls-records.ensures) c.requires.account

pub without_calls-records-requires-clause-answer : goal.without_calls-records-requires-clause-answer
without_calls-records-requires-clause-answer g c =
    blocks_brief g.Q.R.Discipline.discipline c.args.processor c.now-now.result c.cpu.inside.cell.content.state
    c.lobby.inside.cell.content.state c.block-reply.result c.block-reply.new.self c.block-reply.new.lobby
    c.block-reply.ensures.share
