use Rattle.std.proofs.Common.{◌∙◌}
use Rattle.bq_parts.specs.Shares.{BeginsWake}
use Rattle.bq_shared.specs.Parts.{cpu_part, lobby_part}
use Rattle.bq_shared.proofs.LookLemmas.{SeenLobby, seen_own}
use Rattle.bq_shared.proofs.WakeLemmas.{begun_hand}
use Rattle.bq_shared.proofs.CallStepLemmas.{begin_moves}
use Rattle.bq_machine.proofs.machine.Machine.begin_in_lobby.Goals as goal

pub commit_two-requires-clause-may : goal.commit_two-requires-clause-may
commit_two-requires-clause-may g c =
    let d = g.Q.R.Discipline.discipline in
    let n = c.args.self.now.recorder.history.setup in
    let own = c.args.cpu.now.content in
    let lobby = c.lobby.inside.cell.content.state in
    let b = c.begin_wake-reply in
    let k = c.deref_mut-journal.result.now.1 in
    let share : BeginsWake c.args.task k.loads own.state lobby b.result b.new.self b.new.lobby = rw c.kept.ensures at b.ensures.share in (
      cpu_part own.number own.state,
      lobby_part lobby,
      c.requires.held,
      c.lobby.invariant.0,
      rw (c.draft-draft.ensures, c.new.ensures, c.event_twice-events.ensures.for_history, c.with_room.ensures, c.no_calls.ensures.for_history)
          (begin_moves d n own.number c.args.task own.state b.new.self lobby b.new.lobby k b.result c.requires.below share),
    )

pub commit_two-requires-clause-reported : goal.commit_two-requires-clause-reported
commit_two-requires-clause-reported g c = rw (c.draft-draft.ensures, c.new.ensures, c.no_calls.ensures.for_history) c.requires.account

pub returns-clause-hand : goal.returns-clause-hand
returns-clause-hand g c =
    let d = g.Q.R.Discipline.discipline in
    let n = c.args.self.now.recorder.history.setup in
    let own = c.args.cpu.now.content in
    let lobby = c.lobby.inside.cell.content.state in
    let b = c.begin_wake-reply in
    let k = c.deref_mut-journal.result.now.1 in
    let there = c.lobby.view_is ∙ c.look.ensures.same in
    let seen : SeenLobby d n lobby = rw there c.look.ensures.world in
    let share : BeginsWake c.args.task k.loads own.state lobby b.result b.new.self b.new.lobby = rw c.kept.ensures at b.ensures.share in
    rw (c.commit_two.ensures.receipt.1, c.draft-draft.ensures, c.new.ensures, c.with_room.ensures, c.commit_two.ensures.a.0)
    (begun_hand c.args.task k.loads own.state lobby b.result b.new.self b.new.lobby share (seen_own d n lobby seen c.args.task))
