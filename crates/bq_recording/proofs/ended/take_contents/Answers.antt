use Rattle.std.proofs.Common.{◌∷◌, [], sym, ap, ◌∙◌}
use Rattle.bq_history.specs.Items.{part_item}
use Rattle.bq_shared.specs.Parts.{cpu_part, inbox_part, lobby_part}
use Rattle.bq_shared.specs.declared.cells.NumberedCpu.{NumberedCpu}
use Rattle.bq_shared.specs.declared.cells.NumberedInbox.{NumberedInbox}
use Rattle.bq_shared.specs.declared.cells.OneLobby.{OneLobby}
use Rattle.bq_recording.proofs.ClosingLemmas.{gathered}
use Rattle.bq_recording.proofs.ended.take_contents.Goals as goal

pub returns : goal.returns
returns g c =
    let lobby = c.into_parts-lobby_content in
    let first = lobby.ensures.parts.1 ∙ ap (λ (h : OneLobby). part_item (lobby_part h.state) ∷ []) (sym lobby.ensures.parts.0) in
    gathered {A = NumberedCpu g.row.Q.Denot g.row.Q-R.Denot} {B = NumberedInbox} (λ x. cpu_part x.number x.state)
    (λ y. inbox_part y.number y.state) lobby.result.0.state c.gather-inboxes.new.all c.gather-cpus.new.all lobby.result.1
    c.gather-cpus.result.items c.gather-inboxes.result.items first c.gather-cpus.ensures.parts c.gather-inboxes.ensures.parts
