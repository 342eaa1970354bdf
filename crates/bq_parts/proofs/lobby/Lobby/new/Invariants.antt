use Rattle.std.proofs.Common.{◌≡◌, replicate}
use Rattle.bq_parts.specs.declared.lobby_entry.LobbyEntry.TheVariants.{Absent}
use Rattle.bq_parts.proofs.lobby.Lobby.new.Given as goal

abbrev pub invariant-entries : goal.invariant-entries
invariant-entries l = l.entries.items ≡ replicate l.counter Absent
