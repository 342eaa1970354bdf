-- All parts of a world, taken out of their locks.
use Rattle.std.specs.Prelude.{◌≡◌, ℕ, List, ◌∷◌, ◌++◌, map, length}
use Rattle.bq_history.specs.Whole.{Each}
use Rattle.bq_parts.specs.declared.lobby_entry.LobbyEntry.{LobbyEntry}
use Rattle.bq_parts.specs.World.{World, count_in}
use Rattle.bq_shared.specs.Parts.{cpu_part, inbox_part, lobby_part, HasPart}
use Rattle.bq_shared.specs.declared.cells.NumberedCpu.{NumberedCpu}
use Rattle.bq_shared.specs.declared.cells.NumberedInbox.{NumberedInbox}
use Rattle.bq_shared.specs.declared.world_part.WorldPart.{WorldPart}

-- the lobby, the part that f makes of each of the first list, and the part that h makes of each of the second
abbrev pub all_parts : {A B : Type 0} → List LobbyEntry → List A → List B → (A → WorldPart) → (B → WorldPart) → List WorldPart
all_parts seats xs ys f h = lobby_part seats ∷ (map f xs ++ map h ys)

-- the parts that came out of the locks
abbrev pub parts_out : {Q R : Type 0} → List LobbyEntry → List (NumberedCpu Q R) → List NumberedInbox → List WorldPart
parts_out lobby cpus inboxes = all_parts lobby cpus inboxes (λ c. cpu_part c.number c.state) (λ i. inbox_part i.number i.state)

-- the world of this many processors, in which this many generations were drawn, has these parts
abbrev pub IsMadeOf : ℕ → ℕ → List WorldPart → World → Type 0
IsMadeOf count drawn parts w = (count_in w ≡ count) × (length w.inboxes ≡ count) × (w.drawn ≡ drawn) × Each (HasPart w) parts
