-- No event but the beginning of a wake is answered by loads.
use Rattle.std.proofs.Common.{◌≡◌, ℕ, List, Result, Ok, Err, false, refl, ap}
use Rattle.bq_shared.specs.PackedReplies.{has_loads}
use Rattle.bq_disc.specs.Tasks.{Task}
use Rattle.bq_disc.specs.Discipline.{Discipline}
use Rattle.bq_parts.specs.declared.lobby_entry.LobbyEntry.{LobbyEntry}
use Rattle.bq_parts.specs.declared.reply.Reply.{Reply}
use Rattle.bq_parts.specs.declared.refusal.Refusal.{Refusal}
use Rattle.bq_parts.specs.Processors.{Processor}
use Rattle.bq_parts.specs.Shares.{Admits, Retires, Blocks, Installs}
use Rattle.bq_installed.specs.Installed.{InstalledFacts}
use Rattle.bq_hooks.specs.declared.hook.Hook.{Hook}

-- no admission is answered by loads
pub admits_brief : (id : ℕ) (t : Task) (lobby : List LobbyEntry) (a : Result Reply Refusal) (lobby' : List LobbyEntry)
    → Admits id t lobby a lobby' → has_loads a ≡ false
admits_brief id t lobby (Ok r) lobby' s = ap (λ (x : Reply). has_loads (Ok x)) s.1
admits_brief id t lobby (Err e) lobby' s = refl

-- no retirement is answered by loads
pub retires_brief : (id : ℕ) (lobby : List LobbyEntry) (a : Result Reply Refusal) (lobby' : List LobbyEntry)
    → Retires id lobby a lobby' → has_loads a ≡ false
retires_brief id lobby (Ok r) lobby' s = ap (λ (x : Reply). has_loads (Ok x)) s.1
retires_brief id lobby (Err e) lobby' s = refl

-- no block is answered by loads
pub blocks_brief : (d : Discipline) (processor now : ℕ) (p : Processor) (lobby : List LobbyEntry) (a : Result Reply Refusal)
    (q : Processor) (lobby' : List LobbyEntry)
    → Blocks d processor now p lobby a q lobby' → has_loads a ≡ false
blocks_brief d processor now p lobby (Ok r) q lobby' s = ap (λ (x : Reply). has_loads (Ok x)) s.1.2
blocks_brief d processor now p lobby (Err e) q lobby' s = refl

-- no installation of a policy is answered by loads
pub installs_brief : (h : Hook) (drawn : ℕ) (p : Processor) (new : InstalledFacts) (a : Result Reply Refusal) (q : Processor)
    → Installs h drawn p new a q → has_loads a ≡ false
installs_brief h drawn p new (Ok r) q s = ap (λ (x : Reply). has_loads (Ok x)) s.1
installs_brief h drawn p new (Err e) q s = refl
