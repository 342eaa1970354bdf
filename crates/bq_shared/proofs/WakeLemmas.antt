-- The task that a wake takes into the hand, and places, is the one that was asked for.
use Rattle.std.proofs.Common.{◌≡◌, ℕ, List, Option, Some, sym, ap, ◌∙◌}
use Rattle.std.specs.Prelude.{Result, Ok, Err, OnOk, slice_index_or}
use Rattle.std.proofs.lemmas.Option.{same_Some}
use Rattle.std.specs.Option.{option_map}
use Rattle.bq_disc.specs.Tasks.{Task}
use Rattle.bq_parts.specs.declared.carried.Carried.{Carried}
use Rattle.bq_parts.specs.declared.waking.Placement.{Placement}
use Rattle.bq_parts.specs.declared.reply.Reply.{Reply}
use Rattle.bq_parts.specs.declared.refusal.Refusal.{Refusal}
use Rattle.bq_parts.specs.declared.lobby_entry.LobbyEntry.{LobbyEntry}
use Rattle.bq_parts.specs.declared.lobby_entry.LobbyEntry.TheVariants.{Absent, Sleeping}
use Rattle.bq_parts.specs.Processors.{Processor}
use Rattle.bq_parts.specs.Shares.{BeginsWake}

-- the task of an entry that comes into the hand has the entry's id
pub begun_hand : (id : ℕ) (loads : List ℕ) (p : Processor) (l : List LobbyEntry) (r : Result Reply Refusal) (q : Processor)
    (m : List LobbyEntry)
    → BeginsWake id loads p l r q m → ((t : Task) → slice_index_or l id Absent ≡ Sleeping t → t.id ≡ id)
    → OnOk r (option_map (λ (c : Carried). c.task.id) q.hand ≡ Some id)
begun_hand id loads p l (Ok r) q m b own =
    ap (λ (x : Processor). option_map (λ (c : Carried). c.task.id) x.hand) b.in_hand ∙ ap Some (own b.task b.sleeps)
begun_hand id loads p l (Err e) q m b own = tt

-- the task that leaves the hand has the id of the one that was there
pub placed_own : (id : ℕ) (hand : Option Carried) (carried : Carried) (x : Placement)
    → option_map (λ (c : Carried). c.task.id) hand ≡ Some id → hand ≡ Some carried → x.task ≡ carried.task
    → id ≡ x.task.id
placed_own id hand carried x e f g =
    same_Some id carried.task.id (sym e ∙ ap (option_map (λ (c : Carried). c.task.id)) f) ∙ ap (λ (t : Task). t.id) (sym g)
