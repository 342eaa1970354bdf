-- What every world has to which a history leads: its processors, inboxes and lobby, in order.
use Rattle.std.proofs.Common.{◌≡◌, ℕ, List, [], length, ap, ◌∙◌}
use Rattle.std.specs.Prelude.{Result, Ok, Err}
use Rattle.std.proofs.lemmas.List.{length-set, length-replicate}
use Rattle.bq_disc.specs.Discipline.{Discipline}
use Rattle.bq_bpf.specs.declared.board.CounterCall.{CounterCall}
use Rattle.bq_parts.specs.declared.event.Event.{Event}
use Rattle.bq_parts.specs.declared.event.Event.TheVariants.{Admit, Retire, Draw, Install, BeginWake, EndWake, Drain, Tick, Block, Pull}
use Rattle.bq_parts.specs.declared.reply.Reply.{Reply}
use Rattle.bq_parts.specs.declared.refusal.Refusal.{Refusal}
use Rattle.bq_parts.specs.declared.lobby_entry.LobbyEntry.TheVariants.{Absent, Away}
use Rattle.bq_parts.specs.Processors.{new_processor}
use Rattle.bq_parts.specs.World.{World, opening_world, count_in}
use Rattle.bq_parts.specs.Choices.{PolicySemantics, by_programs}
use Rattle.bq_parts.specs.Steps.{WorldStep, Performs}
use Rattle.bq_parts.specs.Orderly.{IsOrderly}
use Rattle.bq_core.proofs.OrderLemmas.{step_tidy, step_keeps, opening_is_orderly}
use Rattle.bq_history.specs.History.{IsReached}
use Rattle.bq_history.proofs.ReachingLemmas.{reached_keeps}
use Rattle.bq_shared.specs.Parts.{RecordStep}
use Rattle.bq_shared.specs.declared.record.Record.{Record}

-- it has this many processors, each with an inbox; an entry for each id; and it is in order
pub record IsSound (n : ℕ) (w : World) : Type 0 where
  pub many : count_in w ≡ n
  pub boxes : length w.inboxes ≡ n
  pub lobby : length w.lobby ≡ 1024
  pub orderly : IsOrderly w

-- a step leaves the lobby as long as it was, whether it is done or refused, by cases:
lobby_after : (s : PolicySemantics) (w : World) (e : Event) (calls : List CounterCall) (r : Reply) (u : World)
    → Performs s w e calls r u → length u.lobby ≡ length w.lobby
lobby_after s w (Admit id nice mask slice) calls r u k = ap (λ (v : World). length v.lobby) k.3 ∙ ap length k.1.2 ∙ length-set w.lobby id _
lobby_after s w (Retire id) calls r u k = ap (λ (v : World). length v.lobby) k.3 ∙ ap length k.1.2 ∙ length-set w.lobby id Absent
lobby_after s w Draw calls r u k = ap (λ (v : World). length v.lobby) k.2
lobby_after s w (Install processor h g policy) calls r u k = ap (λ (v : World). length v.lobby) k.3
lobby_after s w (BeginWake processor id) calls r u k =
    ap (λ (v : World). length v.lobby) k.4 ∙ ap length k.2.away ∙ length-set w.lobby id Away
lobby_after s w (EndWake processor now) calls r u k = ap (λ (v : World). length v.lobby) k.4
lobby_after s w (Drain processor now) calls r u k = ap (λ (v : World). length v.lobby) k.2
lobby_after s w (Tick processor now) calls r u k = ap (λ (v : World). length v.lobby) k.2
lobby_after s w (Block processor now) calls r u k =
    ap (λ (v : World). length v.lobby) k.4 ∙ ap length k.2.1.3 ∙ length-set w.lobby k.2.0.id _
lobby_after s w (Pull processor from now) calls r u k = ap (λ (v : World). length v.lobby) k.3

lobby_stays : (s : PolicySemantics) (w : World) (e : Event) (calls : List CounterCall) (r : Result Reply Refusal) (u : World)
    → WorldStep s w e calls r u → length u.lobby ≡ length w.lobby
lobby_stays s w e calls (Ok r) u k = lobby_after s w e calls r u k.1
lobby_stays s w e calls (Err r) u k = ap (λ (v : World). length v.lobby) k.1

-- a step that is recorded keeps a world sound, and the opening world is sound:
step_sound : (d : Discipline) (n : ℕ) (v : World) (x : Record) (u : World) → IsSound n v → RecordStep d v x u → IsSound n u
step_sound d n v x u s reported =
    let k = reported.0 in
    let y = step_tidy (by_programs d) v x.event x.calls x.reply u k s.orderly in
    record {
      many = y.many ∙ s.many;
      boxes = y.boxes ∙ s.many;
      lobby = lobby_stays (by_programs d) v x.event x.calls x.reply u k ∙ s.lobby;
      orderly = step_keeps (by_programs d) v x.event x.calls x.reply u k s.orderly;
    }

opening_sound : (n : ℕ) → IsSound n (opening_world n)
opening_sound n = record {
  many = length-replicate n new_processor;
  boxes = length-replicate n [];
  lobby = length-replicate 1024 Absent;
  orderly = opening_is_orderly n;
}

-- every world to which a history leads is sound
pub reached_sound : (d : Discipline) (n : ℕ) (w : World) → IsReached (RecordStep d) (opening_world n) w → IsSound n w
reached_sound d n w r = reached_keeps (RecordStep d) (IsSound n) (opening_world n) (opening_sound n) (step_sound d n) w r
