-- What a Tick and a Block of the world do at their processor, if only the discipline decides.
use Rattle.std.specs.Prelude.{◌≡◌, ℕ, ◌<◌, List, Option, Result, Ok}
use Rattle.bq_disc.specs.Discipline.{Discipline}
use Rattle.bq_disc.specs.OneProcessor.{Running, ticked}
use Rattle.bq_cfs.specs.Cfs.{cfs}
use Rattle.bq_cfs.specs.Spread.{processor_passed, Tick as TickAt, Block as BlockAt}
use Rattle.bq_bpf.specs.declared.board.CounterCall.{CounterCall}
use Rattle.bq_hooks.specs.declared.settled.By.TheVariants as who
use Rattle.bq_parts.specs.declared.event.Event.TheVariants.{Tick, Block}
use Rattle.bq_parts.specs.declared.reply.Reply.{Reply}
use Rattle.bq_parts.specs.declared.reply.Reply.TheVariants.{Ticked, Blocked}
use Rattle.bq_parts.specs.declared.refusal.Refusal.{Refusal}
use Rattle.bq_parts.specs.World.{World, processor_at, count_in}
use Rattle.bq_parts.specs.declared.lobby_entry.LobbyEntry.{LobbyEntry}
use Rattle.bq_parts.specs.Processors.{Processor}
use Rattle.bq_parts.specs.Choices.{by_programs}
use Rattle.bq_parts.specs.Shares.{Ticks, Blocks}
use Rattle.bq_parts.specs.Steps.{WorldStep}
use Rattle.bq_fairness.specs.Events.{after_block}

-- under any discipline: what a Tick whose answer is the discipline's own, and a Block that is not refused, do in a world and
-- in any parts of one
pub record DisciplinePasses : Type 0 where
  pub tick_share : (d : Discipline) (p q : Processor) (processor now : ℕ) (calls : List CounterCall) (run : Option ℕ) (steps : ℕ) →
      Ticks (by_programs d) processor now p calls (Ticked run who.Discipline steps) q → q.running ≡ ticked d p.running now
  pub block_share : (d : Discipline) (p q : Processor) (processor now : ℕ) (lobby lobby' : List LobbyEntry) (reply : Reply) →
      Blocks d processor now p lobby (Ok reply) q lobby' → q.running ≡ after_block d p.running now
  pub tick : (d : Discipline) (w w' : World) (processor now : ℕ) (calls : List CounterCall) (run : Option ℕ) (steps : ℕ) →
      WorldStep (by_programs d) w (Tick processor now) calls (Ok (Ticked run who.Discipline steps)) w' →
      (processor_at w' processor).running ≡ ticked d (processor_at w processor).running now
  pub block : (d : Discipline) (w w' : World) (processor now : ℕ) (calls : List CounterCall) (task : ℕ) (run : Option ℕ) →
      WorldStep (by_programs d) w (Block processor now) calls (Ok (Blocked task run)) w' →
      (processor_at w' processor).running ≡ after_block d (processor_at w processor).running now

-- under CFS: Ticks and Blocks are the events of its laws, also a Block that is refused because nothing runs
pub record CfsPasses : Type 0 where
  pub tick : (w w' : World) (processor now : ℕ) (calls : List CounterCall) (run : Option ℕ) (steps : ℕ) →
      WorldStep (by_programs cfs) w (Tick processor now) calls (Ok (Ticked run who.Discipline steps)) w' →
      (processor_at w' processor).running ≡ processor_passed (processor_at w processor).running (TickAt now)
  pub block : (w w' : World) (processor now : ℕ) (calls : List CounterCall) (answer : Result Reply Refusal) → processor < count_in w →
      WorldStep (by_programs cfs) w (Block processor now) calls answer w' →
      (processor_at w' processor).running ≡ processor_passed (processor_at w processor).running (BlockAt now)
