use Rattle.std.proofs.Common.{◌≡◌, ℕ, ◌<◌, List, ◌∙◌}
use Rattle.std.specs.Prelude.{Ok}
use Rattle.std.proofs.lemmas.List.{length-set}
use Rattle.bq_bpf.specs.declared.board.CounterCall.{CounterCall}
use Rattle.bq_disc.specs.Discipline.{Discipline}
use Rattle.bq_parts.specs.declared.event.Event.TheVariants.{Tick}
use Rattle.bq_parts.specs.declared.reply.Reply.{Reply}
use Rattle.bq_parts.specs.Processors.{Processor}
use Rattle.bq_parts.specs.World.{World, processor_at, count_in, with_processor}
use Rattle.bq_parts.specs.Choices.{by_programs}
use Rattle.bq_parts.specs.Shares.{Ticks}
use Rattle.bq_parts.specs.Steps.{WorldStep}
use Rattle.bq_parts.proofs.OnceLemmas.{each_once_running, ids_running}
use Rattle.bq_core.proofs.StepLemmas.{borrowed, in_range, lobby_whole, write_back_processor}
use Rattle.bq_core.proofs.ShareStepLemmas.{ticks_step}
use Rattle.bq_core.proofs.world_parts.WorldParts.tick.Goals as goal

-- a processor's share of a tick is the world's step, where the parts are known by equations
ticks_at : (d : Discipline) (w w' : World) (processor now : ℕ) (calls : List CounterCall) (r : Reply) (p q : Processor)
    → processor < count_in w → p ≡ processor_at w processor → Ticks (by_programs d) processor now p calls r q
    → w' ≡ with_processor w processor q
    → WorldStep (by_programs d) w (Tick processor now) calls (Ok r) w'
ticks_at d w w' processor now calls r p q h place share e = rw e (ticks_step d w processor now calls r q h (rw (← place) share))

pub index_mut-cpu-requires : goal.index_mut-cpu-requires
index_mut-cpu-requires g c = in_range c.self.view_is c.from.ensures c.self.inside.cpus.ok.0 c.requires.inside

pub tick-requires-clause-once : goal.tick-requires-clause-once
tick-requires-clause-once g c =
    rw (borrowed c.self.view_is c.from.ensures c.requires.inside c.index_mut-cpu.ensures.value)
    (each_once_running c.args.self.now c.args.processor c.requires.orderly)

pub tick-requires-clause-ids : goal.tick-requires-clause-ids
tick-requires-clause-ids g c =
    rw (borrowed c.self.view_is c.from.ensures c.requires.inside c.index_mut-cpu.ensures.value)
    (ids_running c.args.self.now c.args.processor (lobby_whole c.self.view_is c.self.invariant.2) c.requires.orderly)

pub tick-requires-clause-no_calls : goal.tick-requires-clause-no_calls
tick-requires-clause-no_calls g c = c.requires.no_calls

pub invariant_of-self : goal.invariant_of-self
invariant_of-self g c =
    (length-set c.self.inside.cpus.items c.from.result c.tick.new.self ∙ c.self.invariant.0, c.self.invariant.1, c.self.invariant.2)

pub returns-clause-board : goal.returns-clause-board
returns-clause-board g c = c.tick.ensures.board

pub returns-clause-step : goal.returns-clause-step
returns-clause-step g c =
    let place = borrowed c.self.view_is c.from.ensures c.requires.inside c.index_mut-cpu.ensures.value in
    ticks_at g.Q.R.Discipline.discipline c.args.self.now _ c.args.processor c.args.now c.tick.new.scratch
    c.tick.result c.index_mut-cpu.result.now c.tick.new.self c.requires.inside place c.tick.ensures.share
    (write_back_processor _ c.args.self.now _ c.args.processor c.tick.new.self c.self.view_is c.from.ensures)
