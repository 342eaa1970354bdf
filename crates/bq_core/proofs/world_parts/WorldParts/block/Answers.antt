use Rattle.std.proofs.Common.{ap, ◌∙◌}
use Rattle.std.proofs.Math.ListN.{length-set}
use Rattle.bq_parts.specs.World.{World}
use Rattle.bq_parts.proofs.OnceLemmas.{ids_running}
use Rattle.bq_core.proofs.StepLemmas.{borrowed, in_range, lobby_whole, write_back_lobby}
use Rattle.bq_core.proofs.SizeLemmas.{entries_blocked}
use Rattle.bq_core.proofs.ShareStepLemmas.{blocks_at}
use Rattle.bq_core.proofs.world_parts.WorldParts.block.Goals as goal

pub block-requires : goal.block-requires
block-requires g c =
    rw (borrowed c.self.view_is c.from.ensures c.requires.inside c.index_mut-cpu.ensures.value)
    (ids_running c.args.self.now c.args.processor (lobby_whole c.self.view_is c.self.invariant.2) c.requires.orderly)

pub returns : goal.returns
returns g c =
    let w = c.args.self.now in
    let place = borrowed c.self.view_is c.from.ensures c.requires.inside c.index_mut-cpu.ensures.value in
    let step =
    blocks_at g.Q.R.Discipline.discipline w _ c.args.processor c.args.now c.block.result c.block.new.self _ _
    c.block.new.lobby c.requires.inside place (ap (λ (v : World). v.lobby) c.self.view_is) c.block.ensures.share
    (write_back_lobby _ w _ c.args.processor c.block.new.self c.block.new.lobby c.self.view_is c.from.ensures) in
    record { step = step }

pub from-requires : goal.from-requires
from-requires g c = tt

pub index_mut-cpu-requires : goal.index_mut-cpu-requires
index_mut-cpu-requires g c = in_range c.self.view_is c.from.ensures c.self.inside.cpus.ok.0 c.requires.inside

pub invariant_of-self : goal.invariant_of-self
invariant_of-self g c = (
  rw length-set c.self.invariant.0,
  c.self.invariant.1,
  entries_blocked g.Q.R.Discipline.discipline c.args.processor c.args.now c.index_mut-cpu.result.now c.block.new.self
      c.self.inside.lobby c.block.new.lobby c.block.result c.block.ensures.share
      ∙ c.self.invariant.2,
)
