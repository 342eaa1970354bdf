use Rattle.std.proofs.Common.{ap, sym, ◌∙◌, length, ◌≡◌, arith}
use Rattle.std.proofs.Math.ListN.{length-set}
use Rattle.bq_parts.specs.World.{World, loads_of}
use Rattle.bq_parts.proofs.OnceLemmas.{few_at}
use Rattle.bq_core.proofs.StepLemmas.{borrowed, in_range, lent, lobby_whole, write_back_lobby}
use Rattle.bq_core.proofs.SizeLemmas.{entries_begun}
use Rattle.bq_core.proofs.ShareStepLemmas.{begins_at}
use Rattle.bq_core.proofs.world_parts.WorldParts.begin_wake.Goals as goal

pub loads_of-loads-requires-clause-small : goal.loads_of-loads-requires-clause-small
loads_of-loads-requires-clause-small g c = λ i.
    let boxes = c.as_slice-2.ensures.value ∙ ap (λ (v : World). v.inboxes) c.self.view_is in
    rw (lent c.self.view_is c.as_slice.ensures.value, boxes)
    (omega (arith, few_at c.args.self.now i (lobby_whole c.self.view_is c.self.invariant.2) c.requires.orderly))

pub loads_of-loads-requires-clause-same : goal.loads_of-loads-requires-clause-same
loads_of-loads-requires-clause-same g c =
    ap length c.as_slice.ensures.value ∙ c.self.invariant.0 ∙ sym (ap length c.as_slice-2.ensures.value)

pub loads_of-loads-requires-clause-few : goal.loads_of-loads-requires-clause-few
loads_of-loads-requires-clause-few g c = rw (ap length c.as_slice.ensures.value ∙ c.self.invariant.0) c.self.invariant.1

pub from-requires : goal.from-requires
from-requires g c = tt

pub index_mut-cpu-requires : goal.index_mut-cpu-requires
index_mut-cpu-requires g c = in_range c.self.view_is c.from.ensures c.self.inside.cpus.ok.0 c.requires.inside

pub begin_wake_with_loads-requires : goal.begin_wake_with_loads-requires
begin_wake_with_loads-requires g c = record { below = c.requires.below }

pub returns : goal.returns
returns g c =
    let w = c.args.self.now in
    let boxes = c.as_slice-2.ensures.value ∙ ap (λ (v : World). v.inboxes) c.self.view_is in
    let loads : c.loads_of-loads.result ≡ loads_of w.processors w.inboxes =
    rw (lent c.self.view_is c.as_slice.ensures.value, boxes) at c.loads_of-loads.ensures in
    let place = borrowed c.self.view_is c.from.ensures c.requires.inside c.index_mut-cpu.ensures.value in
    let lobby = ap (λ (v : World). v.lobby) c.self.view_is in
    let step =
    begins_at g.Q.R.Discipline.discipline w _ c.args.processor c.args.task
    c.loads_of-loads.result c.begin_wake_with_loads.result c.begin_wake_with_loads.new.self _ _ c.begin_wake_with_loads.new.lobby
    c.requires.inside c.requires.below loads place lobby c.begin_wake_with_loads.ensures.share
    (write_back_lobby _ w _ c.args.processor c.begin_wake_with_loads.new.self c.begin_wake_with_loads.new.lobby c.self.view_is c.from.ensures) in
    record { step = step }

pub invariant_of-self : goal.invariant_of-self
invariant_of-self g c = (
  rw length-set c.self.invariant.0,
  c.self.invariant.1,
  entries_begun c.args.task c.loads_of-loads.result c.index_mut-cpu.result.now c.begin_wake_with_loads.new.self c.self.inside.lobby
      c.begin_wake_with_loads.new.lobby c.begin_wake_with_loads.result c.begin_wake_with_loads.ensures.share
      ∙ c.self.invariant.2,
)
