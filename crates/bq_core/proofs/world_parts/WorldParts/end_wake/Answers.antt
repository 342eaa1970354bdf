use Rattle.std.proofs.Common.{◌≡◌, ◌<◌, refl, ◌∙◌, length, arith}
use Rattle.std.proofs.Math.ListN.{length-set}
use Rattle.bq_hooks.specs.OwnPlace.{HasPlace}
use Rattle.bq_parts.specs.World.{processor_at, count_in}
use Rattle.bq_parts.proofs.OnceLemmas.{few_at}
use Rattle.bq_core.proofs.StepLemmas.{borrowed, borrowed_inbox, counted, in_range, inbox_there, lobby_whole, write_back_inbox, write_back_processor}
use Rattle.bq_core.proofs.ShareStepLemmas.{places_at, places_none_at, if_carried}
use Rattle.bq_core.proofs.world_parts.WorldParts.end_wake.Goals as goal

pub from-requires : goal.from-requires
from-requires g c = tt

pub index_mut-cpu-requires : goal.index_mut-cpu-requires
index_mut-cpu-requires g c = in_range c.self.view_is c.from.ensures c.self.inside.cpus.ok.0 c.requires.inside

pub end_wake-requires-clause-usable : goal.end_wake-requires-clause-usable
end_wake-requires-clause-usable g c =
    let w = c.args.self.now in
    let place = borrowed c.self.view_is c.from.ensures c.requires.inside c.index_mut-cpu.ensures.value in
    let count : c.len-count.result ≡ count_in w = counted c.self.view_is (omega arith) in
    rw (place, count) (if_carried (processor_at w c.args.processor).hand (λ x. HasPlace (count_in w) x.task)
    (c.requires.orderly.places.in_hand c.args.processor))

pub end_wake-requires-clause-few : goal.end_wake-requires-clause-few
end_wake-requires-clause-few g c =
    let n : c.len-count.result ≡ length c.self.inside.cpus.items = omega arith in
    rw (n ∙ c.self.invariant.0) c.self.invariant.1

pub end_wake-requires-clause-no_calls : goal.end_wake-requires-clause-no_calls
end_wake-requires-clause-no_calls g c = c.requires.no_calls

pub invariant_of-self : goal.invariant_of-self
invariant_of-self g c = (rw length-set c.self.invariant.0, c.self.invariant.1, c.self.invariant.2)

pub returns-in_default-clause-step : goal.returns-in_default-clause-step
returns-in_default-clause-step g c =
    let place = borrowed c.self.view_is c.from.ensures c.requires.inside c.index_mut-cpu.ensures.value in
    places_none_at g.Q.R.Discipline.discipline c.args.self.now _ c.args.processor c.args.now c.len-count.result
    c.end_wake.new.scratch c.end_wake.new.self c.index_mut-cpu.result.now c.requires.inside place c.in_default.ensures.share
    (write_back_processor _ c.args.self.now _ c.args.processor c.end_wake.new.self c.self.view_is c.from.ensures)

pub returns-in_default-clause-board : goal.returns-in_default-clause-board
returns-in_default-clause-board g c = c.end_wake.ensures.board

pub id-id-requires : goal.id-id-requires
id-id-requires g c = tt

pub from-requires-2 : goal.from-requires-2
from-requires-2 g c = tt

pub index_mut-requires : goal.index_mut-requires
index_mut-requires g c =
    let n : c.len-count.result ≡ length c.self.inside.cpus.items = omega arith in
    omega (arith, c.from-2.ensures, c.in-Some.ensures.below, n, c.self.invariant.0, c.self.invariant.1)

pub push-requires : goal.push-requires
push-requires g c =
    let w = c.args.self.now in
    let to = c.in-Some.placed.to in
    let count : c.len-count.result ≡ count_in w = counted c.self.view_is (omega arith) in
    let below : to < count_in w = rw count at c.in-Some.ensures.below in
    let box =
    borrowed_inbox c.self.view_is c.from-2.ensures (inbox_there c.self.view_is c.self.invariant.0 below)
    c.index_mut.ensures.value in
    rw box (omega (arith, few_at w to (lobby_whole c.self.view_is c.self.invariant.2) c.requires.orderly))

pub invariant_of-self-2 : goal.invariant_of-self-2
invariant_of-self-2 g c = (rw (length-set, length-set) c.self.invariant.0, rw length-set c.self.invariant.1, c.self.invariant.2)

pub returns-clause-step : goal.returns-clause-step
returns-clause-step g c =
    let w = c.args.self.now in
    let placed = c.in-Some.placed in
    let place = borrowed c.self.view_is c.from.ensures c.requires.inside c.index_mut-cpu.ensures.value in
    let count : c.len-count.result ≡ count_in w = counted c.self.view_is (omega arith) in
    let below : placed.to < count_in w = rw count at c.in-Some.ensures.below in
    let box =
    borrowed_inbox c.self.view_is c.from-2.ensures (inbox_there c.self.view_is c.self.invariant.0 below)
    c.index_mut.ensures.value in
    places_at g.Q.R.Discipline.discipline w _ c.args.processor c.args.now c.len-count.result
    c.id-id.result c.end_wake.new.scratch placed c.end_wake.new.self c.index_mut-cpu.result.now
    c.index_mut.result.now c.requires.inside place count c.id-id.ensures box c.in-Some.ensures.share
    (write_back_inbox _ w _ c.args.processor _ _ _ _ _ _ c.self.view_is c.from.ensures c.from-2.ensures refl c.push.ensures)

pub returns-clause-board : goal.returns-clause-board
returns-clause-board g c = c.end_wake.ensures.board
