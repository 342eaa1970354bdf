use Rattle.std.proofs.Common.{refl}
use Rattle.std.proofs.Math.ListN.{length-set}
use Rattle.bq_parts.proofs.OnceLemmas.{each_once_runnable, none_beyond_at}
use Rattle.bq_core.proofs.StepLemmas.{borrowed, borrowed_inbox, in_range, inbox_in_range, inbox_there, lobby_whole, write_back_both}
use Rattle.bq_core.proofs.ShareStepLemmas.{drains_at}
use Rattle.bq_core.proofs.world_parts.WorldParts.drain.Goals as goal

pub drain-requires-clause-once : goal.drain-requires-clause-once
drain-requires-clause-once g c =
    let place = borrowed c.self.view_is c.from-2.ensures c.requires.inside c.index_mut-cpu.ensures.value in
    let box =
    borrowed_inbox c.self.view_is c.from.ensures (inbox_there c.self.view_is c.self.invariant.0 c.requires.inside)
    c.index_mut-inbox.ensures.value in
    rw (place, box) (each_once_runnable c.args.self.now c.args.processor c.requires.orderly)

pub drain-requires-clause-ids : goal.drain-requires-clause-ids
drain-requires-clause-ids g c =
    let place = borrowed c.self.view_is c.from-2.ensures c.requires.inside c.index_mut-cpu.ensures.value in
    let box =
    borrowed_inbox c.self.view_is c.from.ensures (inbox_there c.self.view_is c.self.invariant.0 c.requires.inside)
    c.index_mut-inbox.ensures.value in
    rw (place, box)
    (λ id h. none_beyond_at c.args.self.now c.args.processor id (lobby_whole c.self.view_is c.self.invariant.2) c.requires.orderly h)

pub returns-clause-step : goal.returns-clause-step
returns-clause-step g c =
    let place = borrowed c.self.view_is c.from-2.ensures c.requires.inside c.index_mut-cpu.ensures.value in
    let box =
    borrowed_inbox c.self.view_is c.from.ensures (inbox_there c.self.view_is c.self.invariant.0 c.requires.inside)
    c.index_mut-inbox.ensures.value in
    drains_at g.Q.R.Discipline.discipline c.args.self.now _ c.args.processor c.args.now _ _ c.drain.new.self _ _
    c.requires.inside place box c.drain.ensures.share
    (write_back_both _ c.args.self.now _ _ c.args.processor _ _ _ _ c.self.view_is c.from-2.ensures
    c.from.ensures refl c.drain.ensures.emptied)

pub from-requires : goal.from-requires
from-requires g c = tt

pub from-requires-2 : goal.from-requires-2
from-requires-2 g c = tt

pub index_mut-inbox-requires : goal.index_mut-inbox-requires
index_mut-inbox-requires g c = inbox_in_range c.self.view_is c.from.ensures c.self.inside.inboxes.ok.0 c.self.invariant.0 c.requires.inside

pub index_mut-cpu-requires : goal.index_mut-cpu-requires
index_mut-cpu-requires g c = in_range c.self.view_is c.from-2.ensures c.self.inside.cpus.ok.0 c.requires.inside

pub drain-requires-clause-no_calls : goal.drain-requires-clause-no_calls
drain-requires-clause-no_calls g c = c.requires.no_calls

pub invariant_of-self : goal.invariant_of-self
invariant_of-self g c = (rw (length-set, length-set) c.self.invariant.0, rw length-set c.self.invariant.1, c.self.invariant.2)

pub returns-clause-board : goal.returns-clause-board
returns-clause-board g c = c.drain.ensures.board
