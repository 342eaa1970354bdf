use Rattle.std.proofs.Common.{ℕ, List, [], length, rules, sym, ap, subst, ◌∙◌}
use Rattle.bq_disc.specs.Tasks.{Task}
use Rattle.bq_parts.specs.Processors.{Processor, new_processor}
use Rattle.bq_parts.specs.Orderly.{IsOrderly}
use Rattle.bq_shared.specs.declared.cells.NumberedCpu.{NumberedCpu}
use Rattle.bq_shared.specs.declared.cells.NumberedInbox.{NumberedInbox}
use Rattle.bq_history.proofs.OrderedLemmas.{below}
use Rattle.bq_recording.proofs.ClosingLemmas.{cpus_there, inboxes_there, cpus_few, inboxes_few, is_world}
use Rattle.bq_recording.proofs.ended.core_of.Goals as goal

pub contents_in_order-cpus-requires-clause-below : goal.contents_in_order-cpus-requires-clause-below
contents_in_order-cpus-requires-clause-below g c =
    let at : NumberedCpu g.row.Q.Denot g.row.Q-R.Denot → ℕ = λ x. x.number in
    let state : NumberedCpu g.row.Q.Denot g.row.Q-R.Denot → Processor = λ x. x.state in
    let place : NumberedInbox → ℕ = λ y. y.number in
    let tasks : NumberedInbox → List Task = λ y. y.state in
    let k = c.requires.world in
    let xs = c.args.contents.cpus.items in
    below at state new_processor k.0.processors (length xs) xs (k.2.0 ∙ sym c.args.contents.many.0)
    (cpus_there c.args.contents.lobby xs c.args.contents.inboxes.items at state place tasks k.0 k.2.3)

pub contents_in_order-cpus-requires-clause-few : goal.contents_in_order-cpus-requires-clause-few
contents_in_order-cpus-requires-clause-few g c =
    let at : NumberedCpu g.row.Q.Denot g.row.Q-R.Denot → ℕ = λ x. x.number in
    let state : NumberedCpu g.row.Q.Denot g.row.Q-R.Denot → Processor = λ x. x.state in
    let place : NumberedInbox → ℕ = λ y. y.number in
    let tasks : NumberedInbox → List Task = λ y. y.state in
    cpus_few c.args.contents.lobby c.args.contents.cpus.items c.args.contents.inboxes.items at state place tasks c.requires.once

pub contents_in_order-inboxes-requires-clause-below : goal.contents_in_order-inboxes-requires-clause-below
contents_in_order-inboxes-requires-clause-below g c =
    let at : NumberedCpu g.row.Q.Denot g.row.Q-R.Denot → ℕ = λ x. x.number in
    let state : NumberedCpu g.row.Q.Denot g.row.Q-R.Denot → Processor = λ x. x.state in
    let place : NumberedInbox → ℕ = λ y. y.number in
    let tasks : NumberedInbox → List Task = λ y. y.state in
    let k = c.requires.world in
    let ys = c.args.contents.inboxes.items in
    below place tasks [] k.0.inboxes (length ys) ys (k.2.1 ∙ sym c.args.contents.many.1)
    (inboxes_there c.args.contents.lobby c.args.contents.cpus.items ys at state place tasks k.0 k.2.3)

pub contents_in_order-inboxes-requires-clause-few : goal.contents_in_order-inboxes-requires-clause-few
contents_in_order-inboxes-requires-clause-few g c =
    let at : NumberedCpu g.row.Q.Denot g.row.Q-R.Denot → ℕ = λ x. x.number in
    let state : NumberedCpu g.row.Q.Denot g.row.Q-R.Denot → Processor = λ x. x.state in
    let place : NumberedInbox → ℕ = λ y. y.number in
    let tasks : NumberedInbox → List Task = λ y. y.state in
    inboxes_few c.args.contents.lobby c.args.contents.cpus.items c.args.contents.inboxes.items at state place tasks c.requires.once

pub from_parts-requires : goal.from_parts-requires
from_parts-requires g c =
    let at : NumberedCpu g.row.Q.Denot g.row.Q-R.Denot → ℕ = λ x. x.number in
    let state : NumberedCpu g.row.Q.Denot g.row.Q-R.Denot → Processor = λ x. x.state in
    let place : NumberedInbox → ℕ = λ y. y.number in
    let tasks : NumberedInbox → List Task = λ y. y.state in
    let xs = c.args.contents.cpus.items in
    let ys = c.args.contents.inboxes.items in
    let s = c.args.contents.lobby in
    let k = c.requires.world in
    let w = k.0 in
    let cpus =
    c.contents_in_order-cpus.ensures w.processors new_processor (k.2.0 ∙ sym c.args.contents.many.0)
    (cpus_there s xs ys at state place tasks w k.2.3) in
    let inboxes =
    c.contents_in_order-inboxes.ensures w.inboxes [] (k.2.1 ∙ sym c.args.contents.many.1)
    (inboxes_there s xs ys at state place tasks w k.2.3) in
    let is =
    is_world s xs ys at state place tasks w c.contents_in_order-cpus.result.items c.contents_in_order-inboxes.result.items
    c.args.drawn k.2.3 cpus inboxes k.2.2 in (
      search rules,
      (c.requires.few, (ap length cpus ∙ k.2.0, (ap length inboxes ∙ k.2.1, subst IsOrderly (sym is) k.1))),
    )

pub returns : goal.returns
returns g c = λ w is.
    let at : NumberedCpu g.row.Q.Denot g.row.Q-R.Denot → ℕ = λ x. x.number in
    let state : NumberedCpu g.row.Q.Denot g.row.Q-R.Denot → Processor = λ x. x.state in
    let place : NumberedInbox → ℕ = λ y. y.number in
    let tasks : NumberedInbox → List Task = λ y. y.state in
    let xs = c.args.contents.cpus.items in
    let ys = c.args.contents.inboxes.items in
    let s = c.args.contents.lobby in
    let cpus =
    c.contents_in_order-cpus.ensures w.processors new_processor (is.0 ∙ sym c.args.contents.many.0)
    (cpus_there s xs ys at state place tasks w is.3) in
    let inboxes =
    c.contents_in_order-inboxes.ensures w.inboxes [] (is.1 ∙ sym c.args.contents.many.1)
    (inboxes_there s xs ys at state place tasks w is.3) in
    c.from_parts.ensures
    ∙ is_world s xs ys at state place tasks w c.contents_in_order-cpus.result.items c.contents_in_order-inboxes.result.items
    c.args.drawn is.3 cpus inboxes is.2
