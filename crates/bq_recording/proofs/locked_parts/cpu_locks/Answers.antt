use Rattle.std.proofs.Common.{◌≡◌, ◌-◌, ◌++◌, ◌<◌, ◌∷◌, [], length, sym, rules, ap, ◌∙◌, arith, length-append}
use Rattle.std.proofs.lemmas.Iterator.Adapters.{YieldsList-from_vec}
use Rattle.std.proofs.lemmas.Iterator.Consumers.{YieldsList-turn, YieldsList-end}
use Rattle.bq_history.specs.Whole.{first_item, others_of}
use Rattle.bq_history.specs.Items.{part_item}
use Rattle.bq_shared.specs.Parts.{cpu_part}
use Rattle.bq_shared.specs.Opened.{cpu_items}
use Rattle.bq_shared.proofs.OpenedLemmas.{cpu_turn}
use Rattle.bq_recording.proofs.locked_parts.cpu_locks.Goals as goal

pub with_queue-requires-clause-empty : goal.with_queue-requires-clause-empty
with_queue-requires-clause-empty g c =
    let e =
    YieldsList-from_vec {s = c.into_iter-queue-iterator.result}
    c.args.queues.items c.into_iter-queue-iterator.ensures.into_iter_gives.0
    (c.into_iter-queue-iterator.ensures.into_iter_gives.1 ∙ c.args.queues.ok.0) in
    let turn =
    YieldsList-turn e c.loop-queue.yielded c.loop-queue.queue-iterator c.loop-queue.yielded_by c.next.result c.next.new.self
    c.in-Some.queue c.in-Some.is c.next.ensures.steps in
    ap g.Q.RunQueue.members turn.1 ∙ (c.requires.empty (length c.loop-queue.yielded) c.in-Some.queue turn.0).0

pub with_queue-requires-clause-mark : goal.with_queue-requires-clause-mark
with_queue-requires-clause-mark g c =
    let e =
    YieldsList-from_vec {s = c.into_iter-queue-iterator.result}
    c.args.queues.items c.into_iter-queue-iterator.ensures.into_iter_gives.0
    (c.into_iter-queue-iterator.ensures.into_iter_gives.1 ∙ c.args.queues.ok.0) in
    let turn =
    YieldsList-turn e c.loop-queue.yielded c.loop-queue.queue-iterator c.loop-queue.yielded_by c.next.result c.next.new.self
    c.in-Some.queue c.in-Some.is c.next.ensures.steps in
    ap g.Q.RunQueue.last_mark turn.1 ∙ (c.requires.empty (length c.loop-queue.yielded) c.in-Some.queue turn.0).1

pub open-requires-clause-item : goal.open-requires-clause-item
open-requires-clause-item g c =
    let e =
    YieldsList-from_vec {s = c.into_iter-queue-iterator.result}
    c.args.queues.items c.into_iter-queue-iterator.ensures.into_iter_gives.0
    (c.into_iter-queue-iterator.ensures.into_iter_gives.1 ∙ c.args.queues.ok.0) in
    let turn =
    YieldsList-turn e c.loop-queue.yielded c.loop-queue.queue-iterator c.loop-queue.yielded_by c.next.result c.next.new.self
    c.in-Some.queue c.in-Some.is c.next.ensures.steps in
    let r = c.requires.items in
    let n = length c.args.queues.items in
    let b : c.loop-queue.number < n = omega (arith, c.loop-queue.invariant.0, turn.0) in
    ap first_item (c.loop-queue.invariant.2 r.0 r.1 ∙ cpu_turn c.loop-queue.number n r.0 b)
    ∙ ap (λ x. part_item (cpu_part c.loop-queue.number x) ∷ []) (sym c.with_queue.ensures)

pub overflow_add-number : goal.overflow_add-number
overflow_add-number g c =
    let e =
    YieldsList-from_vec {s = c.into_iter-queue-iterator.result}
    c.args.queues.items c.into_iter-queue-iterator.ensures.into_iter_gives.0
    (c.into_iter-queue-iterator.ensures.into_iter_gives.1 ∙ c.args.queues.ok.0) in
    let turn =
    YieldsList-turn e c.loop-queue.yielded c.loop-queue.queue-iterator c.loop-queue.yielded_by c.next.result c.next.new.self
    c.in-Some.queue c.in-Some.is c.next.ensures.steps in
    omega (arith, c.loop-queue.invariant.0, turn.0, c.requires.few)

pub loop-queue-preserved : goal.loop-queue-preserved
loop-queue-preserved g c =
    let e =
    YieldsList-from_vec {s = c.into_iter-queue-iterator.result}
    c.args.queues.items c.into_iter-queue-iterator.ensures.into_iter_gives.0
    (c.into_iter-queue-iterator.ensures.into_iter_gives.1 ∙ c.args.queues.ok.0) in
    let turn =
    YieldsList-turn e c.loop-queue.yielded c.loop-queue.queue-iterator c.loop-queue.yielded_by c.next.result c.next.new.self
    c.in-Some.queue c.in-Some.is c.next.ensures.steps in
    let n = length c.args.queues.items in
    let b : c.loop-queue.number < n = omega (arith, c.loop-queue.invariant.0, turn.0) in (
      omega (arith, c.loop-queue.invariant.0, length-append c.loop-queue.yielded (c.in-Some.queue ∷ [])),
      search rules,
      λ rest e. c.open.ensures.0 ∙ ap others_of (c.loop-queue.invariant.2 rest e ∙ cpu_turn c.loop-queue.number n rest b),
    )

pub returns-clause-locks : goal.returns-clause-locks
returns-clause-locks g c =
    let e =
    YieldsList-from_vec {s = c.into_iter-queue-iterator.result}
    c.args.queues.items c.into_iter-queue-iterator.ensures.into_iter_gives.0
    (c.into_iter-queue-iterator.ensures.into_iter_gives.1 ∙ c.args.queues.ok.0) in
    let end =
    YieldsList-end e c.loop-queue.yielded c.loop-queue.queue-iterator c.loop-queue.yielded_by c.next.result
    c.next.new.self c.in-None.is c.next.ensures.steps in
    c.loop-queue.invariant.1 ∙ c.loop-queue.invariant.0 ∙ end.1

pub returns-clause-rest : goal.returns-clause-rest
returns-clause-rest g c = λ rest h.
    let e =
    YieldsList-from_vec {s = c.into_iter-queue-iterator.result}
    c.args.queues.items c.into_iter-queue-iterator.ensures.into_iter_gives.0
    (c.into_iter-queue-iterator.ensures.into_iter_gives.1 ∙ c.args.queues.ok.0) in
    let end =
    YieldsList-end e c.loop-queue.yielded c.loop-queue.queue-iterator c.loop-queue.yielded_by c.next.result
    c.next.new.self c.in-None.is c.next.ensures.steps in
    let none : length c.args.queues.items - c.loop-queue.number ≡ 0 = omega (arith, c.loop-queue.invariant.0, end.1) in
    c.loop-queue.invariant.2 rest h ∙ ap (λ k. cpu_items c.loop-queue.number k ++ rest) none

pub loop-queue-init : goal.loop-queue-init
loop-queue-init g c =
    let n = length c.args.queues.items in
    let all : n ≡ n - 0 = omega arith in
    (search rules, search rules, λ rest e. e ∙ ap (λ k. cpu_items 0 k ++ rest) all)
