use Rattle.std.proofs.Common.{◌≡◌, ℕ, List, Option, length, refl, ap, sym, ◌∙◌, slice_get, arith}
use Rattle.std.proofs.lemmas.List.{append-nil}
use Rattle.std.specs.Prelude.{option_and_then}
use Rattle.bq_disc.specs.Tasks.{Task, find_task}
use Rattle.bq_disc.specs.Movable.{movable_to}
use Rattle.bq_hooks.specs.Contexts.{PullFacts, pull_header}
use Rattle.bq_hooks.proofs.PullByteLemmas.{pull_header_filled, task_filled, pull_filled}
use Rattle.bq_hooks.proofs.ShownLemmas.{movable_found, shown_at, length-shown}
use Rattle.bq_hooks.proofs.pull.pull_ctx.Goals as goal

pub loop-at-init : goal.loop-at-init
loop-at-init g c =
    let queue : List Task = g.Q.RunQueue.members c.args.facts.now.queue.now in
    let movable : List Task = movable_to c.args.facts.now.puller queue in
    let f : PullFacts = record {
      puller = c.args.facts.now.puller;
      source = c.args.facts.now.source;
      puller_size = c.args.facts.now.puller_size;
      source_size = c.args.facts.now.source_size;
      movable = movable;
      own = c.args.facts.now.own;
    } in
    let shown = c.len.ensures.value ∙ ap length c.movable-movable.ensures.first ∙ length-shown movable in
    let filled =
    pull_header_filled f c.args.context.now c.put_four.new.context c.put_four-2.new.context c.from.result c.from-2.result
    c.args.facts.now.puller_size c.args.facts.now.source_size c.movable-movable.result.count c.len.result c.or_nobody.result
    c.from.ensures c.from-2.ensures refl refl c.put_four.ensures.filled c.movable-movable.ensures.count shown
    c.or_nobody.ensures c.put_four-2.ensures.filled in
    record {
      filled = filled ∙ sym (append-nil (pull_header f));
      long = omega (arith, c.put_four.auto.context, c.put_four-2.auto.context, c.fits-context);
    }

pub loop-at-preserved : goal.loop-at-preserved
loop-at-preserved g c =
    let queue : List Task = g.Q.RunQueue.members c.args.facts.now.queue.now in
    let movable : List Task = movable_to c.args.facts.now.puller queue in
    let f : PullFacts = record {
      puller = c.args.facts.now.puller;
      source = c.args.facts.now.source;
      puller_size = c.args.facts.now.puller_size;
      source_size = c.args.facts.now.source_size;
      movable = movable;
      own = c.args.facts.now.own;
    } in
    let shown =
    shown_at queue movable 8 c.loop-at.at (movable_found c.args.facts.now.puller queue c.requires.distinct)
    c.loop-at-test.true in
    let at_id : List ℕ → Option Task = λ xs. option_and_then (λ id. find_task id queue) (slice_get xs c.loop-at.at) in
    let named : at_id c.as_slice.result.now ≡ slice_get movable c.loop-at.at =
    ap at_id (c.as_slice.ensures.value ∙ c.movable-movable.ensures.first) ∙ shown in
    let task = ◌∙◌ {b = at_id c.as_slice.result.now} c.shown-task.ensures named in
    record {
      filled =
          task_filled f c.loop-at.at _ c.loop-at.context c.put_task.new.context c.loop-at.invariant.filled task
          c.put_task.ensures.filled;
      long = c.put_task.auto.context ∙ c.loop-at.invariant.long;
    }

pub returns : goal.returns
returns g c =
    let f : PullFacts = record {
      puller = c.args.facts.now.puller;
      source = c.args.facts.now.source;
      puller_size = c.args.facts.now.puller_size;
      source_size = c.args.facts.now.source_size;
      movable = movable_to c.args.facts.now.puller (g.Q.RunQueue.members c.args.facts.now.queue.now);
      own = c.args.facts.now.own;
    } in
    let end : c.loop-at.at ≡ 8 = omega (arith, c.loop-at-test.false, c.loop-at.auto.at-end) in
    record { bytes = pull_filled c.loop-at.at f c.loop-at.context end c.loop-at.invariant.filled c.loop-at.invariant.long }
