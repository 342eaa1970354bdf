use Rattle.std.proofs.Common.{◌≡◌, ◌+◌, ◌*◌, ◌++◌, length, take, slice_get}
use Rattle.std.specs.List.{flat_map, range_with_len}
use Rattle.bq_disc.specs.Movable.{movable_to}
use Rattle.bq_hooks.specs.Contexts.{PullFacts, pull_header, task_bytes}
use Rattle.bq_hooks.proofs.pull.pull_ctx.Given as goal

abbrev pub invariant-loop-at : goal.invariant-loop-at
invariant-loop-at g l =
    let f : PullFacts = record {
      puller = l.facts.puller;
      source = l.facts.source;
      puller_size = l.facts.puller_size;
      source_size = l.facts.source_size;
      movable = movable_to l.facts.puller (g.Q.RunQueue.members l.facts.queue.now);
      own = l.facts.own;
    } in
    record {
      filled : take (32 + 16 * l.at) l.context
          ≡ pull_header f ++ flat_map (λ k. task_bytes 0 (slice_get f.movable k)) (range_with_len 0 l.at);
      long : length l.context ≡ 160;
    }
