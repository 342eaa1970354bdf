use Rattle.std.proofs.Common.{◌≡◌, ◌+◌, ◌≤◌, ◌++◌, map, length}
use Rattle.std.specs.Prelude.{vec_len, vec_capacity}
use Rattle.bq_history.specs.Items.{part_item}
use Rattle.bq_history.proofs.gathered.gather.Given as goal

abbrev pub invariant-loop-lock : goal.invariant-loop-lock
invariant-loop-lock g l = record {
  counted : length l.contents.items + vec_len l.locks ≡ vec_len l.initial.locks;
  room : vec_len l.contents + vec_len l.locks ≤ vec_capacity l.contents;
  parts : l.all ≡ l.initial.all ++ map (λ a. part_item (g.A.AsPart.part a)) l.contents.items;
}

abbrev pub decreases-loop-lock : goal.decreases-loop-lock
decreases-loop-lock g l = goal.left-loop-lock g l
