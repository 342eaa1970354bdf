use Rattle.std.proofs.Common.{◌≡◌, ◌+◌, ◌≤◌, ◌++◌, map, length}
use Rattle.std.specs.Prelude.{vec_len, vec_capacity}
use Rattle.std.specs.Vec.Iter.{into_iter_items, into_iter_len}
use Rattle.bq_history.proofs.contents.contents.Given as goal

abbrev pub invariant-loop-item : goal.invariant-loop-item
invariant-loop-item g l =
    let rest = into_iter_items l.item-iterator in
    record {
      whole : l.yielded ++ rest ≡ into_iter_items l.initial.item-iterator;
      left : into_iter_len l.item-iterator ≡ length rest;
      room : vec_len l.contents + length rest ≤ vec_capacity l.contents;
      out : l.contents.items ≡ map g.T.HasContent.content l.yielded;
    }
