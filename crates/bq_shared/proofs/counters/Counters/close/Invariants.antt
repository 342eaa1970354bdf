use Rattle.std.proofs.Common.{◌≡◌, ◌<◌, ℕ, length}
use Rattle.std.specs.Prelude.{slice_index}
use mathlib.Core.Option.{some}
use lib.ListN.{get_elem?}
use Rattle.bq_shared.proofs.counters.Counters.close.Given as goal

abbrev pub invariant-loop-i : goal.invariant-loop-i
invariant-loop-i g l = record {
  long : length l.words ≡ 64;
  read : (k : ℕ) → k < l.i → get_elem? l.closed.words.items k ≡ some (slice_index l.words k);
}
