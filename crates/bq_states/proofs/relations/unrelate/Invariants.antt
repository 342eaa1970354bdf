use Rattle.std.proofs.Common.{◌≡◌, ◌<◌, ◌≤◌, ℕ, None, slice_index_or}
use Rattle.bq_states.proofs.RelationLemmas.{OutlivesClass}
use Rattle.bq_states.proofs.relations.unrelate.Given as goal

abbrev pub invariant-loop-i : goal.invariant-loop-i
invariant-loop-i l = record {
  done : (k : ℕ) → k < l.i → OutlivesClass l.class (slice_index_or l.initial.related k None) (slice_index_or l.related k None);
  rest : (k : ℕ) → l.i ≤ k → slice_index_or l.related k None ≡ slice_index_or l.initial.related k None;
}
