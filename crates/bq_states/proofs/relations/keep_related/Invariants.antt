use Rattle.std.proofs.Common.{◌≡◌, ◌<◌, ◌≤◌, ℕ, None, slice_index_or}
use Rattle.bq_states.proofs.RelationLemmas.{AllowsRelation}
use Rattle.bq_states.proofs.relations.keep_related.Given as goal

abbrev pub invariant-loop-i : goal.invariant-loop-i
invariant-loop-i l = record {
  left : (k : ℕ) → k < l.i → AllowsRelation (slice_index_or l.initial.into k None) (slice_index_or l.into k None);
  right : (k : ℕ) → k < l.i → AllowsRelation (slice_index_or l.other k None) (slice_index_or l.into k None);
  rest : (k : ℕ) → l.i ≤ k → slice_index_or l.into k None ≡ slice_index_or l.initial.into k None;
}
