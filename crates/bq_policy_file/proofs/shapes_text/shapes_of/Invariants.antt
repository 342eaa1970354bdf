use Rattle.std.proofs.Common.{◌≡◌, length}
use Rattle.bq_policy_file.proofs.NamedShapesLemmas.{Names}
use Rattle.bq_policy_file.proofs.shapes_text.shapes_of.Given as goal

-- each turn has read a shape
abbrev pub invariant-loop : goal.invariant-loop
invariant-loop l = record {
  count : l.counter ≡ length l.shapes.items;
  so_far : Names l.text l.shapes.items l.rest;
}
