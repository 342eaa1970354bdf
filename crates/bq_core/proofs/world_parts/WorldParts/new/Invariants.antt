use Rattle.std.proofs.Common.{◌≡◌, replicate, []}
use Rattle.bq_parts.specs.Processors.{new_processor}
use Rattle.bq_core.proofs.world_parts.WorldParts.new.Given as goal

abbrev pub invariant-processors : goal.invariant-processors
invariant-processors g l = record {
  processors : l.cpus.items ≡ replicate l.counter new_processor;
  inboxes : l.inboxes.items ≡ replicate l.counter [];
}
