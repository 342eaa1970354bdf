use Rattle.std.proofs.Common.{◌≡◌, vec_len}
use Rattle.std.specs.List.{All}
use Rattle.bq_machine.proofs.prepared_install.prepare_installs.Given as goal

abbrev pub invariant-prepared : goal.invariant-prepared
invariant-prepared l = (vec_len l.prepared ≡ l.counter) × All (λ s. s.installed.policy ≡ l.policy) l.prepared.items
