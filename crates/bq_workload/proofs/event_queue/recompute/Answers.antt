use Rattle.std.proofs.Common.{◌∙◌, refl, arith}
use Rattle.std.proofs.lemmas.List.{get_or-set_other}
use Rattle.bq_workload.proofs.TreeLemmas.{recomputed-node}
use Rattle.bq_workload.proofs.event_queue.recompute.Goals as goal

pub up-init : goal.up-init
up-init c = record { low = omega arith; high = c.requires.high; others = c.requires.others; leaves = λ k low. refl }

pub up-preserved : goal.up-preserved
up-preserved c = record {
  low = omega arith;
  high = omega arith;
  others = recomputed-node _ _ _ (omega arith) (omega arith) c.min.ensures c.up.invariant.others;
  leaves = λ k low. get_or-set_other _ _ k _ 0 (omega arith) ∙ c.up.invariant.leaves k low;
}

pub returns-clause-minima : goal.returns-clause-minima
returns-clause-minima c = λ k low high. c.up.invariant.others k low high (omega arith)

pub returns-clause-leaves : goal.returns-clause-leaves
returns-clause-leaves c = c.up.invariant.leaves
