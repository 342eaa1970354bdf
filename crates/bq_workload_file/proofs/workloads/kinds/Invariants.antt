use Rattle.std.proofs.Common.{◌≡◌, ◌≤◌, take, sum_by}
use Rattle.toml.specs.View.{items_view}
use Rattle.bq_workload_file.specs.Workloads.{AreKinds}
use Rattle.bq_workload_file.proofs.workloads.kinds.Given as goal

-- the tables so far describe the kinds so far
abbrev pub invariant-loop-index : goal.invariant-loop-index
invariant-loop-index l = record {
  described : AreKinds l.fn.names l.fn.processors.all (items_view (take l.index l.fn.tables)) l.kinds.items;
  counted : sum_by (λ k. k.count) l.kinds.items ≡ l.tasks;
  few : l.tasks ≤ 1024;
}
