use Rattle.std.proofs.Common.{take, []}
use Rattle.toml.specs.View.{items_view}
use Rattle.bq_workload_file.specs.Workloads.{AreTableNames, AreOthers}
use Rattle.bq_workload_file.proofs.workloads.names.Given as goal

-- the tables so far have the names so far, none of which is one of those before it
abbrev pub invariant-loop-index : goal.invariant-loop-index
invariant-loop-index l = record {
  named : AreTableNames (items_view (take l.index l.fn.tables)) l.names.items;
  others : AreOthers [] l.names.items;
}
