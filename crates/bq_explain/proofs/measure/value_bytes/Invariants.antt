use Rattle.std.proofs.Common.{◌≡◌, ◌*◌, ◌≤◌, take}
use Rattle.std.specs.Prelude.{sum_by}
use Rattle.bq_explain.specs.Measures.{bytes_in_map}
use Rattle.bq_explain.proofs.measure.value_bytes.Given as goal

abbrev pub invariant-loop-shape : goal.invariant-loop-shape
invariant-loop-shape l = record {
  total : l.sum ≡ sum_by bytes_in_map (take l.shape-index l.shapes);
  few : l.sum ≤ l.shape-index * 65536;
}
