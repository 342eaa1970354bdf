use Rattle.std.proofs.Common.{◌≡◌, ℕ, [], map, take, get_or}
use Rattle.bq_bpf.specs.Memory.{HaveShapes}
use Rattle.bq_maps.proofs.maps.all_zeros.Given as goal

abbrev pub invariant-loop-shape : goal.invariant-loop-shape
invariant-loop-shape l = record {
  have : HaveShapes (take l.shape-index l.shapes) (map (λ v. v.items) l.all.items);
  zero : (n i : ℕ) → get_or (get_or (map (λ v. v.items) l.all.items) n []) i 0 ≡ 0;
}
