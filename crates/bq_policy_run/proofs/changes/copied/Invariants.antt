use Rattle.std.proofs.Common.{◌≡◌, map, take}
use Rattle.bq_policy_run.proofs.changes.copied.Given as goal

-- the bytes of the maps so far
abbrev pub invariant-loop-number : goal.invariant-loop-number
invariant-loop-number l = map (λ v. v.items) l.all.items ≡ take l.number l.maps.bytes
