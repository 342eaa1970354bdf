use Rattle.std.proofs.Common.{◌≡◌, ◌+◌, map, vec_len, IfOk}
use Rattle.std.specs.List.{All}
use Rattle.bq_history.specs.Whole.{Each}
use Rattle.bq_par.specs.Shifts.{IsShift}
use Rattle.bq_par.proofs.summary.returned.Given as goal

abbrev pub invariant-loop-one : goal.invariant-loop-one
invariant-loop-one g l = record {
  many : vec_len l.seats + vec_len l.done ≡ vec_len l.initial.done;
  left : All (λ r. IfOk r (λ d. IsShift d.seat.0 l.ticks d.seat.1)) l.done.items;
  same : map (λ v. v.items) l.lists.items ≡ map (λ s. s.1) l.seats.items;
  shifts : Each (λ s. IsShift s.0 l.ticks s.1) l.seats.items;
}

abbrev pub decreases-loop-one : goal.decreases-loop-one
decreases-loop-one g l = vec_len l.done
