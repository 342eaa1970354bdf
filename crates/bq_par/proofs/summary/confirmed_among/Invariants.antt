use Rattle.std.proofs.Common.{◌≡◌, take, length}
use Rattle.std.specs.List.{sum_by}
use Rattle.bq_par.proofs.summary.confirmed_among.Given as goal

abbrev pub invariant-loop-list : goal.invariant-loop-list
invariant-loop-list l = (l.confirmed ≡ sum_by (λ v. length v.items) (take l.list-index l.lists))
