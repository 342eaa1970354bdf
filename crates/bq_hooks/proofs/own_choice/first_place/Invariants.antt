use Rattle.std.proofs.Common.{◌≡◌, ◌-◌}
use Rattle.std.specs.Prelude.{filter}
use Rattle.std.specs.List.{range_with_len}
use Rattle.bq_disc.specs.Masks.{allows}
use Rattle.bq_hooks.specs.OwnPlace.{first_place}
use Rattle.bq_hooks.proofs.own_choice.first_place.Given as goal

abbrev pub invariant-loop-done : goal.invariant-loop-done
invariant-loop-done l = l.first ≡ first_place l.loads l.previous (filter (allows l.mask) (range_with_len (l.count - l.done) l.done))
