use Rattle.std.proofs.Common.{◌≡◌, ◌<◌, ℕ, false}
use Rattle.bq_disc.specs.Masks.{allows}
use Rattle.bq_workload.proofs.sound.first_of_mask.Given as goal

abbrev pub invariant-processors : goal.invariant-processors
invariant-processors l = (lower : ℕ) → lower < l.processor → allows l.mask lower ≡ false
