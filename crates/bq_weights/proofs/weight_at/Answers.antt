use Rattle.std.proofs.Common.{◌≡◌, ℕ, Bool, true, refl, arith}
use Rattle.std.specs.Prelude.{nat_le, ◌&&◌}
use Rattle.std.specs.List.{AllPass}
use Rattle.std.proofs.lemmas.List.Sums.{AllPass-from_list_all}
use Rattle.std.proofs.lemmas.Bool.Decides.{nat_tests}
use Rattle.bq_weights.specs.VirtualTime.{weights, IsWeight}
use Rattle.bq_weights.proofs.weight_at.Goals as goal

abbrev in_range : ℕ → Bool
in_range w = nat_le 15 w && nat_le w 88761

IsWeight-in_range : (w : ℕ) → in_range w ≡ true → IsWeight w
IsWeight-in_range w h = grind (arith, nat_tests)

all_in_range : AllPass in_range weights
all_in_range = AllPass-from_list_all in_range weights refl

pub returns-clause-range : goal.returns-clause-range
returns-clause-range c = IsWeight-in_range _ (all_in_range c.args.place 0 c.requires)
