use Rattle.std.proofs.Common.{◌≡◌, drop, map}
use Rattle.bq_experiment.specs.PoliciesAndImages.{image_for, image_as_bytes}
use Rattle.bq_experiment.proofs.policies.Policies.image_at.Given as goal

-- what is for the hook is among the rest
abbrev pub invariant-images : goal.invariant-images
invariant-images l = image_for l.self.images l.hook ≡ image_for (map image_as_bytes (drop l.place-index l.place-items)) l.hook
