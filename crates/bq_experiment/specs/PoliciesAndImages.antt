-- What is installed at hooks: policies, and the images that they are of.
use Rattle.std.specs.Prelude.{◌≡◌, ℕ, List, [], ◌∷◌, ◌++◌, Some, None, Vec, if◌then◌else◌, map}
use Rattle.std.specs.Global.{Global}
use Rattle.bq_hooks.specs.declared.hook.Hook.{Hook}
use Rattle.bq_parts.specs.Refusals.{same_hook}
use Rattle.bq_simulate.specs.Replays.{AreOfImages}
use Rattle.bq_simulate.specs.Texts.{ByHook}
use Rattle.bq_simulate.specs.Simulations.{Accepted}

-- policies, and images with their hooks, in the order in which they came
pub record PoliciesAndImages : Type 0 where
  pub loaded : List Accepted
  pub images : List (Hook × List ℕ)

-- the image at a hook: the first that is for it
abbrev pub image_for : List (Hook × List ℕ) → ByHook
image_for [] hook = None
image_for ((place, image) ∷ more) hook = if same_hook place hook then Some image else image_for more hook

-- each policy is that of the image at its hook
abbrev pub AreOfTheirImages : PoliciesAndImages → Type 0
AreOfTheirImages s = AreOfImages (image_for s.images) s.loaded

-- an image with its hook, as bytes
abbrev pub image_as_bytes : Hook × Vec ℕ Global → Hook × List ℕ
image_as_bytes image = (image.0, image.1.items)

-- these policies, with the bytes of their images
abbrev pub with_images : List Accepted → List (Hook × Vec ℕ Global) → PoliciesAndImages
with_images loaded images = record { loaded = loaded; images = map image_as_bytes images }

-- one more policy is there, and one more image at this hook
pub record AddsPolicy (hook : Hook) (image : List ℕ) (policy : Accepted) (old new : PoliciesAndImages) : Type 0 where
  pub loaded : new.loaded ≡ old.loaded ++ policy ∷ []
  pub images : new.images ≡ old.images ++ (hook, image) ∷ []
