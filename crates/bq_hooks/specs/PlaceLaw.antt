-- The law of the discipline's own place.
use Rattle.std.specs.Prelude.{◌≡◌, ◌≢◌, ℕ, ◌<◌, ◌≤◌, true, List, Option, Some, IsSome, IfSome, slice_index}
use Rattle.bq_disc.specs.Tasks.{Task}
use Rattle.bq_disc.specs.Masks.{allows}
use Rattle.bq_hooks.specs.OwnPlace.{own_place, HasPlace}

-- one of the first `count` processors that a task's mask allows
abbrev pub MayUse : ℕ → Task → ℕ → Type 0
MayUse count t p = (p < count) × (allows t.mask p ≡ true)

-- if a task may use some processor of the machine, it has a place; the place is one that it may use, and none of those has
-- less load; of those of equal load it is the previous one if that is among them, else the one of the least number
pub record IsLawfulPlace (place : ℕ → List ℕ → Task → Option ℕ) : Type 0 where
  pub exists : (count : ℕ) (loads : List ℕ) (t : Task) → HasPlace count t → IsSome (place count loads t)
  pub member : (count : ℕ) (loads : List ℕ) (t : Task) → IfSome (place count loads t) (MayUse count t)
  pub lightest : (count : ℕ) (loads : List ℕ) (t : Task) → IfSome (place count loads t) (λ p. (q : ℕ) → MayUse count t q → slice_index loads p ≤ slice_index loads q)
  pub previous : (count : ℕ) (loads : List ℕ) (t : Task) → IfSome (place count loads t) (λ p. (q : ℕ) → MayUse count t q → slice_index loads q ≡ slice_index loads p → t.prev ≡ Some q → p ≡ q)
  pub lowest : (count : ℕ) (loads : List ℕ) (t : Task) → IfSome (place count loads t) (λ p. (q : ℕ) → MayUse count t q → slice_index loads q ≡ slice_index loads p → t.prev ≢ Some p → p ≤ q)

-- the discipline's own place obeys that law
abbrev pub OwnPlaceIsLawful : Type 0
OwnPlaceIsLawful = IsLawfulPlace own_place
