-- What a text that grows holds.
use Rattle.std.specs.Prelude.{◌≡◌, ℕ, List, ◌++◌}

-- a text grew by a piece for which this holds
pub record GrowsByPiece (old new : List ℕ) (Holds : List ℕ → Type 0) : Type 0 where
  pub piece : List ℕ
  pub added : new ≡ old ++ piece
  pub holds : Holds piece
