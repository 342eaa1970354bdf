-- Texts that begin with some words.
use Rattle.std.proofs.Common.{◌≡◌, ◌∙◌, ℕ, List, ◌++◌, ap}
use Rattle.bq_insn.specs.Appending.{StartsWith}

-- words and what is said after them
pub goes_on : (text first words behind : List ℕ) → text ≡ first ++ behind → first ≡ words → StartsWith words text
goes_on text first words behind is same = (behind, is ∙ ap (λ x. x ++ behind) same)
