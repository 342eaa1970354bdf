-- A text's words are its first one and those behind it.
use Rattle.std.proofs.Common.{◌≡◌, ℕ, List, [], ◌∷◌, refl}
use Rattle.std.specs.Option.{option_map}
use Rattle.bq_words.specs.Words.{one_of, two_of, three_of, four_of}

-- two words are one and one
pub two_by_one : (word : List ℕ) (more : List (List ℕ)) → two_of (word ∷ more) ≡ option_map (λ w. (word, w)) (one_of more)
two_by_one word [] = refl
two_by_one word (a ∷ []) = refl
two_by_one word (a ∷ b ∷ more) = refl

-- three words are one and two
pub three_by_two : (word : List ℕ) (more : List (List ℕ)) → three_of (word ∷ more) ≡ option_map (λ w. (word, w.0, w.1)) (two_of more)
three_by_two word [] = refl
three_by_two word (a ∷ []) = refl
three_by_two word (a ∷ b ∷ []) = refl
three_by_two word (a ∷ b ∷ c ∷ more) = refl

-- four words are one and three
pub four_by_three : (word : List ℕ) (more : List (List ℕ)) → four_of (word ∷ more) ≡ option_map (λ w. (word, w.0, w.1, w.2)) (three_of more)
four_by_three word [] = refl
four_by_three word (a ∷ []) = refl
four_by_three word (a ∷ b ∷ []) = refl
four_by_three word (a ∷ b ∷ c ∷ []) = refl
four_by_three word (a ∷ b ∷ c ∷ d ∷ more) = refl
