-- Two words, joined or not.
use Rattle.std.proofs.Common.{◌≡◌, ℕ, List, ◌∷◌, ◌++◌, ◌||◌, Bool, true, false, codes, refl}
use Rattle.bq_console.specs.Words.{is_end, is_joined, options_joined}

-- a negative number is joined to the option before it
pub joined_pair : (ended : Bool) (word value : List ℕ) (more : List (List ℕ)) → is_joined ended word value ≡ true
    → options_joined ended (word ∷ value ∷ more) ≡ (word ++ (codes "=" ++ value)) ∷ options_joined ended more
joined_pair ended word value more e = rw e refl

-- words that are not joined stay two
pub joined_alone : (ended : Bool) (word value : List ℕ) (more : List (List ℕ)) → is_joined ended word value ≡ false
    → options_joined ended (word ∷ value ∷ more) ≡ word ∷ options_joined (ended || is_end word) (value ∷ more)
joined_alone ended word value more e = rw e refl
