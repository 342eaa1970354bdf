-- Numbers of one digit and of two, as text.
use Rattle.std.proofs.Common.{rules, ◌≡◌, ◌<◌, ◌≤◌, ◌+◌, ◌++◌, ◌∷◌, [], ℕ, List, ◌/◌, ◌%◌, ap, sym, ◌∙◌, append_assoc}
use Rattle.std.specs.Fmt.{decimal}
use Rattle.std.proofs.lemmas.Fmt.{decimal_digit, decimal_step}

-- a number below 100 has at most nine tens
pub at_most_nine_tens : (n : ℕ) → n < 100 → n / 10 < 10
at_most_nine_tens n high = search (rules)

-- a number of two digits is written as its tens and then its ones
pub two_digits : (n : ℕ) → 10 ≤ n → n < 100 → decimal n ≡ ((48 + n / 10) ∷ []) ++ ((48 + n % 10) ∷ [])
two_digits n low high =
    decimal_step n low (search rules) ∙ ap (λ ds. ds ++ (48 + n % 10) ∷ []) (decimal_digit (n / 10) (at_most_nine_tens n high))

-- a text to which the tens and then the ones are added has the number added
pub adds_two_digits : (old more new : List ℕ) (n : ℕ) → 10 ≤ n → n < 100 → more ≡ old ++ (48 + n / 10) ∷ []
    → new ≡ more ++ (48 + n % 10) ∷ []
    → new ≡ old ++ decimal n
adds_two_digits old more new n low high first second =
    second ∙ ap (λ l. l ++ (48 + n % 10) ∷ []) first ∙ append_assoc old ((48 + n / 10) ∷ []) ((48 + n % 10) ∷ [])
    ∙ ap (λ l. old ++ l) (sym (two_digits n low high))
