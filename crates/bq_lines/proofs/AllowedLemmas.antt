-- A test of each byte, one byte after another.
use Rattle.std.proofs.Common.{◌≡◌, ℕ, ◌+◌, ◌<◌, ◌≤◌, Bool, true, false, List, ◌∷◌, length, drop, get_or, drop-cons, add-one, refl, sym, ap, ◌∙◌}
use Rattle.std.specs.Prelude.{◌&&◌}
use Rattle.std.specs.List.{list_all}
use Rattle.std.proofs.lemmas.List.{drop_all}

-- `&&` may be grouped either way, and true behind it changes nothing:
and_assoc : (a b c : Bool) → (a && (b && c)) ≡ ((a && b) && c)
and_assoc true b c = refl
and_assoc false b c = refl

and_true : (a : Bool) → (a && true) ≡ a
and_true true = refl
and_true false = refl

-- once byte i is tested, only the bytes from i + 1 on are left to test
pub all_step : (p : ℕ → Bool) (line : List ℕ) (b : Bool) (i : ℕ) (at : Bool)
    → i < length line → at ≡ p (get_or line i 0) → list_all p line ≡ (b && list_all p (drop i line))
    → list_all p line ≡ ((b && at) && list_all p (drop (i + 1) line))
all_step p line b i at h is so_far =
    so_far ∙ ap (λ l. b && list_all p l) (drop-cons line i 0 h ∙ ap (λ k. get_or line i 0 ∷ drop k line) (sym (add-one i)))
    ∙ ap (λ x. b && (x && list_all p (drop (i + 1) line))) (sym is) ∙ and_assoc b at (list_all p (drop (i + 1) line))

-- once no byte is left to test, what was found is the answer for the whole line
pub all_end : (p : ℕ → Bool) (line : List ℕ) (b : Bool) (i : ℕ)
    → length line ≤ i → list_all p line ≡ (b && list_all p (drop i line)) → b ≡ list_all p line
all_end p line b i h so_far = sym (so_far ∙ ap (λ l. b && list_all p l) (drop_all i line h) ∙ and_true b)
