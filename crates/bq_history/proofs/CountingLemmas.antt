-- How many of the first items pass a test.
use Rattle.std.proofs.Common.{◌≡◌, ℕ, ◌+◌, ◌<◌, ◌≤◌, Bool, true, false, cond, List, [], ◌∷◌, ◌++◌, length, refl, sym, ap, arith}
use Rattle.std.specs.Prelude.{take}
use lib.ListN.{get_or}
use mir.Val.{bool_byte}
use Rattle.std.proofs.lemmas.List.{take_more}
use Rattle.bq_history.specs.Whole.{count}
use Rattle.bq_history.proofs.MoveLemmas.{count-append}

as_byte : (b : Bool) → bool_byte b ≡ cond {A = ℕ} b 1 0
as_byte true = refl
as_byte false = refl

-- a test as a byte is 0 or 1
pub small_byte : (b : Bool) → bool_byte b ≤ 1
small_byte true = omega arith
small_byte false = omega arith

-- one more is looked at
pub count_next : {A : Type 0} (p : A → Bool) (xs : List A) (i : ℕ) (x : A) (k n : ℕ)
    → i < length xs → x ≡ get_or xs i x → k ≡ count p (take i xs) → n ≡ bool_byte (p x)
    → k + n ≡ count p (take (i + 1) xs)
count_next p xs i x k n lt is so e =
    let more : count p (take (i + 1) xs) ≡ count p (take i xs ++ get_or xs i x ∷ []) = ap (count p) (take_more xs i x lt) in
    let both = count-append p (take i xs) (get_or xs i x ∷ []) in
    let one : cond {A = ℕ} (p (get_or xs i x)) 1 0 ≡ cond {A = ℕ} (p x) 1 0 = ap (λ y. cond {A = ℕ} (p y) 1 0) (sym is) in
    let byte = as_byte (p x) in
    omega (arith, more, both, one, byte, so, e)
