-- Counts that stop at a greatest one.
use Rattle.std.proofs.Common.{◌≡◌, ℕ, ◌+◌, ◌*◌, ◌<◌, ◌≤◌, ◌⊎◌, inl, inr, min, arith, ap, ◌∙◌, zero, suc}
use Rattle.std.proofs.Math.Nat.{mul_comm, mul-le-mul_left}
use Rattle.std.proofs.lemmas.Bool.{cases_lt}

-- to stop the parts of a sum before changes nothing
pub capped_sums : (m a b : ℕ) → min (min a m + min b m) m ≡ min (a + b) m
capped_sums m a b = omega arith

-- to stop a factor before changes nothing of a product that is stopped
capped_at : (m a b : ℕ) → (b < m) ⊎ (m ≤ b) → min (a * min b m) m ≡ min (a * b) m
capped_at m a b (inl low) = let e : min b m ≡ b = omega (arith, low) in ap (λ x. min (a * x) m) e
capped_at m zero b (inr high) = omega arith
capped_at m (suc a) b (inr high) =
    let e : min b m ≡ m = omega (arith, high) in ap (λ x. min (suc a * x) m) e ∙ omega (arith, high, mul-le-mul_left a high)

-- the same, whether or not that factor is stopped
capped_product : (m a b : ℕ) → min (a * min b m) m ≡ min (a * b) m
capped_product m a b = capped_at m a b (cases_lt b m)

-- to stop both factors before changes nothing of a product that is stopped
capped_factors : (m a b : ℕ) → min (min a m * min b m) m ≡ min (a * b) m
capped_factors m a b =
    capped_product m (min a m) b ∙ ap (λ x. min x m) (mul_comm (min a m) b) ∙ capped_product m b a
    ∙ ap (λ x. min x m) (mul_comm b a)

-- the steps of some tasks, and those of one kind more
pub more_units : (m total count steps inner product units next : ℕ)
    → units ≡ min total m → inner ≡ min steps m → product ≡ min (count * inner) m → next ≡ min (units + product) m
    → next ≡ min (total + count * steps) m
more_units m total count steps inner product units next u i p n =
    let e : product ≡ min (count * steps) m = p ∙ ap (λ x. min (count * x) m) i ∙ capped_product m count steps in
    n ∙ ap (λ x. min (units + x) m) e ∙ ap (λ x. min (x + min (count * steps) m) m) u ∙ capped_sums m total (count * steps)

-- at each of this many instants this many steps
pub all_steps : (m a b instants at_once next : ℕ) → instants ≡ min a m → at_once ≡ min b m → next ≡ min (instants * at_once) m
    → next ≡ min (a * b) m
all_steps m a b instants at_once next i o n = n ∙ ap (λ x. min (x * at_once) m) i ∙ ap (λ x. min (min a m * x) m) o ∙ capped_factors m a b

-- at one instant: twice what the tasks do, their timers, and two things for each processor
pub at_one_instant : (m u t p units tasks processors doubled first ends at_once : ℕ)
    → units ≡ min u m → tasks ≡ min t m → processors ≡ p → doubled ≡ min (units * 2) m → first ≡ min (doubled + tasks) m
    → ends ≡ min (processors * 2) m → at_once ≡ min (first + ends) m
    → at_once ≡ min (u * 2 + t + p * 2) m
at_one_instant m u t p units tasks processors doubled first ends at_once a b c d e f g = omega (arith, a, b, c, d, e, f, g)
