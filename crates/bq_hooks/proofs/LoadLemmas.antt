-- Loads that are written in place.
use Rattle.std.proofs.Common.{◌≡◌, ℕ, ◌≤◌, List, ◌++◌, length, take, drop, sym, ap, subst, ◌∙◌}
use Rattle.std.proofs.Math.ListN.{set, length-set}
use Rattle.std.proofs.Math.Seq.{take-append_seam}
use Rattle.std.proofs.lemmas.List.{set_past}
use Rattle.std.specs.List.{refill}

-- a list that is written over by one as long is that one
pub refill_whole : (xs ys : List ℕ) → length ys ≡ length xs → refill (length xs) xs ys ≡ ys
refill_whole xs ys e =
    let rest : List ℕ = drop (length ys) xs in
    ap (λ n. take n (ys ++ rest)) (sym e) ∙ take-append_seam ys rest

-- a write of one element of a list changes only that element
pub refill_set : (xs ys zs : List ℕ) (k n : ℕ) → ys ≡ xs → xs ≡ zs → refill (length xs) xs (set ys k n) ≡ set zs k n
refill_set xs ys zs k n e f =
    refill_whole xs (set ys k n) (length-set ys k n ∙ ap length e) ∙ ap (λ l. set l k n) (e ∙ f)

-- a write past the end leaves the list as it was
pub refill_past : (xs ys zs : List ℕ) (k n : ℕ) → ys ≡ xs → xs ≡ zs → length ys ≤ k → refill (length xs) xs ys ≡ set zs k n
refill_past xs ys zs k n e f h =
    let same = e ∙ f in
    refill_whole xs ys (ap length e) ∙ same ∙ sym (set_past zs k n (subst (λ (l : List ℕ). length l ≤ k) same h))
