use Rattle.std.proofs.Common.{◌≡◌, ℕ, List, [], ◌∷◌, ◌++◌, length, take, drop, refl, ap, sym, subst, arith}
use Rattle.std.specs.List.{slice_index}
use Rattle.bq_verify.specs.Paths.{IsGreatest, PathOut}
use Rattle.bq_verify.proofs.program.heights_of.Goals as goal

kept_whole : (xs ys : List ℕ) → take (length xs) (xs ++ ys) ≡ xs
kept_whole [] ys = refl
kept_whole (x ∷ xs) ys = ap (λ l. x ∷ l) (kept_whole xs ys)

written : (xs ys : List ℕ) (n : ℕ) → n ≡ length xs → take n (xs ++ ys) ≡ xs
written xs ys n e = rw e (kept_whole xs ys)

pub measure-requires-clause-room : goal.measure-requires-clause-room
measure-requires-clause-room c = omega (arith, ap length c.as_mut_slice.ensures.value, c.in_ok-heights.ensures.len)

pub returns-clause-measured : goal.returns-clause-measured
returns-clause-measured c =
    let n : c.in_ok-heights.heights.len ≡ length c.measure.new.heights = omega (arith, ap length c.as_mut_slice.ensures.value) in
    let e =
    written c.measure.new.heights (drop (length c.measure.new.heights) c.in_ok-heights.heights.items)
    c.in_ok-heights.heights.len n in
    λ k low start.
    subst (λ (l : List ℕ). IsGreatest (PathOut c.args.slots.now k) (slice_index l k)) (sym e) (c.measure.ensures k low start)

pub returns-clause-room : goal.returns-clause-room
returns-clause-room c =
    let n : c.in_ok-heights.heights.len ≡ length c.measure.new.heights = omega (arith, ap length c.as_mut_slice.ensures.value) in
    let e =
    written c.measure.new.heights (drop (length c.measure.new.heights) c.in_ok-heights.heights.items)
    c.in_ok-heights.heights.len n in
    omega (arith, ap length e, c.in_ok-heights.ensures.len)
