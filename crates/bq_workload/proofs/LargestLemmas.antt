-- The largest of some processors.
use Rattle.std.proofs.Common.{◌≡◌, ℕ, ◌+◌, ◌<◌, ◌≤◌, List, Option, None, Some, Bool, true, false, refl, arith, below_more}
use Rattle.std.specs.Prelude.{nat_lt, if◌then◌else◌}
use Rattle.std.proofs.lemmas.Bool.{ltb-true, ltb-false}
use Rattle.bq_workload.specs.declared.processor_state.ProcessorState.{ProcessorState}
use Rattle.bq_workload.specs.Dues.{HasLargest, IsLargest, larger, size_at}

-- what has at most this many has at most more
at_most : (by_processor : List ProcessorState) (count few more : ℕ)
    → few ≤ more → ((p : ℕ) → p < count → size_at by_processor p ≤ few) → (p : ℕ) → p < count
    → size_at by_processor p ≤ more
at_most by_processor count few more grows h p low = omega (arith, grows, h p low)

-- what has at most this many has less than more
below_next : (by_processor : List ProcessorState) (count few more : ℕ)
    → few < more → ((p : ℕ) → p < count → size_at by_processor p ≤ few) → (p : ℕ) → p < count
    → size_at by_processor p < more
below_next by_processor count few more grows h p low = omega (arith, grows, h p low)

-- after those of which none has several the next is the largest, if it has several
next_alone : (by_processor : List ProcessorState) (count : ℕ) (b : Bool)
    → nat_lt 1 (size_at by_processor count) ≡ b → HasLargest by_processor count None
    → HasLargest by_processor (count + 1) (if b then Some count else None)
next_alone by_processor count true is h =
    let more : 1 < size_at by_processor count = ltb-true 1 (size_at by_processor count) is in
    record {
      within = omega arith;
      several = more;
      most =
          below_more (λ p. size_at by_processor p ≤ size_at by_processor count) count
          (at_most by_processor count 1 (size_at by_processor count) (omega (arith, more)) h) (omega arith);
      first = below_next by_processor count 1 (size_at by_processor count) more h;
    }
next_alone by_processor count false is h =
    below_more (λ p. size_at by_processor p ≤ 1) count h (ltb-false 1 (size_at by_processor count) is)

-- the next takes the place of the largest where it has more
next_larger : (by_processor : List ProcessorState) (count best : ℕ) (b : Bool)
    → nat_lt (size_at by_processor best) (size_at by_processor count) ≡ b → IsLargest by_processor count best
    → HasLargest by_processor (count + 1) (if b then Some count else Some best)
next_larger by_processor count best true is h =
    let more : size_at by_processor best < size_at by_processor count =
    ltb-true (size_at by_processor best) (size_at by_processor count) is in
    record {
      within = omega arith;
      several = omega (arith, more, h.several);
      most =
          below_more (λ p. size_at by_processor p ≤ size_at by_processor count) count
          (at_most by_processor count (size_at by_processor best) (size_at by_processor count) (omega (arith, more)) h.most)
          (omega arith);
      first = below_next by_processor count (size_at by_processor best) (size_at by_processor count) more h.most;
    }
next_larger by_processor count best false is h =
    record {
      within = omega (arith, h.within);
      several = h.several;
      most =
          below_more (λ p. size_at by_processor p ≤ size_at by_processor best) count h.most
          (ltb-false (size_at by_processor best) (size_at by_processor count) is);
      first = h.first;
    }

-- the largest of this many processors, and then of one more
pub largest_of_more : (by_processor : List ProcessorState) (count : ℕ) (best : Option ℕ)
    → HasLargest by_processor count best
    → HasLargest by_processor (count + 1) (larger by_processor best count)
largest_of_more by_processor count None h = next_alone by_processor count (nat_lt 1 (size_at by_processor count)) refl h
largest_of_more by_processor count (Some best) h =
    next_larger by_processor count best (nat_lt (size_at by_processor best) (size_at by_processor count)) refl h
