-- The slices of a processor stand apart.
use Rattle.std.proofs.Common.{◌≡◌, ◌≢◌, ℕ, ◌<◌, ◌≤◌, Bool, true, false, List, [], ◌∷◌, ◌++◌, Option, Some, None, refl, sym, ap, ◌∙◌, inl, inr, eqb, ltb, cond, append-nil, subst, arith}
use Rattle.std.specs.Prelude.{option_to_list, All, filter}
use Rattle.std.proofs.lemmas.Bool.Decides.{eqb_tells, nat_tests}
use Rattle.std.proofs.lemmas.List.Elements.{filter-append, All-nil, All-push, All-head, All-tail, All-weaker}
use Rattle.bq_disc.specs.OneProcessor.{reading}
use Rattle.bq_schedule.specs.declared.slice.Slice.{Slice}
use Rattle.bq_schedule.specs.Histories.{History}
use Rattle.bq_schedule.specs.Slices.{ShownByAnswer, shown_by_answer, clock_after, clock, runner, slice_of, slice_shown, slices, is_slice_at, StandApart, slices_at}
use Rattle.bq_schedule.proofs.TestLemmas.{Tells}

-- slices that end by some time
abbrev pub EndBy : ℕ → List Slice → Type 0
EndBy n xs = All (λ (s : Slice). s.to ≤ n) xs

-- slices that end by some time end by any later one
end_later : (n k : ℕ) (xs : List Slice) → n ≤ k → EndBy n xs → EndBy k xs
end_later n k xs le h = All-weaker (λ (s : Slice). s.to ≤ n) (λ (s : Slice). s.to ≤ k) (λ s e. omega (arith, le, e)) xs h

-- slices that stand apart do so with one more that begins when they have ended
apart-push : (xs : List Slice) (y : Slice) → StandApart xs → All (λ (s : Slice). s.to ≤ y.from) xs → y.from < y.to
    → StandApart (xs ++ y ∷ [])
apart-push [] y h e lt = (lt, All-nil (λ (next : Slice). y.to ≤ next.from), tt)
apart-push (x ∷ xs) y h e lt = (
  h.0,
  All-push (λ (next : Slice). x.to ≤ next.from) xs y h.1 (All-head (λ (s : Slice). s.to ≤ y.from) x xs e),
  apart-push xs y h.2 (All-tail (λ (s : Slice). s.to ≤ y.from) x xs e) lt,
)

-- the slice, if it is at that processor
abbrev pub at_only : ℕ → Option Slice → Option Slice
at_only processor None = None
at_only processor (Some y) = cond (is_slice_at processor y) (Some y) None

-- one slice that is kept or dropped makes a list of at most one
filter-one_if : (y : Slice) (b : Bool) → cond b (y ∷ []) [] ≡ option_to_list (cond b (Some y) None)
filter-one_if y true = refl
filter-one_if y false = refl

-- of at most one slice, those at a processor are that slice, if it is there
pub filter-one : (processor : ℕ) (o : Option Slice) → filter (is_slice_at processor) (option_to_list o) ≡ option_to_list (at_only processor o)
filter-one processor None = refl
filter-one processor (Some y) = filter-one_if y (is_slice_at processor y)

-- a slice from one time on, that ends by another
abbrev pub IsNext : ℕ → ℕ → Option Slice → Type 0
IsNext c r None = c ≤ r
IsNext c r (Some y) = (y.from ≡ c) × (y.from < y.to) × (y.to ≤ r)

-- slices that stand apart and end by one reading stand apart with the next slice, and end by the next reading
grow : (xs : List Slice) (o : Option Slice) (c r : ℕ) → StandApart xs × EndBy c xs → IsNext c r o
    → StandApart (xs ++ option_to_list o) × EndBy r (xs ++ option_to_list o)
grow xs None c r h n = rw append-nil (h.0, end_later c r xs n h.1)
grow xs (Some y) c r h n = (
  apart-push xs y h.0 (end_later c y.from xs (omega (arith, n.0)) h.1) n.1,
  All-push (λ (s : Slice). s.to ≤ r) xs y (end_later c r xs (omega (arith, n.0, n.1, n.2)) h.1) n.2,
)

-- a clock that is read, or is not, does not go back
rises : (b : Bool) (c now : ℕ) → c ≤ cond b (reading c now) c
rises true c now = omega arith
rises false c now = omega arith

-- what an answered event ends at a processor begins at its last reading, and ends by the next
next_at : (x : ShownByAnswer) (past : History) (processor : ℕ) (who : Option ℕ) (b e : Bool)
    → ltb (clock x.processor past) (reading (clock x.processor past) x.now) ≡ b
    → Tells e (x.processor ≡ processor) (x.processor ≢ processor) → eqb x.processor processor ≡ e
    → IsNext (clock processor past) (cond e (reading (clock processor past) x.now) (clock processor past))
    (at_only processor (slice_of x.processor who (clock x.processor past) (reading (clock x.processor past) x.now)))
next_at x past processor None b e lt t is = rises e (clock processor past) x.now
next_at x past processor (Some id) true true lt (inl same) is =
    let k : clock x.processor past ≡ clock processor past = ap (λ j. clock j past) same.1 in
    rw (lt, is) (k, grind (arith, nat_tests), omega (arith, k, ap (λ n. reading n x.now) k))
next_at x past processor (Some id) true false lt (inr other) is = rw (lt, is) (omega arith)
next_at x past processor (Some id) false e lt t is = rw lt (rises e (clock processor past) x.now)
next_at x past processor (Some id) true true lt (inr other) is = absurd (cc)
next_at x past processor (Some id) true false lt (inl same) is = absurd (cc)

-- so does the slice that an answer shows, if it shows one there
next_shown : (past : History) (processor : ℕ) (o : Option ShownByAnswer)
    → IsNext (clock processor past) (clock_after processor (clock processor past) o) (at_only processor (slice_shown past o))
next_shown past processor None = omega arith
next_shown past processor (Some x) =
    next_at x past processor (runner x.processor past) (ltb (clock x.processor past) (reading (clock x.processor past) x.now))
    (eqb x.processor processor) refl (eqb_tells x.processor processor) refl

-- the slices of a processor do not overlap, and end by its last reading
pub stand_apart : (past : History) (processor : ℕ)
    → StandApart (slices_at processor past) × All (λ (s : Slice). s.to ≤ clock processor past) (slices_at processor past)
stand_apart [] processor = (tt, All-nil (λ (s : Slice). s.to ≤ 0))
stand_apart (m ∷ past) processor =
    let o = shown_by_answer m.event m.answer in
    let is : slices_at processor (m ∷ past) ≡ slices_at processor past ++ option_to_list (at_only processor (slice_shown past o)) =
    filter-append (is_slice_at processor) (slices past) (option_to_list (slice_shown past o))
    ∙ ap (λ ys. slices_at processor past ++ ys) (filter-one processor (slice_shown past o)) in
    let P : List Slice → Type 0 = λ xs. StandApart xs × All (λ (s : Slice). s.to ≤ clock processor (m ∷ past)) xs in
    subst P (sym is) (grow (slices_at processor past) (at_only processor (slice_shown past o)) (clock processor past)
    (clock processor (m ∷ past)) (stand_apart past processor) (next_shown past processor o))
