-- How long the run is from a slot, and when a program is too long.
use Rattle.std.proofs.Common.{◌≡◌, ℕ, zero, suc, ◌+◌, ◌*◌, ◌<◌, ◌≤◌, ◌⊎◌, inl, inr, Bool, true, false, List, [], ◌∷◌, drop, length, Option, Some, None, refl, arith, ap, ◌∙◌}
use Rattle.std.specs.Prelude.{if◌then◌else◌, sum_by}
use Rattle.std.proofs.lemmas.List.{at_drop_more, length-drop}
use Rattle.std.proofs.lemmas.List.Sums.{sum_by-cons}
use Rattle.bq_insn.specs.declared.Insn.{Insn}
use Rattle.bq_insn.specs.Slots.{slots_of}
use Rattle.bq_bpf.specs.Steps.{instruction_at}
use Rattle.bq_bpf.specs.Instructions.{goes_on}
use Rattle.bq_verify.specs.Edges.{IsStart}
use Rattle.bq_verify.proofs.EdgeLemmas.{leads_same, start_inside}
use Rattle.bq_verify.proofs.SpreadLemmas.{one_or_two}
use Rattle.bq_import.specs.Faults.{IsLinked}
use Rattle.bq_import.specs.Lengths.{IsSlotIn, IsLanding, AreRunsTooLong, run_slots, run_of, width_at, width_of_slot}
use Rattle.bq_import.specs.Search.{IsNextSlot}
use Rattle.bq_import.proofs.RoomLemmas.{enough, one_slot}

-- the run, by the first of its slots
run_here : (slots : List (Option Insn)) (slot : ℕ) (o : Option Insn)
    → slot < length slots → instruction_at slots slot ≡ o
    → run_slots slots slot ≡ run_of (o ∷ drop (slot + 1) slots)
run_here slots slot o inside here =
    at_drop_more run_of slots slot None inside ∙ ap (λ (v : Option Insn). run_of (v ∷ drop (slot + 1) slots)) here

-- from an instruction that goes on
run_on_from : (slots : List (Option Insn)) (slot : ℕ) (insn : Insn)
    → instruction_at slots slot ≡ Some insn → goes_on insn ≡ true
    → run_slots slots slot ≡ 1 + run_slots slots (slot + 1)
run_on_from slots slot insn here on =
    run_here slots slot (Some insn) (start_inside slots slot (record { insn = insn; here = here })) here
    ∙ ap (λ (b : Bool). if b then 1 + run_of (drop (slot + 1) slots) else 1) on

-- the run ends where that from the next instruction ends
pub run_next : (slots : List (Option Insn)) (slot next : ℕ) → IsLinked slots → IsNextSlot slots slot next
    → next + run_slots slots next ≡ slot + run_slots slots slot
run_next slots slot next linked n =
    elim (one_or_two n.insn) [ inl one ↦ by_one one | inr two ↦ by_two two (instruction_at slots (slot + 1)) refl ]
  where
    by_one : slots_of n.insn ≡ 1 → next + run_slots slots next ≡ slot + run_slots slots slot
    by_one one =
        let is = n.is in
        let same : next ≡ slot + 1 = omega (arith, is, one) in
        let here = run_on_from slots slot n.insn n.here n.on in
        let there : run_slots slots next ≡ run_slots slots (slot + 1) = ap (run_slots slots) same in
        omega (arith, same, here, there)

    by_two : slots_of n.insn ≡ 2 → (o : Option Insn) → instruction_at slots (slot + 1) ≡ o
        → next + run_slots slots next ≡ slot + run_slots slots slot
    by_two two (Some insn) e =
        absurd (linked.gaps slot n.insn n.here (slot + 1) (omega arith) (omega (arith, two)) (record { insn = insn; here = e }))
    by_two two None e =
        let is = n.is in
        let same : next ≡ slot + 1 + 1 = omega (arith, is, two) in
        let inside = start_inside slots (slot + slots_of n.insn) ((linked.leads slot n.insn n.here).0 n.on) in
        let here = run_on_from slots slot n.insn n.here n.on in
        let second : run_slots slots (slot + 1) ≡ 1 + run_slots slots (slot + 1 + 1) =
        run_here slots (slot + 1) None (omega (arith, inside, two)) e in
        let there : run_slots slots next ≡ run_slots slots (slot + 1 + 1) = ap (run_slots slots) same in
        omega (arith, same, here, second, there)

-- an instruction from which control does not go on is a run by itself
pub run_alone : (slots : List (Option Insn)) (slot : ℕ) (insn : Insn)
    → instruction_at slots slot ≡ Some insn → goes_on insn ≡ false → run_slots slots slot ≡ 1
run_alone slots slot insn here on =
    run_here slots slot (Some insn) (start_inside slots slot (record { insn = insn; here = here })) here
    ∙ ap (λ (b : Bool). if b then 1 + run_of (drop (slot + 1) slots) else 1) on

-- the run has the slots of its first instruction
pub run_has : (slots : List (Option Insn)) (slot : ℕ) → IsLinked slots → IsStart slots slot → width_at slots slot ≤ run_slots slots slot
run_has slots slot linked start = by (goes_on start.insn) refl
  where
    wide : width_at slots slot ≡ slots_of start.insn
    wide = ap width_of_slot start.here

    by : (b : Bool) → goes_on start.insn ≡ b → width_at slots slot ≤ run_slots slots slot
    by true on =
        let ends =
        run_next slots slot (slot + slots_of start.insn) linked
        (record { insn = start.insn; here = start.here; on = on; is = refl }) in
        let same = wide in
        omega (arith, ends, same)
    by false on =
        let one = one_slot start.insn on in
        let here = run_alone slots slot start.insn start.here on in
        let same = wide in
        omega (arith, one, here, same)

-- no run is longer than the program
run_within : (slots : List (Option Insn)) → run_of slots ≤ length slots
run_within [] = omega arith
run_within (None ∷ slots) = let rest = run_within slots in omega (arith, rest)
run_within (Some insn ∷ slots) = by (goes_on insn) (run_within slots)
  where
    by : (b : Bool) → run_of slots ≤ length slots → (if b then 1 + run_of slots else 1) ≤ suc (length slots)
    by true rest = omega (arith, rest)
    by false rest = omega arith

-- no run from a slot is longer than the program
run_short : (slots : List (Option Insn)) (slot : ℕ) → run_slots slots slot ≤ length slots
run_short slots slot = let within = run_within (drop slot slots) in let long = length-drop slot slots in omega (arith, within, long)

-- the numbers below one
below : ℕ → List ℕ
below zero = []
below (suc n) = n ∷ below n

-- each number below one is in the list of these numbers
is_below : (n k : ℕ) → k < n → IsSlotIn (below n) k
unfolding below
is_below zero k lt = absurd (omega (arith, lt))
is_below (suc n) k lt = elim (equal n k lt) [ inl e ↦ inl e | inr less ↦ inr (is_below n k less) ]
  where
    equal : (n k : ℕ) → k < suc n → (k ≡ n) ⊎ (k < n)
    equal zero zero lt = inl refl
    equal zero (suc k) lt = absurd (omega (arith, lt))
    equal (suc n) zero lt = inr (omega arith)
    equal (suc n) (suc k) lt = elim (equal n k (omega (arith, lt))) [ inl e ↦ inl (ap suc e) | inr less ↦ inr (omega (arith, less)) ]

-- a sum over the numbers below n, each of whose parts is at most m, is at most n * m
sum_below : (f : ℕ → ℕ) (m n : ℕ) → ((k : ℕ) → f k ≤ m) → sum_by f (below n) ≤ n * m
unfolding below
sum_below f m zero le = let none : sum_by f [] ≡ 0 = refl in omega (arith, none)
sum_below f m (suc n) le =
    let rest = sum_below f m n le in
    let here = le n in
    let all = sum_by-cons f n (below n) in
    let times : suc n * m ≡ n * m + m = omega arith in
    omega (arith, rest, here, all, times)

-- a jump leads to an instruction
landing_inside : (slots : List (Option Insn)) (slot : ℕ) → IsLinked slots → IsLanding slots slot → slot < length slots
landing_inside slots slot linked landing =
    let jump = landing.1 in
    let well = (linked.leads landing.0 jump.insn jump.here).1 jump.distance jump.jumps in
    let inside = start_inside slots well.0 well.2 in
    let same = leads_same landing.0 well.0 slot jump.distance well.1 jump.leads in
    omega (arith, inside, same)

-- a program that is too long has 64 slots or more
pub long_enough : (slots : List (Option Insn)) → IsLinked slots → AreRunsTooLong slots → 64 ≤ length slots
long_enough slots linked long =
    let over = long (below (length slots)) (λ slot landing. is_below (length slots) slot (landing_inside slots slot linked landing)) in
    let first = run_short slots 0 in
    let all = sum_below (run_slots slots) (length slots) (length slots) (run_short slots) in
    enough (length slots) (run_slots slots 0 + sum_by (run_slots slots) (below (length slots))) over (omega (arith, first, all))
