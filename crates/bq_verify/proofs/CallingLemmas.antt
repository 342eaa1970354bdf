-- The worked program with calls of helpers 2, 100 and 101 is straight.
use Rattle.std.proofs.Common.{◌≡◌, ℕ, ◌+◌, ◌<◌, ◌≤◌, Bool, true, false, List, [], ◌∷◌, Option, Some, None, refl, sym, subst, ◌∙◌, inl, inr, ℤ, pos, arith}
use Rattle.std.specs.Prelude.{neg_ℤ, slice_index}
use Rattle.std.proofs.lemmas.Int.{ints}
use Rattle.std.proofs.lemmas.Option.{none-some}
use Rattle.std.proofs.lemmas.Bool.{false≢true, or_right}
use Rattle.bq_insn.specs.declared.Insn.{Insn}
use Rattle.bq_insn.specs.declared.Insn.TheVariants.{Call, Exit}
use Rattle.bq_insn.specs.declared.Operation.TheVariants.{Add}
use Rattle.bq_insn.specs.declared.Size.TheVariants.{Double}
use Rattle.bq_insn.specs.declared.Source.TheVariants.{Imm}
use Rattle.bq_insn.specs.declared.Width.TheVariants.{W64}
use Rattle.bq_insn.specs.Slots.{slots_of, spread}
use Rattle.bq_bpf.specs.Steps.{LeadsTo, instruction_at}
use Rattle.bq_bpf.specs.declared.shape.MapShape.{MapShape}
use Rattle.bq_verify.specs.Edges.{IsEdge, IsStart}
use Rattle.bq_bpf.specs.Instructions.{Leaves, distance_of, goes_on, destination_of}
use Rattle.bq_verify.specs.Paths.{CallsOnWay, IsPath, Path, calls_before_end, path_end}
use Rattle.bq_verify.specs.Faults.{IsFaultless, is_helper}
use Rattle.bq_verify.specs.declared.graph_cause.GraphCause.TheVariants.{Jump, NoExit, Unreached, Frame, Helper, Counters}
use Rattle.bq_verify.proofs.EdgeLemmas.{exit_is_last}
use Rattle.bq_verify.proofs.CountLemmas.{one_call}
use Rattle.bq_states.specs.declared.abstract_state.ValueKind.TheVariants.{Map, Stack}
use Rattle.bq_verify.specs.Straight.{leaves, loads, stores, untouched, writes, HasOneWay, IsByteStored, IsCounting, IsGiving, IsLoaded, IsMoveOnStack, IsEntryNamed, IsPointerFrom, IsWrittenOnEachPath, Needs, OnEachPath}
use Rattle.bq_verify.specs.Worked.{calls_program, CallingIsStraight}
use Rattle.bq_verify.proofs.EachSlotLemmas.{each_slot, ◌then◌, holds_along_path, made_before, made_first, goes_next, goes_nowhere, edge_on, path_on, no_jump, not_frame}

-- the slots of the worked program with calls
abbrev program : List (Option Insn)
program = spread calls_program

-- the slot before each slot: control goes on from each to the next
abbrev before : ℕ → ℕ
before k = slice_index (0 ∷ 0 ∷ 0 ∷ 1 ∷ 3 ∷ 4 ∷ 5 ∷ 6 ∷ 7 ∷ 8 ∷ 9 ∷ 10 ∷ 11 ∷ 12 ∷ 13 ∷ []) k

-- each edge to a slot comes from the slot before it
only_before : (from to : ℕ) → IsEdge program from to → from ≡ before to
only_before from to edge =
    each_slot program (λ from insn. (to : ℕ) → Leaves insn from to → from ≡ before to)
    (goes_next program before 0 _ refl refl refl
    then goes_next program before 1 _ refl refl refl
    then goes_next program before 3 _ refl refl refl
    then goes_next program before 4 _ refl refl refl
    then goes_next program before 5 _ refl refl refl
    then goes_next program before 6 _ refl refl refl
    then goes_next program before 7 _ refl refl refl
    then goes_next program before 8 _ refl refl refl
    then goes_next program before 9 _ refl refl refl
    then goes_next program before 10 _ refl refl refl
    then goes_next program before 11 _ refl refl refl
    then goes_next program before 12 _ refl refl refl
    then goes_next program before 13 _ refl refl refl
    then goes_nowhere program before 14 refl
    then tt) from edge.insn edge.here to edge.leaves

-- at most one edge leads to each slot
one_way : (slot : ℕ) → HasOneWay program slot
one_way slot a b p q = only_before a slot p ∙ sym (only_before b slot q)

-- a path to each slot
to_0 : Path program 0 0
to_0 = record { rest = []; is_path = tt; ends = refl }

to_1 : Path program 0 1
to_1 = path_on program 0 _ refl refl to_0

to_3 : Path program 0 3
to_3 = path_on program 1 _ refl refl to_1

to_4 : Path program 0 4
to_4 = path_on program 3 _ refl refl to_3

to_5 : Path program 0 5
to_5 = path_on program 4 _ refl refl to_4

to_6 : Path program 0 6
to_6 = path_on program 5 _ refl refl to_5

to_7 : Path program 0 7
to_7 = path_on program 6 _ refl refl to_6

to_8 : Path program 0 8
to_8 = path_on program 7 _ refl refl to_7

to_9 : Path program 0 9
to_9 = path_on program 8 _ refl refl to_8

to_10 : Path program 0 10
to_10 = path_on program 9 _ refl refl to_9

to_11 : Path program 0 11
to_11 = path_on program 10 _ refl refl to_10

to_12 : Path program 0 12
to_12 = path_on program 11 _ refl refl to_11

to_13 : Path program 0 13
to_13 = path_on program 12 _ refl refl to_12

to_14 : Path program 0 14
to_14 = path_on program 13 _ refl refl to_13

-- a call of a helper that exists calls no unknown helper
a_helper : (a h : ℤ) → is_helper a ≡ true → Call a ≡ Call h → is_helper h ≡ false → ⊥
a_helper a h known is unknown =
    let same : a ≡ h = cc in let there : is_helper a ≡ false = subst (λ (n : ℤ). is_helper n ≡ false) (sym same) unknown in cc

-- a slot below 15 is not past the end
inside : (n : ℕ) → n < 15 → 15 ≤ n → ⊥
inside n lt le = omega arith

-- control goes forward over each edge
goes_forward : (n : ℕ) (insn : Insn) → instruction_at program n ≡ Some insn → distance_of insn ≡ None
    → 1 ≤ slots_of insn → (to : ℕ) → Leaves insn n to
    → n < to
goes_forward n insn here none some to (inl on) = let is = on.1 in omega (arith, is, some)
goes_forward n insn here none some to (inr jump) = absurd (none-some jump.0 (sym none ∙ jump.1))

-- no edge leads back, neither from the EXIT nor from any other instruction:
exits : (to : ℕ) → Leaves Exit 14 to → 14 < to
exits to leaves = absurd (exit_is_last program 14 to refl (record { insn = Exit; here = refl; leaves = leaves }))

forward : (from to : ℕ) → IsEdge program from to → from < to
forward from to edge =
    each_slot program (λ from insn. (to : ℕ) → Leaves insn from to → from < to)
    (goes_forward 0 _ refl refl some
    then goes_forward 1 _ refl refl two
    then goes_forward 3 _ refl refl some
    then goes_forward 4 _ refl refl some
    then goes_forward 5 _ refl refl some
    then goes_forward 6 _ refl refl some
    then goes_forward 7 _ refl refl some
    then goes_forward 8 _ refl refl some
    then goes_forward 9 _ refl refl some
    then goes_forward 10 _ refl refl some
    then goes_forward 11 _ refl refl some
    then goes_forward 12 _ refl refl some
    then goes_forward 13 _ refl refl some
    then exits
    then tt) from edge.insn edge.here to edge.leaves
  where
    some : 1 ≤ 1
    some = omega arith

    two : 1 ≤ 2
    two = omega arith

-- a path has no more calls of counters than slots that it passes
few_calls : (rest : List ℕ) (from : ℕ) → IsPath program from rest → calls_before_end program from rest + from ≤ path_end from rest
few_calls [] from path = omega arith
few_calls (next ∷ rest) from path =
    let step = forward from next path.0 in
    let more = few_calls rest next path.1 in
    let one = one_call (instruction_at program from) in
    omega (arith, step, more, one)

-- each instruction begins below slot 15
low : (k : ℕ) (insn : Insn) → instruction_at program k ≡ Some insn → k < 15
low =
    each_slot program (λ k insn. k < 15)
    (omega arith then omega arith then omega arith then omega arith then omega arith then omega arith
    then omega arith then omega arith then omega arith then omega arith then omega arith then omega arith
    then omega arith then omega arith then tt)

-- no path to an instruction has sixteen calls of counters
never_late : (slot count : ℕ) (insn : Insn) → instruction_at program slot ≡ Some insn → CallsOnWay program slot count → 16 ≤ count → ⊥
never_late slot count insn here way many =
    let few = few_calls way.rest 0 way.is_path in
    let ends = way.ends in
    let is = way.count_is in
    let lt = low slot insn here in
    omega (arith, few, ends, is, lt, many)

-- the control graph of the program has no fault
faultless : IsFaultless program
faultless Jump slot fault =
    each_slot program
    (λ slot insn. (d : ℤ) → distance_of insn ≡ Some d → ((to : ℕ) → LeadsTo slot d to → slot < to → IsStart program to → ⊥) → ⊥)
    (no_jump program 0 then no_jump program 1 then no_jump program 3 then no_jump program 4 then no_jump program 5
    then no_jump program 6 then no_jump program 7 then no_jump program 8 then no_jump program 9 then no_jump program 10
    then no_jump program 11 then no_jump program 12 then no_jump program 13 then no_jump program 14 then tt)
    slot fault.insn fault.here fault.distance fault.jumps fault.nowhere
faultless NoExit slot fault =
    each_slot program (λ slot insn. goes_on insn ≡ true → 15 ≤ slot + slots_of insn → ⊥)
    ((λ on. inside 1 (omega arith))
    then (λ on. inside 3 (omega arith))
    then (λ on. inside 4 (omega arith))
    then (λ on. inside 5 (omega arith))
    then (λ on. inside 6 (omega arith))
    then (λ on. inside 7 (omega arith))
    then (λ on. inside 8 (omega arith))
    then (λ on. inside 9 (omega arith))
    then (λ on. inside 10 (omega arith))
    then (λ on. inside 11 (omega arith))
    then (λ on. inside 12 (omega arith))
    then (λ on. inside 13 (omega arith))
    then (λ on. inside 14 (omega arith))
    then (λ on past. false≢true on)
    then tt) slot fault.insn fault.here fault.on fault.past
faultless Unreached slot fault =
    fault.none (each_slot program (λ slot insn. Path program 0 slot)
    (to_0 then to_1 then to_3 then to_4 then to_5 then to_6 then to_7 then to_8 then to_9 then to_10 then to_11
    then to_12 then to_13 then to_14 then tt) slot fault.start.insn fault.start.here)
faultless Frame slot fault =
    each_slot program (λ slot insn. destination_of insn ≡ Some 10 → ⊥)
    (none-some 10 then not_frame 1 (omega arith) then not_frame 2 (omega arith) then not_frame 2 (omega arith)
    then not_frame 3 (omega arith) then not_frame 3 (omega arith) then not_frame 4 (omega arith) then none-some 10
    then not_frame 2 (omega arith) then not_frame 1 (omega arith) then none-some 10 then not_frame 1 (omega arith)
    then none-some 10 then none-some 10 then tt) slot fault.insn fault.here fault.writes
faultless Helper slot fault =
    each_slot program (λ slot insn. (h : ℤ) → insn ≡ Call h → is_helper h ≡ false → ⊥)
    ((λ h is unknown. cc)
    then (λ h is unknown. cc)
    then (λ h is unknown. cc)
    then (λ h is unknown. cc)
    then (λ h is unknown. cc)
    then (λ h is unknown. cc)
    then (λ h is unknown. cc)
    then (λ h. a_helper (pos 2) h refl)
    then (λ h is unknown. cc)
    then (λ h is unknown. cc)
    then (λ h. a_helper (pos 100) h refl)
    then (λ h is unknown. cc)
    then (λ h. a_helper (pos 101) h refl)
    then (λ h is unknown. cc)
    then tt) slot (Call fault.helper) fault.here fault.helper refl fault.unknown
faultless Counters slot fault = never_late slot fault.count fault.insn fault.here fault.way fault.many

-- register 1 names the map up to the first call
names_3 : IsPointerFrom program (Map 0) 0 1 3 (1 ∷ [])
names_3 = (one_way 3, edge_on program 1 _ refl refl, inl (refl, 0, refl, refl, refl))

names_4 : IsPointerFrom program (Map 0) 0 1 4 (3 ∷ 1 ∷ [])
names_4 = (one_way 4, edge_on program 3 _ refl refl, inr ((refl, tt), names_3))

names_5 : IsPointerFrom program (Map 0) 0 1 5 (4 ∷ 3 ∷ 1 ∷ [])
names_5 = (one_way 5, edge_on program 4 _ refl refl, inr ((refl, tt), names_4))

names_6 : IsPointerFrom program (Map 0) 0 1 6 (5 ∷ 4 ∷ 3 ∷ 1 ∷ [])
names_6 = (one_way 6, edge_on program 5 _ refl refl, inr ((refl, tt), names_5))

names_7 : IsPointerFrom program (Map 0) 0 1 7 (6 ∷ 5 ∷ 4 ∷ 3 ∷ 1 ∷ [])
names_7 = (one_way 7, edge_on program 6 _ refl refl, inr ((refl, tt), names_6))

names_8 : IsPointerFrom program (Map 0) 0 1 8 (7 ∷ 6 ∷ 5 ∷ 4 ∷ 3 ∷ 1 ∷ [])
names_8 = (one_way 8, edge_on program 7 _ refl refl, inr ((refl, tt), names_7))

-- registers 2 and 3 point to the stack's end, and then eight bytes below
entry_4 : IsPointerFrom program Stack 512 2 4 (3 ∷ [])
entry_4 = (one_way 4, edge_on program 3 _ refl refl, inl (refl, refl, refl, refl))

entry_5 : IsPointerFrom program Stack 504 2 5 (4 ∷ 3 ∷ [])
entry_5 = (one_way 5, edge_on program 4 _ refl refl, inl (refl, 512, entry_4, refl))

entry_6 : IsPointerFrom program Stack 504 2 6 (5 ∷ 4 ∷ 3 ∷ [])
entry_6 = (one_way 6, edge_on program 5 _ refl refl, inr ((refl, tt), entry_5))

entry_7 : IsPointerFrom program Stack 504 2 7 (6 ∷ 5 ∷ 4 ∷ 3 ∷ [])
entry_7 = (one_way 7, edge_on program 6 _ refl refl, inr ((refl, tt), entry_6))

entry_8 : IsPointerFrom program Stack 504 2 8 (7 ∷ 6 ∷ 5 ∷ 4 ∷ 3 ∷ [])
entry_8 = (one_way 8, edge_on program 7 _ refl refl, inr ((refl, tt), entry_7))

value_6 : IsPointerFrom program Stack 512 3 6 (5 ∷ [])
value_6 = (one_way 6, edge_on program 5 _ refl refl, inl (refl, refl, refl, refl))

value_7 : IsPointerFrom program Stack 504 3 7 (6 ∷ 5 ∷ [])
value_7 = (one_way 7, edge_on program 6 _ refl refl, inl (refl, 512, value_6, refl))

value_8 : IsPointerFrom program Stack 504 3 8 (7 ∷ 6 ∷ 5 ∷ [])
value_8 = (one_way 8, edge_on program 7 _ refl refl, inr ((refl, tt), value_7))

-- the last eight bytes of the stack are stored on each path to the update
stored_8 : (i : ℕ) → 504 ≤ i → i < 512 → IsByteStored program 8 i
stored_8 i le lt = (Double, neg_ℤ (pos 8), made_first program (stores Double (neg_ℤ (pos 8))) refl 8 (omega arith), (504, refl, le, lt))

-- at the update register 1 names the map, and register 2 points to the stored key
naming : IsEntryNamed program 8 0
naming = record {
  names = (7 ∷ 6 ∷ 5 ∷ 4 ∷ 3 ∷ 1 ∷ [], names_8);
  at = 504;
  points = (7 ∷ 6 ∷ 5 ∷ 4 ∷ 3 ∷ [], entry_8);
  inside = omega arith;
  stored = λ i le lt. stored_8 i le (omega arith);
}

-- at the update register 4 was loaded with 0
flags_8 : IsLoaded program 8 4 0
flags_8 = made_before program (loads 4 0) (untouched 4) false 8 (omega arith) (λ from edge. rw (only_before from 8 edge) refl)

-- the call of helper 2 has what an update needs, if the map's values have at most 8 bytes
giving : (shape : MapShape) → shape.value_size ≤ 8 → IsGiving program (shape ∷ []) 8 0
giving shape small = record {
  naming = naming;
  shape = shape;
  known = refl;
  at = 504;
  points = (7 ∷ 6 ∷ 5 ∷ [], value_8);
  inside = omega (arith, small);
  stored = λ i le lt. stored_8 i le (omega (arith, small, lt));
  flags = flags_8;
}

-- what each instruction before a slot makes so, the one at that slot leaves so
made_then_left : (slots : List (Option Insn)) (makes leaves : Option Insn → Bool) (first : Bool) (j k : ℕ)
    → 0 < j → 0 < k → ((from : ℕ) → IsEdge slots from j → makes (instruction_at slots from) ≡ true)
    → ((from : ℕ) → IsEdge slots from k → from ≡ j) → leaves (instruction_at slots j) ≡ true
    → OnEachPath slots makes leaves first k
made_then_left slots makes leaves first j k later past made only left rest path ends =
    (holds_along_path slots makes leaves (λ n held. (n ≡ j → held ≡ true) × (n ≡ k → held ≡ true))
    (λ from to held edge p. (
      λ same. let m : makes (instruction_at slots from) ≡ true = made from (subst (λ (n : ℕ). IsEdge slots from n) same edge) in rw m refl,
      λ same.
          let at = only from (subst (λ (n : ℕ). IsEdge slots from n) same edge) in
          let h : held ≡ true = p.0 at in
          let l : leaves (instruction_at slots from) ≡ true = subst (λ (n : ℕ). leaves (instruction_at slots n) ≡ true) (sym at) left in
          rw (h, l) (or_right _ true refl),
    ))
    rest 0 first path (λ same. absurd (omega (arith, same, later)), λ same. absurd (omega (arith, same, past)))).1
    ends

-- register 2 is written on each path to the first counter call, and register 0 on each path to the EXIT:
written_11 : IsWrittenOnEachPath program 11 2
written_11 =
    made_then_left program (writes 2) (leaves 2) false 10 11 (omega arith) (omega arith)
    (λ from edge. rw (only_before from 10 edge) refl) (λ from edge. only_before from 11 edge) refl

written_14 : IsWrittenOnEachPath program 14 0
written_14 = made_before program (writes 0) (leaves 0) false 14 (omega arith) (λ from edge. rw (only_before from 14 edge) refl)

-- both calls of counters have what they need:
counting_11 : IsCounting program 11 (pos 100)
counting_11 = record {
  counter = 5;
  loaded =
      made_before program (loads 1 5) (untouched 1) false 11 (omega arith) (λ from edge. rw (only_before from 11 edge) refl);
  few = omega arith;
  amount = λ is. written_11;
}

counting_13 : IsCounting program 13 (pos 101)
counting_13 = record {
  counter = 5;
  loaded = made_before program (loads 1 5) (untouched 1) false 13 (omega arith) (λ from edge. rw (only_before from 13 edge) refl);
  few = omega arith;
  amount = λ is. absurd (omega (arith, ints, is));
}

-- a register below 5 is below register 10, and the number of map 0 is below that of maps:
below_10 : (n : ℕ) → n < 5 → n < 10
below_10 n lt = omega arith

first_below : 0 < 1
first_below = omega arith

-- adding -8 to a pointer to the stack's end is a move on the stack
sum_of : (r at : ℕ) (back : List ℕ) → IsPointerFrom program Stack 512 r at back → IsMoveOnStack program at W64 Add r (Imm (neg_ℤ (pos 8)))
sum_of r at back from = record {
  whole = refl;
  is_sum = refl;
  distance = neg_ℤ (pos 8);
  by_distance = refl;
  base = 512;
  from = (back, from);
  at = 504;
  at_is = refl;
  below = omega arith;
  small = omega arith;
}

-- the program that updates an entry, adds to a counter and reads it is straight
pub calling_is_straight : CallingIsStraight
calling_is_straight = (
  refl,
  λ shape context small. record {
    faultless = faultless;
    each =
        each_slot program (λ slot insn. Needs program (shape ∷ []) context slot insn)
        (inl (refl, (504, refl, omega arith))
        then (below_10 1 (omega arith), 0, refl, first_below)
        then (below_10 2 (omega arith), inr (inl (refl, refl, refl)))
        then (below_10 2 (omega arith), inr (inr (sum_of 2 4 (3 ∷ []) entry_4)))
        then (below_10 3 (omega arith), inr (inl (refl, refl, refl)))
        then (below_10 3 (omega arith), inr (inr (sum_of 3 6 (5 ∷ []) value_6)))
        then (below_10 4 (omega arith), inl (tt, tt))
        then inr (inr (inl (refl, 0, giving shape small)))
        then (below_10 2 (omega arith), inl (tt, tt))
        then (below_10 1 (omega arith), inl (tt, tt))
        then inr (inr (inr (inl refl, counting_11)))
        then (below_10 1 (omega arith), inl (tt, tt))
        then inr (inr (inr (inr refl, counting_13)))
        then written_14
        then tt);
  },
)
