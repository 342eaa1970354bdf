-- The worked program is straight.
use Rattle.std.proofs.Common.{◌≡◌, ℕ, ◌+◌, ◌<◌, ◌≤◌, true, false, List, [], ◌∷◌, ◌++◌, Option, Some, refl, sym, subst, ◌∙◌, inl, inr, ℤ, pos, arith}
use Rattle.std.specs.Prelude.{neg_ℤ, slice_index}
use Rattle.std.proofs.lemmas.Option.{same_Some, none-some}
use Rattle.std.proofs.lemmas.Bool.{false≢true}
use Rattle.bq_insn.specs.declared.Insn.{Insn}
use Rattle.bq_insn.specs.declared.Insn.TheVariants.{Alu, Branch, Call}
use Rattle.bq_insn.specs.declared.Operation.TheVariants.{Add, Mov}
use Rattle.bq_insn.specs.declared.Condition.TheVariants.{Equal}
use Rattle.bq_insn.specs.declared.Size.TheVariants.{Word, Double}
use Rattle.bq_insn.specs.declared.Source.TheVariants.{Imm}
use Rattle.bq_insn.specs.declared.Width.TheVariants.{W64}
use Rattle.bq_insn.specs.Slots.{slots_of, spread}
use Rattle.bq_bpf.specs.Steps.{LeadsTo}
use Rattle.bq_bpf.specs.declared.shape.MapShape.{MapShape}
use Rattle.bq_verify.specs.Edges.{IsEdge, IsStart}
use Rattle.bq_bpf.specs.Instructions.{Leaves, distance_of, goes_on, asks_counter, destination_of}
use Rattle.bq_verify.specs.Paths.{Path}
use Rattle.bq_verify.specs.Faults.{IsFaultless, is_helper}
use Rattle.bq_verify.specs.declared.graph_cause.GraphCause.TheVariants.{Jump, NoExit, Unreached, Frame, Helper, Counters}
use Rattle.bq_verify.proofs.EdgeLemmas.{end_of-push, IsPath-push, leads_same}
use Rattle.bq_transfer.specs.Ready.{IsNullCheck}
use Rattle.bq_states.specs.declared.abstract_state.ValueKind.TheVariants.{Entry, EntryOrNull, Map, Stack}
use Rattle.bq_verify.specs.Straight.{stores, writes, leaves, HasOneWay, IsByteStored, IsInEntry, IsMoveOnStack, IsEntryNamed, IsPointerFrom, IsWrittenOnEachPath, Needs}
use Rattle.bq_verify.specs.Worked.{worked, WorkedIsStraight}
use Rattle.bq_verify.proofs.EachSlotLemmas.{each_slot, ◌then◌, made_before, made_first, goes_next, goes_nowhere, edge_on, path_on, no_jump, not_frame}

-- the slots of the worked program
abbrev program : List (Option Insn)
program = spread worked

-- the slot before each slot: no two edges lead to one
abbrev before : ℕ → ℕ
before k = slice_index (0 ∷ 0 ∷ 0 ∷ 1 ∷ 3 ∷ 4 ∷ 5 ∷ 6 ∷ 7 ∷ 6 ∷ 9 ∷ []) k

-- the branch at slot 6 leads only to slots that have slot 6 before them
goes_apart : (to : ℕ) → Leaves (Branch W64 Equal 0 (Imm (pos 0)) (pos 2)) 6 to → 6 ≡ before to
goes_apart to (inl on) = subst (λ (k : ℕ). 6 ≡ before k) (sym on.1) refl
goes_apart to (inr jump) =
    let two = same_Some (pos 2) jump.0 jump.1 in
    let nine : to ≡ 9 = leads_same 6 to 9 (pos 2) (subst (λ (d : ℤ). LeadsTo 6 d to) (sym two) jump.2) refl in
    subst (λ (k : ℕ). 6 ≡ before k) (sym nine) refl

-- each edge to a slot comes from the slot before it
only_before : (from to : ℕ) → IsEdge program from to → from ≡ before to
only_before from to edge =
    each_slot program (λ from insn. (to : ℕ) → Leaves insn from to → from ≡ before to)
    (goes_next program before 0 _ refl refl refl
    then goes_next program before 1 _ refl refl refl
    then goes_next program before 3 _ refl refl refl
    then goes_next program before 4 _ refl refl refl
    then goes_next program before 5 _ refl refl refl
    then goes_apart
    then goes_next program before 7 _ refl refl refl
    then goes_nowhere program before 8 refl
    then goes_next program before 9 _ refl refl refl
    then goes_nowhere program before 10 refl
    then tt) from edge.insn edge.here to edge.leaves

-- a path to each slot
to_0 : Path program 0 0
to_0 = record { rest = []; is_path = tt; ends = refl }

to_1 : Path program 0 1
to_1 = path_on program 0 _ refl refl to_0

to_3 : Path program 0 3
to_3 = path_on program 1 _ refl refl to_1

to_4 : Path program 0 4
to_4 = path_on program 3 _ refl refl to_3

to_5 : Path program 0 5
to_5 = path_on program 4 _ refl refl to_4

to_6 : Path program 0 6
to_6 = path_on program 5 _ refl refl to_5

to_7 : Path program 0 7
to_7 = path_on program 6 _ refl refl to_6

to_8 : Path program 0 8
to_8 = path_on program 7 _ refl refl to_7

to_9 : Path program 0 9
to_9 = record {
  rest = to_6.rest ++ 9 ∷ [];
  is_path =
      IsPath-push program 0 to_6.rest 9 to_6.is_path
      (subst (λ (k : ℕ). IsEdge program k 9) (sym to_6.ends)
      (record { insn = Branch W64 Equal 0 (Imm (pos 0)) (pos 2); here = refl; leaves = inr (pos 2, refl, refl) }));
  ends = end_of-push 0 to_6.rest 9;
}

to_10 : Path program 0 10
to_10 = path_on program 9 _ refl refl to_9

-- helper 1, which the program calls, exists
a_helper : (h : ℤ) → Call (pos 1) ≡ Call h → is_helper h ≡ false → ⊥
a_helper h is unknown = let one : pos 1 ≡ h = cc in let no : true ≡ false = subst (λ (n : ℤ). is_helper n ≡ false) (sym one) unknown in cc

-- the jump at slot 6 leads to a later slot where an instruction begins
good_jump : (d : ℤ) → Some (pos 2) ≡ Some d → ((to : ℕ) → LeadsTo 6 d to → 6 < to → IsStart program to → ⊥) → ⊥
good_jump d jumps nowhere =
    nowhere 9 (subst (λ (e : ℤ). LeadsTo 6 e 9) (same_Some (pos 2) d jumps) refl) (omega arith)
    (record { insn = Alu W64 Mov 0 (Imm (pos 0)); here = refl })

-- a slot below 11 is not past the end
inside : (n : ℕ) → n < 11 → 11 ≤ n → ⊥
inside n lt le = omega arith

-- the control graph of the program has no fault
faultless : IsFaultless program
faultless Jump slot fault =
    each_slot program
    (λ slot insn. (d : ℤ) → distance_of insn ≡ Some d → ((to : ℕ) → LeadsTo slot d to → slot < to → IsStart program to → ⊥) → ⊥)
    (no_jump program 0 then no_jump program 1 then no_jump program 3 then no_jump program 4 then no_jump program 5
    then good_jump then no_jump program 7 then no_jump program 8 then no_jump program 9 then no_jump program 10 then tt) slot
    fault.insn fault.here fault.distance fault.jumps fault.nowhere
faultless NoExit slot fault =
    each_slot program (λ slot insn. goes_on insn ≡ true → 11 ≤ slot + slots_of insn → ⊥)
    ((λ on. inside 1 (omega arith))
    then (λ on. inside 3 (omega arith))
    then (λ on. inside 4 (omega arith))
    then (λ on. inside 5 (omega arith))
    then (λ on. inside 6 (omega arith))
    then (λ on. inside 7 (omega arith))
    then (λ on. inside 8 (omega arith))
    then (λ on past. false≢true on)
    then (λ on. inside 10 (omega arith))
    then (λ on past. false≢true on)
    then tt) slot fault.insn fault.here fault.on fault.past
faultless Unreached slot fault =
    fault.none (each_slot program (λ slot insn. Path program 0 slot)
    (to_0 then to_1 then to_3 then to_4 then to_5 then to_6 then to_7 then to_8 then to_9 then to_10 then tt) slot
    fault.start.insn fault.start.here)
faultless Frame slot fault =
    each_slot program (λ slot insn. destination_of insn ≡ Some 10 → ⊥)
    (none-some 10 then not_frame 1 (omega arith) then not_frame 2 (omega arith) then not_frame 2 (omega arith)
    then none-some 10 then none-some 10 then not_frame 0 (omega arith) then none-some 10 then not_frame 0 (omega arith)
    then none-some 10 then tt) slot fault.insn fault.here fault.writes
faultless Helper slot fault =
    each_slot program (λ slot insn. (h : ℤ) → insn ≡ Call h → is_helper h ≡ false → ⊥)
    ((λ h is unknown. cc) then (λ h is unknown. cc) then (λ h is unknown. cc) then (λ h is unknown. cc) then a_helper
    then (λ h is unknown. cc) then (λ h is unknown. cc) then (λ h is unknown. cc) then (λ h is unknown. cc)
    then (λ h is unknown. cc) then tt) slot (Call fault.helper) fault.here fault.helper refl fault.unknown
faultless Counters slot fault =
    each_slot program (λ slot insn. asks_counter insn ≡ true → ⊥)
    (false≢true then false≢true then false≢true then false≢true then false≢true then false≢true then false≢true
    then false≢true then false≢true then false≢true then tt) slot fault.insn fault.here fault.asks

-- register 0 is written on each path to an EXIT, at slots 8 and 10:
written_8 : IsWrittenOnEachPath program 8 0
written_8 = made_before program (writes 0) (leaves 0) false 8 (omega arith) (λ from edge. rw (only_before from 8 edge) refl)

written_10 : IsWrittenOnEachPath program 10 0
written_10 = made_before program (writes 0) (leaves 0) false 10 (omega arith) (λ from edge. rw (only_before from 10 edge) refl)

-- a slot before another is not the same slot
apart_slots : (a b : ℕ) → a < b → a ≡ b → ⊥
apart_slots a b lt same = omega arith

-- at most one edge leads to each slot
one_way : (slot : ℕ) → HasOneWay program slot
one_way slot a b p q = only_before a slot p ∙ sym (only_before b slot q)

-- from slot 3 on register 1 names the map
names_3 : IsPointerFrom program (Map 0) 0 1 3 (1 ∷ [])
names_3 = (one_way 3, edge_on program 1 _ refl refl, inl (refl, 0, refl, refl, refl))

names_4 : IsPointerFrom program (Map 0) 0 1 4 (3 ∷ 1 ∷ [])
names_4 = (one_way 4, edge_on program 3 _ refl refl, inr ((refl, tt), names_3))

names_5 : IsPointerFrom program (Map 0) 0 1 5 (4 ∷ 3 ∷ 1 ∷ [])
names_5 = (one_way 5, edge_on program 4 _ refl refl, inr ((refl, tt), names_4))

-- register 2 points to the stack's end, and then four bytes below
points_4 : IsPointerFrom program Stack 512 2 4 (3 ∷ [])
points_4 = (one_way 4, edge_on program 3 _ refl refl, inl (refl, refl, refl, refl))

points_5 : IsPointerFrom program Stack 508 2 5 (4 ∷ 3 ∷ [])
points_5 = (one_way 5, edge_on program 4 _ refl refl, inl (refl, 512, points_4, refl))

-- register 0 is the answer, and then an entry
answer_6 : IsPointerFrom program (EntryOrNull 0) 0 0 6 (5 ∷ 4 ∷ 3 ∷ 1 ∷ [])
answer_6 = (one_way 6, edge_on program 5 _ refl refl, inl (refl, refl, 0, refl, refl, names_5))

entry_7 : IsPointerFrom program (Entry 0) 0 0 7 (6 ∷ 5 ∷ 4 ∷ 3 ∷ 1 ∷ [])
entry_7 = (
  one_way 7,
  edge_on program 6 _ refl refl,
  inl (refl, 0, refl, refl, answer_6, (refl, λ leads. apart_slots 7 9 (omega arith) (leads_same 6 7 9 (pos 2) leads refl))),
)

-- the four bytes of the key are stored on each path to the call
stored_5 : (i : ℕ) → 508 ≤ i → i < 508 + 4 → IsByteStored program 5 i
stored_5 i le lt = (Word, neg_ℤ (pos 4), made_first program (stores Word (neg_ℤ (pos 4))) refl 5 (omega arith), (508, refl, le, lt))

-- at the call register 1 names the map, and register 2 points to the stored key
naming : IsEntryNamed program 5 0
naming = record { names = (4 ∷ 3 ∷ 1 ∷ [], names_5); at = 508; points = (4 ∷ 3 ∷ [], points_5); inside = omega arith; stored = stored_5 }

-- registers 0, 1 and 2 are below register 10:
zero_low : 0 < 10
zero_low = omega arith

one_low : 1 < 10
one_low = omega arith

two_low : 2 < 10
two_low = omega arith

module _ (shape : MapShape) where
  -- the eight bytes that slot 7 loads are in the entry
  in_entry : IsInEntry program (shape ∷ []) 7 0 Double (pos 0)
  in_entry = record {
    map = 0;
    shape = shape;
    known = refl;
    entry = (6 ∷ 5 ∷ 4 ∷ 3 ∷ 1 ∷ [], entry_7);
    at = 0;
    off_is = refl;
    inside = shape.least_size;
  }

-- the program that looks an entry up, tests the answer and loads from it is straight
pub worked_is_straight : WorkedIsStraight
worked_is_straight = (
  refl,
  λ shape context. record {
    faultless = faultless;
    each =
        each_slot program (λ slot insn. Needs program (shape ∷ []) context slot insn)
        (inl (refl, (508, refl, omega arith))
        then (one_low, 0, refl, zero_below)
        then (two_low, inr (inl (refl, refl, refl)))
        then (two_low, inr (inr on_stack))
        then inr (inl (refl, 0, naming))
        then (zero_low, inr (test, 0, (5 ∷ 4 ∷ 3 ∷ 1 ∷ [], answer_6)))
        then (zero_low, inr (inr (in_entry shape)))
        then written_8
        then (zero_low, inl (tt, tt))
        then written_10
        then tt);
  },
)
  where
    zero_below : 0 < 1
    zero_below = omega arith

    on_stack : IsMoveOnStack program 4 W64 Add 2 (Imm (neg_ℤ (pos 4)))
    on_stack = record {
      whole = refl;
      is_sum = refl;
      distance = neg_ℤ (pos 4);
      by_distance = refl;
      base = 512;
      from = (3 ∷ [], points_4);
      at = 508;
      at_is = refl;
      below = omega arith;
      small = omega arith;
    }

    test : IsNullCheck W64 Equal (Imm (pos 0))
    test = record { whole = refl; of_null = tt; with_zero = refl }
