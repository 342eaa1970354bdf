-- The pass stays sure of what is due in a straight program.
use Rattle.std.proofs.Common.{◌≡◌, ◌≢◌, ℕ, ◌+◌, ◌<◌, ◌≤◌, Bool, true, false, List, [], ◌∷◌, ◌++◌, Option, Some, None, Box, Global, refl, sym, subst, ap, ◌⊎◌, inl, inr, ◌∙◌, ℤ, pos, arith}
use Rattle.std.specs.Prelude.{slice_index_or, not, ◌==◌, ◌&&◌, ◌||◌, ◌+ℤ◌}
use Rattle.std.specs.Ordering.{int_eq}
use Rattle.std.proofs.lemmas.Bool.{eqb-true, ltb-true, not-true, and_parts}
use Rattle.std.proofs.lemmas.Bool.Decides.{eqb_tells, Decides-int_eq}
use Rattle.std.proofs.lemmas.Int.{ints}
use Rattle.bq_insn.specs.declared.Insn.{Insn}
use Rattle.bq_insn.specs.declared.Insn.TheVariants.{Alu, MovSx, Neg, End, Load, StoreImm, StoreReg, Imm64, MapRef, Goto, Goto32, Branch, Call, Exit}
use Rattle.bq_insn.specs.declared.Operation.{Operation}
use Rattle.bq_insn.specs.declared.Operation.TheVariants.{Add, Mov}
use Rattle.bq_insn.specs.declared.Size.{Size}
use Rattle.bq_insn.specs.declared.Source.{Source}
use Rattle.bq_insn.specs.declared.Source.TheVariants.{Imm, Reg}
use Rattle.bq_insn.specs.declared.Width.{Width}
use Rattle.bq_insn.specs.declared.Width.TheVariants.{W64}
use Rattle.bq_insn.specs.Slots.{byte_count}
use Rattle.bq_bpf.specs.Meaning.{word_of}
use Rattle.bq_bpf.specs.Steps.{instruction_at}
use Rattle.bq_verify.specs.Edges.{IsEdge}
use Rattle.bq_verify.specs.Paths.{IsPath, Path, path_end}
use Rattle.bq_verify.specs.Passes.{IsGraphSound}
use Rattle.bq_bpf.specs.Instructions.{destination_of}
use Rattle.bq_verify.specs.declared.graph_cause.GraphCause.TheVariants.{Frame}
use Rattle.bq_verify.proofs.EdgeLemmas.{end_of-push, IsPath-push}
use Rattle.bq_states.specs.declared.abstract_state.ValueKind.{ValueKind}
use Rattle.bq_states.specs.declared.abstract_state.ValueKind.TheVariants.{Context, Stack, Entry, EntryOrNull, Map}
use Rattle.bq_states.specs.declared.abstract_state.AbstractState.{AbstractState}
use Rattle.bq_states.specs.Certainty.{Scalar, Exact, Pointer, NoPointer, CertaintyHoldsAt, Fact, Never, AtRegister, IsSetAt, IsPlainAt, Has, IsScalarOperand}
use Rattle.bq_verify.specs.Ways.{HasWaiting, GoesOnSure, IsReadyFor, IsSureOf}
use Rattle.bq_verify.specs.Subjects.{Subject}
use Rattle.bq_transfer.specs.Ready.{IsAsking, IsAtMost, IsCopyOfFrame, IsLeftReady, IsMoveOfPointer, IsNamingEntry, IsAccessPlaced, IsLoadReady, IsOnFrame, IsIntoEntry, IsUpdating}
use Rattle.bq_states.specs.AbstractStates.{size_of_shape}
use Rattle.bq_transfer.specs.After.{GivesExact, GivesNumber, GivesPointer, IsNoTestOf, LeavesNumber, LeavesPointer, Spares, IsStackByte, StoresByte, After}
use Rattle.bq_states.specs.Learnt.{IsCertain}
use Rattle.bq_transfer.proofs.CertaintyLemmas.{exact_at_most}
use Rattle.bq_verify.specs.Straight.{held_along, OnEachPath, is_destination, writes, leaves, spares, loads, untouched, stores, always, never, IsWrittenOnEachPath, IsStoredOnEachPath, IsLoaded, IsContextLeft, IsWrittenOperand, IsWrittenLeft, IsOnStack, MakesPointer, LeavesPointerIn, IsPointerFrom, IsPointerAt, IsInEntry, IsGoodLoad, IsGoodStore, IsCopyOfEnd, IsMoveOnStack, IsEntryNamed, IsGiving, IsCounting, Needs, IsStraightBefore, IsStraightProgram}
use Rattle.bq_verify.specs.Sure.{IsFactDue, IsSure}

-- what holds and was not made by an instruction was left by it and held before
left_on : (a b x : Bool) → a ≡ false → (a || (b && x)) ≡ true → (b ≡ true) × (x ≡ true)
left_on true b x e h = absurd (let no : ⊥ = cc in no)
left_on false b x e h = and_parts b x h

-- what the tests of integers, destinations and numbers find is so:
int_is : (a b : ℤ) → int_eq a b ≡ true → a ≡ b
int_is a b h = (Decides-int_eq a b).0 h

register_is : (v : Option ℕ) (r : ℕ) → is_destination v r ≡ true → v ≡ Some r
register_is None r h = absurd (let no : ⊥ = cc in no)
register_is (Some dst) r h = ap (λ (n : ℕ). Some n) (eqb-true dst r h)

register_other : (v : Option ℕ) (r : ℕ) → not (is_destination v r) ≡ true → v ≡ Some r → ⊥
register_other None r h e = let no : ⊥ = cc in no
register_other (Some dst) r h e = by (eqb_tells dst r)
  where
    by : ((((dst == r) ≡ true) × (dst ≡ r)) ⊎ (((dst == r) ≡ false) × (dst ≢ r))) → ⊥
    by (inl (t, same)) = let f : (dst == r) ≡ false = not-true (dst == r) h in let no : ⊥ = cc in no
    by (inr (f, other)) = other (let same : dst ≡ r = cc in same)

not_equal : (a b : ℕ) → not (a == b) ≡ true → a ≢ b
not_equal a b h e = register_other (Some a) b h (ap (λ (n : ℕ). Some n) e)

not_int : (a b : ℤ) → not (int_eq a b) ≡ true → a ≢ b
not_int a b h e =
    let yes' : int_eq a b ≡ true = (Decides-int_eq a b).1 e in
    let off : int_eq a b ≡ false = not-true (int_eq a b) h in let no : ⊥ = cc in no

-- what `writes`, `leaves` and `spares` say of an instruction and a register, it does:
writes_gives : (insn : Insn) (r : ℕ) → writes r (Some insn) ≡ true → GivesNumber insn r
writes_gives (Alu w Mov dst (Imm i)) r h = eqb-true dst r h
writes_gives (Alu w Mov dst (Reg src)) r h = let b = and_parts _ _ h in (eqb-true dst r b.0, not_equal src 10 b.1)
writes_gives (Alu w op dst src) r h = absurd (let no : ⊥ = cc in no)
writes_gives (MapRef dst index) r h = absurd (let no : ⊥ = cc in no)
writes_gives (Call helper) r h = let b = and_parts _ _ h in (eqb-true r 0 b.0, not_int helper (pos 1) b.1)
writes_gives insn r h = register_is (destination_of insn) r h

leaves_is : (insn : Insn) (r : ℕ) → leaves r (Some insn) ≡ true → LeavesNumber insn r
leaves_is (Alu w Mov dst src) r h = not_equal dst r h
leaves_is (Alu w op dst src) r h = tt
leaves_is (Call helper) r h = let lt : 5 < r = ltb-true 5 r h in omega arith
leaves_is insn r h = register_other (destination_of insn) r h

spares_is : (insn : Insn) (r : ℕ) → spares r (Some insn) ≡ true → Spares insn r
spares_is (Call helper) r h = let lt : 5 < r = ltb-true 5 r h in omega arith
spares_is insn r h = register_other (destination_of insn) r h

-- each instruction leaves a pointer of a certain kind as it is
leaves_pointer : (kind : ValueKind) (insn : Insn) → IsCertain kind → LeavesPointer kind insn
leaves_pointer kind (Branch w c dst src off) certain = certain
leaves_pointer kind _ certain = tt

-- an instruction that loads a number gives it; one that leaves a register untouched spares it and does not test it:
loads_gives : (insn : Insn) (r n : ℕ) → loads r n (Some insn) ≡ true → GivesExact n insn r
loads_gives (Alu W64 Mov dst (Imm i)) r n h = let b = and_parts _ _ h in (refl, eqb-true dst r b.0, sym (eqb-true (word_of i) n b.1))
loads_gives _ r n h = absurd (let no : ⊥ = cc in no)

untouched_spares : (insn : Insn) (r : ℕ) → untouched r (Some insn) ≡ true → Spares insn r
untouched_spares (Branch w c dst src off) r h = λ e. let no : ⊥ = cc in no
untouched_spares insn r h = spares_is insn r h

untouched_tests : (insn : Insn) (r : ℕ) → untouched r (Some insn) ≡ true → IsNoTestOf insn r
untouched_tests (Branch w c dst src off) r h = λ same. not_equal dst r h (sym same)
untouched_tests _ r h = tt

-- a store of this size at this offset from register 10 stores each of these bytes of the stack
stores_byte : (insn : Insn) (size : Size) (off : ℤ) (i : ℕ) → stores size off (Some insn) ≡ true → IsStackByte size off i
    → StoresByte insn i
stores_byte (StoreImm s dst o imm) size off i h byte =
    let a = and_parts _ _ h in
    let b = and_parts _ _ a.1 in
    let count : byte_count s ≡ byte_count size = eqb-true (byte_count s) (byte_count size) a.0 in
    let same : o ≡ off = int_is o off b.1 in
    (eqb-true dst 10 b.0, (byte.0, rw same byte.1, byte.2, rw count byte.3))
stores_byte (StoreReg s dst o src) size off i h byte =
    let a = and_parts _ _ h in
    let b = and_parts _ _ a.1 in
    let count : byte_count s ≡ byte_count size = eqb-true (byte_count s) (byte_count size) a.0 in
    let same : o ≡ off = int_is o off b.1 in
    (eqb-true dst 10 b.0, (byte.0, rw same byte.1, byte.2, rw count byte.3))
stores_byte _ size off i h byte = absurd (let no : ⊥ = cc in no)

module _ (slots : List (Option Insn)) (makes leaves : Option Insn → Bool) where
  -- what holds after one slot more was made by the last instruction, or left by it and held before
  held-push : (before : Bool) (from : ℕ) (rest : List ℕ) (t : ℕ)
      → held_along slots makes leaves before from (rest ++ t ∷ [])
      ≡ (makes (instruction_at slots (path_end from rest))
      || (leaves (instruction_at slots (path_end from rest)) && held_along slots makes leaves before from rest))
  held-push before from [] t = refl
  held-push before from (n ∷ rest) t =
      held-push (makes (instruction_at slots from) || (leaves (instruction_at slots from) && before)) n rest t

  -- what holds on each path to a slot holds on each path that comes there by a given edge
  each_back : (first : Bool) (slot k : ℕ) → IsEdge slots slot k → OnEachPath slots makes leaves first k
      → (rest : List ℕ) → IsPath slots 0 rest → path_end 0 rest ≡ slot
      → (makes (instruction_at slots slot) || (leaves (instruction_at slots slot) && held_along slots makes leaves first 0 rest)) ≡ true
  each_back first slot k edge all rest path ends =
      let edge' : IsEdge slots (path_end 0 rest) k = subst (λ (s : ℕ). IsEdge slots s k) (sym ends) edge in
      let held = sym (held-push first 0 rest k) ∙ all (rest ++ k ∷ []) (IsPath-push slots 0 rest k path edge') (end_of-push 0 rest k) in
      subst (λ (s : ℕ).
      (makes (instruction_at slots s) || (leaves (instruction_at slots s) && held_along slots makes leaves first 0 rest))
      ≡ true) ends held

  -- what holds on each path after an edge was made by the instruction before it, or held there already
  pub made_or_left : (first : Bool) (slot k : ℕ) (insn : Insn)
      → instruction_at slots slot ≡ Some insn → IsEdge slots slot k → OnEachPath slots makes leaves first k
      → ((Path slots 0 slot → ⊥) → ⊥)
      → (makes (Some insn) ≡ true) ⊎ ((leaves (Some insn) ≡ true) × OnEachPath slots makes leaves first slot)
  made_or_left first slot k insn here edge all reached = by (makes (Some insn)) (leaves (Some insn)) refl refl
    where
      -- along each path to the slot, the instruction makes it hold, or leaves it so where it held before
      held : (rest : List ℕ) → IsPath slots 0 rest → path_end 0 rest ≡ slot
          → (makes (Some insn) || (leaves (Some insn) && held_along slots makes leaves first 0 rest)) ≡ true
      held rest path ends =
          subst (λ (v : Option Insn). (makes v || (leaves v && held_along slots makes leaves first 0 rest)) ≡ true) here
          (each_back first slot k edge all rest path ends)

      -- the instruction makes it hold, or leaves it so where it held on each path before
      by : (m l : Bool) → makes (Some insn) ≡ m → leaves (Some insn) ≡ l
          → (makes (Some insn) ≡ true) ⊎ ((leaves (Some insn) ≡ true) × OnEachPath slots makes leaves first slot)
      by true l e f = inl e
      by false true e f = inr (f, λ rest path ends. (left_on _ _ _ e (held rest path ends)).1)
      by false false e f =
          absurd (reached
          (λ p. let on : leaves (Some insn) ≡ true = (left_on _ _ _ e (held p.rest p.is_path p.ends)).0 in let no : ⊥ = cc in no))

-- what a chain of instructions makes of a register, the abstract state knows, if it knows what was before
gives_pointer : (kind : ValueKind) (o r slot k : ℕ) (insn : Insn) (state : AbstractState) (Was : ValueKind → ℕ → ℕ → Type 0)
    → CertaintyHoldsAt (Pointer Stack 512) state 10
    → ((kind : ValueKind) (o r : ℕ) → Was kind o r → CertaintyHoldsAt (Pointer kind o) state r)
    → MakesPointer kind o r slot k (Some insn) Was
    → GivesPointer kind o slot k insn r state
gives_pointer kind o r slot k (MapRef dst index) state Was frame known made = made
gives_pointer kind o r slot k (Alu w Mov dst (Reg src)) state Was frame known (same, ten, is, top) = (same, ten, rw (is, top) frame)
gives_pointer kind o r slot k (Alu w Add dst (Imm i)) state Was frame known (same, base, was, o_is) =
    (same, base, subst (λ (n : ℕ). CertaintyHoldsAt (Pointer kind base) state n) (sym same) (known kind base r was), o_is)
gives_pointer kind o r slot k (Call helper) state Was frame known (none, one, m, is, zero, was) =
    (none, one, m, is, zero, known (Map m) 0 1 was)
gives_pointer kind o r slot k (Branch w c dst src off) state Was frame known (same, m, is, zero, was, side) = (
  same,
  m,
  is,
  zero,
  subst (λ (n : ℕ). CertaintyHoldsAt (Pointer (EntryOrNull m) 0) state n) (sym same) (known (EntryOrNull m) 0 r was),
  side,
)
gives_pointer kind o r slot k _ state Was frame known made = absurd made

-- one slot of a program that is straight up to it
module _ (p : Subject) (slot : ℕ) (insn : Insn) (state : AbstractState) (here : instruction_at p.slots slot ≡ Some insn)
    (straight : IsStraightBefore p (slot + 1)) (has : (x : Fact) → IsFactDue p.slots x slot → Has x state) where
  -- it is not so that no path leads to the slot
  reached : (Path p.slots 0 slot → ⊥) → ⊥
  reached none = has Never none

  -- an instruction that does not write register 10 spares it
  frame_spared : (i : Insn) → (destination_of i ≡ Some 10 → ⊥) → Spares i 10
  frame_spared (Call helper) other = let le : 6 ≤ 10 = omega arith in le
  frame_spared _ other = other

  -- at the slot register 10 is the end of the stack, and each pointer that was made is known:
  frame : CertaintyHoldsAt (Pointer Stack 512) state 10
  frame = has (AtRegister (Pointer Stack 512) 10) (inr (inl (refl, refl, refl)))

  pointer : (kind : ValueKind) (o r : ℕ) → IsPointerAt p.slots kind o r slot → CertaintyHoldsAt (Pointer kind o) state r
  pointer kind o r at = has (AtRegister (Pointer kind o) r) (inr (inr at))

  -- what the step before says, of this slot and its instruction
  here_made : (k : ℕ) (kind : ValueKind) (o r before : ℕ) (back : List ℕ)
      → before ≡ slot
      → MakesPointer kind o r before k (instruction_at p.slots before) (λ kind o r. IsPointerFrom p.slots kind o r before back)
      → MakesPointer kind o r slot k (Some insn) (λ kind o r. IsPointerFrom p.slots kind o r slot back)
  here_made k kind o r before back same made =
      subst (λ (v : Option Insn). MakesPointer kind o r slot k v (λ kind o r. IsPointerFrom p.slots kind o r slot back)) here
      (subst (λ (n : ℕ). MakesPointer kind o r n k (instruction_at p.slots n) (λ kind o r. IsPointerFrom p.slots kind o r n back))
      same made)

  here_left : (kind : ValueKind) (r before : ℕ) → before ≡ slot → LeavesPointerIn kind r (instruction_at p.slots before)
      → LeavesPointerIn kind r (Some insn)
  here_left kind r before same left =
      subst (λ (v : Option Insn). LeavesPointerIn kind r v) (ap (λ (n : ℕ). instruction_at p.slots n) same ∙ here) left

  -- a pointer that was made
  due_pointer : (k : ℕ) → IsEdge p.slots slot k → (kind : ValueKind) (o r : ℕ) (back : List ℕ)
      → IsPointerFrom p.slots kind o r k back
      → After (AtRegister (Pointer kind o) r) slot k insn state
  due_pointer k edge kind o r [] chain = absurd chain
  due_pointer k edge kind o r (before ∷ back) (one_way, way, inl made) =
      inl (gives_pointer kind o r slot k insn state (λ kind o r. IsPointerFrom p.slots kind o r slot back) frame
      (λ kind o r was. pointer kind o r (back, was)) (here_made k kind o r before back (one_way before slot way edge) made))
  due_pointer k edge kind o r (before ∷ back) (one_way, way, inr (left, was)) =
      let same = one_way before slot way edge in
      let leaves' = here_left kind r before same left in
      inr (
        spares_is insn r leaves'.0,
        leaves'.1,
        pointer kind o r (back, subst (λ (n : ℕ). IsPointerFrom p.slots kind o r n back) same was),
      )

  -- what is due after an edge is sure after the instruction
  due_on : (k : ℕ) → IsEdge p.slots slot k → (x : Fact) → IsFactDue p.slots x k → After x slot k insn state
  due_on k edge Never due =
      has Never (λ path.
      let edge' : IsEdge p.slots (path_end 0 path.rest) k = subst (λ (s : ℕ). IsEdge p.slots s k) (sym path.ends) edge in
      due (record {
        rest = path.rest ++ k ∷ [];
        is_path = IsPath-push p.slots 0 path.rest k path.is_path edge';
        ends = end_of-push 0 path.rest k;
      }))
  due_on k edge (AtRegister Scalar r) due = by (made_or_left p.slots (writes r) (leaves r) false slot k insn here edge due reached)
    where
      -- the instruction wrote the register, or it was written before and is left a number
      by : (writes r (Some insn) ≡ true) ⊎ ((leaves r (Some insn) ≡ true) × IsWrittenOnEachPath p.slots slot r)
          → After (AtRegister Scalar r) slot k insn state
      by (inl made) = inl (writes_gives insn r made)
      by (inr (left, written)) = inr (leaves_is insn r left, has (AtRegister Scalar r) written)
  due_on k edge (AtRegister (Exact n) r) due = by (made_or_left p.slots (loads r n) (untouched r) false slot k insn here edge due reached)
    where
      -- the instruction loaded the number, or it was loaded before and the register is untouched
      by : (loads r n (Some insn) ≡ true) ⊎ ((untouched r (Some insn) ≡ true) × IsLoaded p.slots slot r n)
          → After (AtRegister (Exact n) r) slot k insn state
      by (inl made) = inl (loads_gives insn r n made)
      by (inr (left, loaded)) = inr (untouched_spares insn r left, untouched_tests insn r left, has (AtRegister (Exact n) r) loaded)
  due_on k edge (AtRegister (Pointer kind o) r) (inl (is, zero, one, kept)) =
      by (made_or_left p.slots never (spares 1) true slot k insn here edge kept reached)
    where
      -- register 1 was the context before and is left as it was
      by : (never (Some insn) ≡ true) ⊎ ((spares 1 (Some insn) ≡ true) × IsContextLeft p.slots slot)
          → After (AtRegister (Pointer kind o) r) slot k insn state
      by (inl made) = absurd (let no : ⊥ = cc in no)
      by (inr (left, before)) =
          let certain : IsCertain kind = rw is tt in
          inr (
            subst (λ (n : ℕ). Spares insn n) (sym one) (spares_is insn 1 left),
            leaves_pointer kind insn certain,
            has (AtRegister (Pointer kind o) r) (inl (is, zero, one, before)),
          )
  due_on k edge (AtRegister (Pointer kind o) r) (inr (inl (is, top, ten))) =
      let certain : IsCertain kind = rw is tt in
      inr (
        subst (λ (n : ℕ). Spares insn n) (sym ten)
            (frame_spared insn (λ writes. straight.faultless Frame slot (record { insn = insn; here = here; writes = writes }))),
        leaves_pointer kind insn certain,
        has (AtRegister (Pointer kind o) r) (inr (inl (is, top, ten))),
      )
  due_on k edge (AtRegister (Pointer kind o) r) (inr (inr (back, chain))) = due_pointer k edge kind o r back chain
  due_on k edge (AtRegister NoPointer r) due = absurd due
  due_on k edge (IsSetAt i) (size, off, stored, byte) =
      by (made_or_left p.slots (stores size off) always false slot k insn here edge stored reached)
    where
      -- the instruction stored the bytes, or they were stored before
      by : (stores size off (Some insn) ≡ true) ⊎ ((always (Some insn) ≡ true) × IsStoredOnEachPath p.slots slot size off)
          → After (IsSetAt i) slot k insn state
      by (inl made) = inl (stores_byte insn size off i made byte)
      by (inr (left, before)) = inr (has (IsSetAt i) (size, off, before, byte))
  due_on k edge (IsPlainAt j) due = has (IsPlainAt j) tt

  -- operands that were written on each path are sure to be numbers, the second and the first:
  operand_ready : (src : Source) → IsWrittenOperand p.slots slot src → IsScalarOperand state src
  operand_ready (Imm i) w = tt
  operand_ready (Reg r) w = has (AtRegister Scalar r) w

  left_ready : (op : Operation) (dst : ℕ) → IsWrittenLeft op p.slots slot dst → IsLeftReady op state dst
  left_ready Mov dst w = tt
  left_ready _ dst w = has (AtRegister Scalar dst) w

  -- an access by register 10 inside the stack is known to be there:
  frame_placed : (size : Size) (dst : ℕ) (off : ℤ) (at : ℕ) → dst ≡ 10 → pos at ≡ (pos 512 +ℤ off)
      → at + byte_count size ≤ 512
      → IsAccessPlaced p.shapes p.context state size dst off Stack at
  frame_placed size dst off at ten at_is inside = record {
    base = 512;
    stands = subst (λ (n : ℕ). CertaintyHoldsAt (Pointer Stack 512) state n) (sym ten) frame;
    at_is = at_is;
    bound = 512;
    bound_is = refl;
    inside = inside;
  }

  on_frame : (size : Size) (dst : ℕ) (off : ℤ) → dst ≡ 10 → IsOnStack size off → IsOnFrame p.shapes p.context state size dst off
  on_frame size dst off ten (at, at_is, inside) = record { at = at; at_is = at_is; placed = frame_placed size dst off at ten at_is inside }

  -- an access inside an entry is known to be there
  entry_placed : (size : Size) (r : ℕ) (off : ℤ) → (entry : IsInEntry p.slots p.shapes slot r size off)
      → IsAccessPlaced p.shapes p.context state size r off (Entry entry.map) entry.at
  entry_placed size r off entry = record {
    base = 0;
    stands = pointer (Entry entry.map) 0 r entry.entry;
    at_is = let is = entry.off_is in omega (arith, ints, is);
    bound = entry.shape.value_size;
    bound_is = ap size_of_shape entry.known;
    inside = entry.inside;
  }

  -- a load that has what it needs is ready, and so is a store:
  readable : (size : Size) (src : ℕ) (off : ℤ) → IsGoodLoad p.slots p.shapes p.context slot size src off
      → IsLoadReady p.shapes p.context state size src off
  readable size src off (inl (one, left, at, off_is, inside)) = record {
    kind = Context;
    at = at;
    placed = record {
      base = 0;
      stands =
          subst (λ (n : ℕ). CertaintyHoldsAt (Pointer Context 0) state n) (sym one)
          (has (AtRegister (Pointer Context 0) 1) (inl (refl, refl, refl, left)));
      at_is = omega (arith, ints, off_is);
      bound = p.context;
      bound_is = refl;
      inside = inside;
    };
    set = λ e. absurd (let no : ⊥ = cc in no);
    plain = λ j. has (IsPlainAt j) tt;
  }
  readable size src off (inr (inl (ten, (at, at_is, inside, stored)))) = record {
    kind = Stack;
    at = at;
    placed = frame_placed size src off at ten at_is inside;
    set = λ e i le lt. has (IsSetAt i) (stored i le lt);
    plain = λ j. has (IsPlainAt j) tt;
  }
  readable size src off (inr (inr entry)) = record {
    kind = Entry entry.map;
    at = entry.at;
    placed = entry_placed size src off entry;
    set = λ e. absurd (let no : ⊥ = cc in no);
    plain = λ j. has (IsPlainAt j) tt;
  }

  storable : (size : Size) (dst : ℕ) (off : ℤ) → IsGoodStore p.slots p.shapes slot size dst off
      → IsOnFrame p.shapes p.context state size dst off ⊎ IsIntoEntry p.shapes p.context state size dst off
  storable size dst off (inl (ten, on)) = inl (on_frame size dst off ten on)
  storable size dst off (inr (other, entry)) =
      inr (record { map = entry.map; at = entry.at; placed = entry_placed size dst off entry; other = other })

  -- registers that name an entry are known to name it
  naming : (map : ℕ) → IsEntryNamed p.slots slot map → IsNamingEntry state map
  naming map n = record {
    names = pointer (Map map) 0 1 n.names;
    at = n.at;
    points = pointer Stack n.at 2 n.points;
    inside = n.inside;
    set = λ i le lt. has (IsSetAt i) (n.stored i le lt);
  }

  -- a register that was loaded with a number
  bounded : (r n most : ℕ) → n ≤ most → IsLoaded p.slots slot r n → IsAtMost most (slice_index_or state.registers r None)
  bounded r n most le loaded = exact_at_most n most (slice_index_or state.registers r None) le (has (AtRegister (Exact n) r) loaded)

  -- an update that has what it needs is ready, and so is a call of a counter:
  updating : (map : ℕ) → IsGiving p.slots p.shapes slot map → IsUpdating p.shapes state map
  updating map g = record {
    names = naming map g.naming;
    size = g.shape.value_size;
    size_is = ap size_of_shape g.known;
    at = g.at;
    points = pointer Stack g.at 3 g.points;
    inside = g.inside;
    set = λ i le lt. has (IsSetAt i) (g.stored i le lt);
    flags = bounded 4 0 0 (omega arith) g.flags;
  }

  asking : (helper : ℤ) → IsCounting p.slots slot helper → IsAsking state helper
  asking helper c = (bounded 1 c.counter 63 (let few = c.few in omega (arith, few)) c.loaded, λ is. has (AtRegister Scalar 2) (c.amount is))

  -- operands are ready: numbers, a copy of register 10, or a pointer and the distance by which it moves
  operands : (w : Width) (op : Operation) (dst : ℕ) (src : Source)
      → (IsWrittenLeft op p.slots slot dst × IsWrittenOperand p.slots slot src)
      ⊎ (IsCopyOfEnd w op src ⊎ IsMoveOnStack p.slots slot w op dst src)
      → (IsLeftReady op state dst × IsScalarOperand state src) ⊎ (IsCopyOfFrame state w op src ⊎ IsMoveOfPointer state w op dst src)
  operands w op dst src (inl numbers) = inl (left_ready op dst numbers.0, operand_ready src numbers.1)
  operands w op dst src (inr (inl copy)) =
      inr (inl (record { is_copy = copy.1; whole = copy.0; of_frame = copy.2; base = 512; stands = frame }))
  operands w op dst src (inr (inr m)) =
      inr (inr (record {
        is_sum = m.is_sum;
        whole = m.whole;
        distance = m.distance;
        by_distance = m.by_distance;
        base = m.base;
        stands = pointer Stack m.base dst m.from;
        at = m.at;
        at_is = m.at_is;
        below = m.below;
        small = m.small;
      }))

  -- the instruction has what it needs: for a call of a counter it is the abstract state that is asked from
  ready_of : (i : Insn) → Needs p.slots p.shapes p.context slot i → IsReadyFor p state i
  ready_of (Alu w op dst src) n = inl (n.0, operands w op dst src n.1)
  ready_of (MovSx w bits dst src) n = inl (n.0, has (AtRegister Scalar src) n.1)
  ready_of (Neg w dst) n = inl (n.0, has (AtRegister Scalar dst) n.1)
  ready_of (End order bits dst) n = inl (n.0, has (AtRegister Scalar dst) n.1)
  ready_of (Load size signed dst src off) n = inl (n.0, readable size src off n.1)
  ready_of (StoreImm size dst off imm) n = inl (storable size dst off n)
  ready_of (StoreReg size dst off src) n = inl (has (AtRegister Scalar src) n.0, storable size dst off n.1)
  ready_of (Imm64 dst value) n = inl n
  ready_of (MapRef dst index) n = inl n
  ready_of (Goto off) n = inl tt
  ready_of (Goto32 imm) n = inl tt
  ready_of (Branch w c dst src off) (low, inl numbers) = inl (low, inl (has (AtRegister Scalar dst) numbers.0, operand_ready src numbers.1))
  ready_of (Branch w c dst src off) (low, inr (test, map, at)) = inl (low, inr (test, map, pointer (EntryOrNull map) 0 dst at))
  ready_of (Call helper) (inl plain) = inl (inl plain)
  ready_of (Call helper) (inr (inl (one, map, n))) = inl (inr (inl (one, map, naming map n)))
  ready_of (Call helper) (inr (inr (inl (two, map, g)))) = inl (inr (inr (two, map, updating map g)))
  ready_of (Call helper) (inr (inr (inr (which, c)))) = inr (which, asking helper c)
  ready_of Exit n = inl (has (AtRegister Scalar 0) n)

  -- what the instruction needs is shown at its slot
  pub ready_at : IsReadyFor p state insn
  ready_at = ready_of insn (straight.before slot insn (omega arith) here)

  -- one slot further the pass is as sure
  pub sure_on : (pending new : List (Option (Box AbstractState Global))) (after : AbstractState) (on : Bool)
      → ((x : Fact) (k : ℕ) → IsFactDue p.slots x k → HasWaiting x pending k)
      → GoesOnSure p.slots slot insn state pending new after on
      → IsSure p.slots new after on (slot + 1)
  sure_on pending new after on waits goes x k due = goes x k (waits x k due) (λ edge. due_on k edge x due)

-- a straight program is straight before each slot
pub straight_before : (p : Subject) (slot : ℕ) → IsStraightProgram p → IsStraightBefore p slot
straight_before p slot straight = record { faultless = straight.faultless; before = λ k insn below here. straight.each k insn here }

-- what is straight before a slot is so before each that comes earlier
pub straight_earlier : (p : Subject) (slot later : ℕ) → slot ≤ later → IsStraightBefore p later → IsStraightBefore p slot
straight_earlier p slot later order straight =
    record { faultless = straight.faultless; before = λ k insn below here. straight.before k insn (omega arith) here }

-- once what waits has arrived, what was sure is so still
pub sure_arrived : (slots : List (Option Insn)) (pending after : List (Option (Box AbstractState Global)))
    (state seen : AbstractState) (live arrived : Bool) (slot : ℕ)
    → ((x : Fact) (k : ℕ) → HasWaiting x pending k → HasWaiting x after k)
    → ((x : Fact) → IsSureOf x pending state live slot slot → arrived ≡ true → Has x seen)
    → IsSure slots pending state live slot
    → IsSure slots after seen arrived slot
sure_arrived slots pending after state seen live arrived slot waits has sure x k due = record {
  waiting = waits x k (sure x k due).waiting;
  transferred = λ on same. has x (subst (λ (n : ℕ). IsSureOf x pending state live slot n) same (sure x k due)) on;
}

-- where no abstract state is transferred on, facts are sure if they are known where they wait
pub sure_over : (slots : List (Option Insn)) (pending : List (Option (Box AbstractState Global)))
    (state : AbstractState) (slot : ℕ)
    → ((x : Fact) (k : ℕ) → IsFactDue slots x k → HasWaiting x pending k) → IsSure slots pending state false slot
sure_over slots pending state slot waits x k due = record { waiting = waits x k due; transferred = λ live. absurd (let no : ⊥ = cc in no) }

-- at the start each fact that is due at slot 0 is known
pub sure_start : (slots : List (Option Insn)) (pending : List (Option (Box AbstractState Global))) (state : AbstractState)
    → IsGraphSound slots → ((k : ℕ) → slice_index_or pending k None ≡ None) → CertaintyHoldsAt (Pointer Context 0) state 1
    → CertaintyHoldsAt (Pointer Stack 512) state 10 → ((j : ℕ) → Has (IsPlainAt j) state)
    → IsSure slots pending state true 0
sure_start slots pending state sound blank context frame plain x k due =
    record { waiting = rw (blank k) tt; transferred = λ live same. at x (subst (λ (n : ℕ). IsFactDue slots x n) same due) }
  where
    not_made : (kind : ValueKind) (o r : ℕ) (back : List ℕ) → IsPointerFrom slots kind o r 0 back → ⊥
    not_made kind o r [] chain = chain
    not_made kind o r (before ∷ back) chain = let up = (sound.forward before 0 chain.1).0 in omega (arith, up)

    at : (x : Fact) → IsFactDue slots x 0 → Has x state
    at Never due = due (record { rest = []; is_path = tt; ends = refl })
    at (AtRegister Scalar r) due = absurd (let e : false ≡ true = due [] tt refl in let no : ⊥ = cc in no)
    at (AtRegister (Exact n) r) due = absurd (let e : false ≡ true = due [] tt refl in let no : ⊥ = cc in no)
    at (AtRegister (Pointer kind o) r) (inl (is, zero, one, left)) = rw (is, zero, one) context
    at (AtRegister (Pointer kind o) r) (inr (inl (is, top, ten))) = rw (is, top, ten) frame
    at (AtRegister (Pointer kind o) r) (inr (inr (back, chain))) = absurd (not_made kind o r back chain)
    at (AtRegister NoPointer r) due = absurd due
    at (IsSetAt i) (size, off, stored, byte) = absurd (let e : false ≡ true = stored [] tt refl in let no : ⊥ = cc in no)
    at (IsPlainAt j) due = plain j
