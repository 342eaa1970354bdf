-- Instructions that give a register a value.
use Rattle.bq_ranges.specs.Within.{Within}
use Rattle.bq_ranges.specs.declared.range.Range.{Range}
use Rattle.bq_states.specs.declared.abstract_state.ValueKind.TheVariants.{Map, Number}
use Rattle.std.proofs.Common.{zero-le, ◌≡◌, ◌≢◌, ℕ, zero, suc, ◌+◌, ◌<◌, Bool, true, false, List, [], ◌∷◌, Option, Some, None, length, get_or, set, refl, arith, get_or-set_same, get_or-set_other, ◌⊎◌, inl, inr, cond}
use Rattle.std.specs.Prelude.{slice_get, slice_set}
use Rattle.std.proofs.lemmas.Bool.Decides.{eqb_tells}
use Rattle.bq_insn.specs.declared.Insn.{Insn}
use Rattle.bq_insn.specs.Slots.{slots_of}
use Rattle.bq_insn.specs.declared.Operation.{Operation}
use Rattle.bq_insn.specs.declared.Operation.TheVariants as op
use Rattle.bq_bpf.specs.declared.shape.MapShape.{MapShape}
use Rattle.bq_bpf.specs.Memory.{Setting, State, reference}
use Rattle.bq_bpf.specs.Steps.{Does, put, IsLeft}
use Rattle.bq_states.specs.declared.abstract_state.AbstractValue.{AbstractValue}
use Rattle.bq_states.specs.declared.abstract_state.AbstractState.{AbstractState}
use Rattle.bq_states.specs.declared.relations.Related.{Related}
use Rattle.bq_states.proofs.WordLemmas.{describes_number}
use Rattle.bq_states.proofs.CopyLemmas.{copies_put, copies_same, loaded_copy, put_here, put_same}
use Rattle.bq_states.specs.Copies.{AreCopies, HasWord}
use Rattle.bq_states.specs.AbstractStates.{Describes, RegisterIsAsKnown, Contains, Suits, knowing}
use Rattle.bq_transfer.specs.Transfers.{HoldsNumber, Transfers}

-- a register that is set is a first operand of any operation
pub left_from_set : (o : Operation) (v : Option ℕ) (a : ℕ) → v ≡ Some a → IsLeft o v a
left_from_set op.Mov v a e = tt
left_from_set _ v a e = e

-- after register dst was given a described word, each register is as known, by whether it is dst
put_at : (shapes : List MapShape) (regs : List (Option AbstractValue)) (register : ℕ → Option ℕ)
    (dst n : ℕ) (k : AbstractValue) (r : ℕ) (b : Bool)
    → dst < length regs → RegisterIsAsKnown shapes (get_or regs r None) (register r) → Describes shapes k n
    → ((b ≡ true) × (r ≡ dst)) ⊎ ((b ≡ false) × (r ≢ dst))
    → RegisterIsAsKnown shapes (get_or (set regs dst (Some k)) r None) (cond b (Some n) (register r))
put_at shapes regs register dst n k r b lt h d (inl (e, same)) = rw (e, same, get_or-set_same regs dst (Some k) None lt) (n, refl, d)
put_at shapes regs register dst n k r b lt h d (inr (e, other)) = rw (e, get_or-set_other regs dst r (Some k) None other) h

-- an abstract state that learns the word which a register was given stays right
pub contains_put : (f : Setting) (v : AbstractState) (s : State) (slots dst n : ℕ) (k : AbstractValue)
    → dst < length v.registers → Contains f v s → Describes f.shapes k n
    → Contains f (knowing v dst k) (put s slots dst n)
contains_put f v s slots dst n k lt contains d = record {
  registers = λ r. put_at f.shapes v.registers s.register dst n k r _ lt (contains.registers r) d (eqb_tells r dst);
  set = contains.set;
  kept = contains.kept;
  parts = contains.parts;
  maps = contains.maps;
  copies = copies_put v.classes v.related s slots dst n contains.copies;
}

-- an abstract state still describes a state in which a register was written with the word that it holds
pub contains_same : (f : Setting) (v : AbstractState) (s : State) (slots dst n : ℕ)
    → s.register dst ≡ Some n → Contains f v s → Contains f v (put s slots dst n)
contains_same f v s slots dst n is contains = record {
  registers = λ r. rw (put_same s slots dst n is r) (contains.registers r);
  set = contains.set;
  kept = contains.kept;
  parts = contains.parts;
  maps = contains.maps;
  copies = copies_same v.classes v.related s slots dst n is contains.copies;
}

-- an instruction that gives a register such a word transfers the abstract state on
pub carries_put : (shapes : List MapShape) (context_length : ℕ) (insn : Insn) (v : AbstractState)
    (dst : ℕ) (k : AbstractValue)
    → dst < length v.registers
    → ((f : Setting) (s : State) → Suits shapes context_length f → Contains f v s →
    (n : ℕ) × Does f insn s (put s (slots_of insn) dst n) × Describes f.shapes k n)
    → Transfers shapes context_length insn v (knowing v dst k)
carries_put shapes context_length insn v dst k lt gives f s suits contains =
    let given = gives f s suits contains in
    (put s (slots_of insn) dst given.0, given.1, contains_put f v s (slots_of insn) dst given.0 k lt contains given.2, refl)

-- an instruction that calculates such a word from the number in a register transfers the abstract state on
pub carries_number : (shapes : List MapShape) (context_length : ℕ) (insn : Insn) (old new : AbstractState)
    (dst src : ℕ) (from to : Range) (calculated : ℕ → ℕ)
    → dst < 10 → length old.registers ≡ 11 → new ≡ knowing old dst (record { kind = Number; offset = to })
    → HoldsNumber old src from → ((n : ℕ) → Within from n → Within to (calculated n))
    → ((f : Setting) (s : State) (n : ℕ) → s.register src ≡ Some n → Does f insn s (put s (slots_of insn) dst (calculated n)))
    → Transfers shapes context_length insn old new
carries_number shapes context_length insn old new dst src from to calculated below long is holds within does =
    let there : dst < length old.registers = omega arith in
    rw is (carries_put shapes context_length insn old dst (record { kind = Number; offset = to }) there
    (λ f s suits contains.
    let word = holds f s contains in
    (calculated word.0, does f s word.0 word.1, describes_number f.shapes to (calculated word.0) (within word.0 word.2))))

-- an instruction that gives a register such a word transfers the abstract state on, where the register is a copy of a slot then
pub carries_linked : (shapes : List MapShape) (context_length : ℕ) (insn : Insn) (v : AbstractState) (dst slot : ℕ)
    (k : AbstractValue) (classes : List ℕ) (related : List (Option Related))
    → dst < length v.registers → dst < 11
    → ((f : Setting) (s : State) → Suits shapes context_length f → Contains f v s →
    (n : ℕ) × Does f insn s (put s (slots_of insn) dst n) × Describes f.shapes k n × HasWord s (11 + slot) n)
    → ((t : State) (n : ℕ) → AreCopies (slice_set v.classes dst 0) v.related t → HasWord t (11 + slot) n →
    ((m : ℕ) → HasWord t (11 + slot) m → HasWord t dst m) → AreCopies classes related t)
    → Transfers shapes context_length insn v (record (knowing v dst k) { classes = classes; related = related })
carries_linked shapes context_length insn v dst slot k classes related lt low gives linked f s suits contains =
    let given = gives f s suits contains in
    let t : State = put s (slots_of insn) dst given.0 in
    let put_contains : Contains f (knowing v dst k) t = contains_put f v s (slots_of insn) dst given.0 k lt contains given.2 in
    let there : HasWord t (11 + slot) given.0 = (λ below. absurd (let no : ⊥ = omega (arith, below) in no), given.3.1) in
    let copies =
    linked t given.0 put_contains.copies there
    (λ m has. loaded_copy t dst slot given.0 m low (put_here s (slots_of insn) dst given.0) there has) in (
      t,
      given.1,
      record {
        registers = put_contains.registers;
        set = put_contains.set;
        kept = put_contains.kept;
        parts = put_contains.parts;
        maps = put_contains.maps;
        copies = copies;
      },
      refl,
    )

-- a map whose number is below the number of maps has a shape
shape_at : (shapes : List MapShape) (m : ℕ) → m < length shapes → (shape : MapShape) × (slice_get shapes m ≡ Some shape)
shape_at [] m lt = absurd (omega arith)
shape_at (x ∷ xs) zero lt = (x, refl)
shape_at (x ∷ xs) (suc m) lt = shape_at xs m (omega arith)

-- the reference of a map is described as a pointer to that map at offset 0
pub reference_is : (shapes : List MapShape) (m : ℕ) (r : Range)
    → m < length shapes → m < 256 → r.lo ≡ 0
    → Describes shapes (record { kind = Map m; offset = r }) (reference m)
reference_is shapes m r there few lo =
    let shape = shape_at shapes m there in
    record {
      base = reference m;
      offset = 0;
      is_base =
          record { map = m; alike = record { shape = shape.0; one = shape.1; other = shape.1; low = few }; base_is = refl };
      within = (omega arith, zero-le);
      word_is = omega arith;
    }
