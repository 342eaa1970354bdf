-- A step of a program is a step of its copy, and the other way.
use Rattle.std.proofs.Common.{◌≡◌, ℕ, ◌+◌, ◌-◌, ◌<◌, Bool, true, false, List, Option, Some, None, length, refl, arith, sym, ap, ◌∙◌, subst, inl, inr, ℤ, pos, ltb-true, leb-true}
use Rattle.std.proofs.lemmas.Bool.{and_parts}
use Rattle.bq_insn.specs.declared.Insn.{Insn}
use Rattle.bq_insn.specs.declared.Insn.TheVariants.{Alu, MovSx, Neg, End, Load, StoreImm, StoreReg, Imm64, MapRef, Goto, Goto32, Branch, Call, Exit}
use Rattle.bq_insn.specs.Slots.{slots_of}
use Rattle.bq_bpf.specs.declared.board.CounterCall.{CounterCall}
use Rattle.bq_bpf.specs.Memory.{Setting, State, reference}
use Rattle.bq_bpf.specs.Steps.{Takes, Step, LeadsTo, put, IsTarget}
use Rattle.bq_bpf.specs.Runs.{Ends}
use Rattle.bq_bpf.specs.Instructions.{distance_of, goes_on}
use Rattle.bq_insn.proofs.OptionLemmas.{some_same}
use Rattle.bq_verify.proofs.EdgeLemmas.{leads_same}
use Rattle.bq_import.specs.Laws.{with_program}
use Rattle.bq_import.specs.Copies.{is_reference, wide_copy, copied, IsCopyOfSlot, JumpsAlike, IsCopy}
use Rattle.bq_import.proofs.StepLemmas.{moved, takes_moved}

-- the number is the reference of one of this many maps
pub record Refers (maps value : ℕ) : Type 0 where
  pub there : value - reference 0 < maps
  pub is : reference (value - reference 0) ≡ value

-- a number that tests as a reference is the reference of one of the maps
pub reference_refers : (maps value : ℕ) → is_reference maps value ≡ true → Refers maps value
reference_refers maps value e =
    let both = and_parts _ _ e in
    let low = leb-true (reference 0) value both.0 in
    let high = ltb-true value (reference maps) both.1 in
    record { there = omega (arith, low, high); is = omega (arith, low, high) }

-- the copy of a wide number is no EXIT
wide_exit : (b : Bool) (dst value : ℕ) → wide_copy b dst value ≡ Exit → ⊥
wide_exit true dst value e = cc
wide_exit false dst value e = cc

-- only an EXIT is copied as an EXIT
pub copied_exit : (maps : ℕ) (insn : Insn) (distance : ℤ) → copied maps insn distance ≡ Exit → insn ≡ Exit
copied_exit maps (Alu w op dst src) distance e = e
copied_exit maps (MovSx w bits dst src) distance e = e
copied_exit maps (Neg w dst) distance e = e
copied_exit maps (End kind bits dst) distance e = e
copied_exit maps (Load size signed dst src off) distance e = e
copied_exit maps (StoreImm size dst off imm) distance e = e
copied_exit maps (StoreReg size dst off src) distance e = e
copied_exit maps (MapRef dst index) distance e = e
copied_exit maps (Call helper) distance e = e
copied_exit maps (Imm64 dst value) distance e = absurd (wide_exit (is_reference maps value) dst value e)
copied_exit maps (Goto off) distance e = absurd (let no : ⊥ = cc in no)
copied_exit maps (Goto32 imm) distance e = absurd (let no : ⊥ = cc in no)
copied_exit maps (Branch w c dst src off) distance e = absurd (let no : ⊥ = cc in no)
copied_exit maps Exit distance e = e

-- an old program, a new one with the origin of each slot, and a setting with this many maps
module _ (maps : ℕ) (old new : List (Option Insn)) (origin : List ℕ) (f : Setting) (as_many : length f.shapes ≡ maps) where
  -- from slot `k` of the new program the instruction leads to the same state, at a copy of the slot of `t`
  pub record Ahead (s : State) (k : ℕ) (c : Option CounterCall) (t : State) (insn : Insn) : Type 0 where
    -- the slot to which the instruction leads in the new program
    pub slot : ℕ
    -- the instruction leads to `t`, but at this slot
    pub takes : Takes (with_program f new) insn (moved s k) c (moved t slot)
    -- this slot is a copy of the slot of `t`
    pub stands : IsCopyOfSlot new origin slot t.slot

  -- in the old program the instruction leads from `s` to the same state as from slot `k` of the new one
  pub record Behind (s : State) (k : ℕ) (c : Option CounterCall) (t' : State) (insn : Insn) : Type 0 where
    -- the state to which the instruction leads in the old program
    pub state : State
    -- the slot to which the instruction leads in the new program
    pub slot : ℕ
    -- the instruction leads to this state in the old program
    pub takes : Takes (with_program f old) insn s c state
    -- in the new program the instruction leads to the same state, but at its own slot
    pub is : t' ≡ moved state slot
    -- this slot is a copy of the slot of the state
    pub stands : IsCopyOfSlot new origin slot state.slot

  -- a state, a slot of the new program, and the distance that a jump has there
  module _ (s : State) (k : ℕ) (distance : ℤ) where
    -- if control goes on from the instruction, the next slot of the new program is a copy of the old one
    abbrev pub OnFrom : Insn → Type 0
    OnFrom insn = goes_on insn ≡ true → IsCopyOfSlot new origin (k + slots_of insn) (s.slot + slots_of insn)

    -- if the instruction jumps, the new program jumps to a copy of the target
    abbrev pub JumpsFrom : Insn → Type 0
    JumpsFrom insn = (far : ℤ) → distance_of insn ≡ Some far → JumpsAlike new origin s.slot k far distance

    -- a step of the old program that is no jump is one of the new program
    straight_ahead : (insn : Insn) (c : Option CounterCall) (t : State)
        → distance_of insn ≡ None → IsCopyOfSlot new origin (k + slots_of insn) (s.slot + slots_of insn)
        → Takes (with_program f old) insn s c t
        → Ahead s k c t insn
    straight_ahead insn c t d on p =
        let there = takes_moved (with_program f old) new k insn s c t d p in
        record {
          slot = k + slots_of insn;
          takes = there.0;
          stands = subst (λ (n : ℕ). IsCopyOfSlot new origin (k + slots_of insn) n) (sym there.1) on;
        }

    -- a step of the new program that is no jump is one of the old program
    straight_behind : (insn : Insn) (c : Option CounterCall) (t' : State)
        → distance_of insn ≡ None → IsCopyOfSlot new origin (k + slots_of insn) (s.slot + slots_of insn)
        → Takes (with_program f new) insn (moved s k) c t'
        → Behind s k c t' insn
    straight_behind insn c t' d on p =
        let there = takes_moved (with_program f new) old s.slot insn (moved s k) c t' d p in
        record {
          state = moved t' (s.slot + slots_of insn);
          slot = k + slots_of insn;
          takes = there.0;
          is = ap (λ (n : ℕ). moved t' n) there.1;
          stands = on;
        }

    -- a copied jump leads to a copy of the target of its original
    jump_ahead : (far : ℤ) (t : State) (to : ℕ) → JumpsAlike new origin s.slot k far distance → LeadsTo s.slot far to
        → t ≡ record s { slot = to }
        → (slot : ℕ) × LeadsTo k distance slot × (moved t slot ≡ moved s slot) × IsCopyOfSlot new origin slot t.slot
    jump_ahead far t to alike leads e =
        let same : alike.target ≡ t.slot = leads_same s.slot alike.target to far alike.leads leads ∙ sym (ap (λ (v : State). v.slot) e) in (
          alike.landing,
          alike.lands,
          ap (λ (v : State). moved v alike.landing) e,
          subst (λ (n : ℕ). IsCopyOfSlot new origin alike.landing n) same alike.stands,
        )

    -- each target of a copied jump is a copy of the target of its original
    jump_behind : (far : ℤ) (t' : State) (to : ℕ) → JumpsAlike new origin s.slot k far distance → LeadsTo k distance to → t' ≡ moved s to →
        (target : ℕ) × LeadsTo s.slot far target × (t' ≡ moved s to) × IsCopyOfSlot new origin to target
    jump_behind far t' to alike leads e = (
      alike.target,
      alike.leads,
      e,
      subst (λ (n : ℕ). IsCopyOfSlot new origin n alike.target)
          (leads_same k alike.landing to distance alike.lands leads) alike.stands,
    )

    -- a load of a wide number in the old program is one in the new program, as a number or a reference
    wide_ahead : (b : Bool) (dst value : ℕ) (t : State) → is_reference maps value ≡ b
        → IsCopyOfSlot new origin (k + 2) (s.slot + 2) → IsTarget dst → t ≡ put s 2 dst value
        → Ahead s k None t (wide_copy b dst value)
    wide_ahead false dst value t is on target e =
        record {
          slot = k + 2;
          takes = (target, ap (λ (v : State). moved v (k + 2)) e);
          stands = subst (λ (n : ℕ). IsCopyOfSlot new origin (k + 2) n) (sym (ap (λ (v : State). v.slot) e)) on;
        }
    wide_ahead true dst value t is on target e =
        let r = reference_refers maps value is in
        record {
          slot = k + 2;
          takes = (
            value - reference 0,
            refl,
            subst (λ (n : ℕ). value - reference 0 < n) (sym as_many) r.there,
            target,
            ap (λ (v : State). moved v (k + 2)) e ∙ ap (λ (n : ℕ). put (moved s k) 2 dst n) (sym r.is),
          );
          stands = subst (λ (n : ℕ). IsCopyOfSlot new origin (k + 2) n) (sym (ap (λ (v : State). v.slot) e)) on;
        }

    -- numbers that are equal as integers are equal
    no_pos : (m n : ℕ) → pos m ≡ pos n → m ≡ n
    no_pos m n e = cc

    -- the load of a copied wide number in the new program is one of the number in the old program
    wide_behind : (b : Bool) (dst value : ℕ) (c : Option CounterCall) (t' : State)
        → is_reference maps value ≡ b → IsCopyOfSlot new origin (k + 2) (s.slot + 2)
        → Takes (with_program f new) (wide_copy b dst value) (moved s k) c t'
        → Behind s k c t' (Imm64 dst value)
    wide_behind false dst value c t' is on p = straight_behind (Imm64 dst value) c t' refl on p
    wide_behind true dst value (Some c) t' is on (asks, fits, e) = absurd asks
    wide_behind true dst value None t' is on (m, number, there, target, e) =
        let r = reference_refers maps value is in
        let same : reference m ≡ value = ap reference (sym (no_pos _ m number)) ∙ r.is in
        record {
          state = put s 2 dst value;
          slot = k + 2;
          takes = (target, refl);
          is = e ∙ ap (λ (n : ℕ). put (moved s k) 2 dst n) same;
          stands = on;
        }

    -- what an instruction does in the old program, its copy does in the new program
    pub takes_ahead : (insn : Insn) (c : Option CounterCall) (t : State)
        → OnFrom insn → JumpsFrom insn → Takes (with_program f old) insn s c t
        → Ahead s k c t (copied maps insn distance)
    takes_ahead (Alu w op dst src) c t on jumps p = straight_ahead (Alu w op dst src) c t refl (on refl) p
    takes_ahead (MovSx w bits dst src) c t on jumps p = straight_ahead (MovSx w bits dst src) c t refl (on refl) p
    takes_ahead (Neg w dst) c t on jumps p = straight_ahead (Neg w dst) c t refl (on refl) p
    takes_ahead (End kind bits dst) c t on jumps p = straight_ahead (End kind bits dst) c t refl (on refl) p
    takes_ahead (Load size signed dst src off) c t on jumps p = straight_ahead (Load size signed dst src off) c t refl (on refl) p
    takes_ahead (StoreImm size dst off imm) c t on jumps p = straight_ahead (StoreImm size dst off imm) c t refl (on refl) p
    takes_ahead (StoreReg size dst off src) c t on jumps p = straight_ahead (StoreReg size dst off src) c t refl (on refl) p
    takes_ahead (MapRef dst index) c t on jumps p = straight_ahead (MapRef dst index) c t refl (on refl) p
    takes_ahead (Call helper) c t on jumps p = straight_ahead (Call helper) c t refl (on refl) p
    takes_ahead (Imm64 dst value) None t on jumps (target, e) = wide_ahead (is_reference maps value) dst value t refl (on refl) target e
    takes_ahead (Imm64 dst value) (Some c) t on jumps (asks, fits, e) = absurd asks
    takes_ahead (Goto off) None t on jumps (to, leads, e) =
        let j = jump_ahead off t to (jumps off refl) leads e in
        record { slot = j.0; takes = (j.0, j.1, j.2); stands = j.3 }
    takes_ahead (Goto off) (Some c) t on jumps (asks, fits, e) = absurd asks
    takes_ahead (Goto32 imm) None t on jumps (to, leads, e) =
        let j = jump_ahead imm t to (jumps imm refl) leads e in
        record { slot = j.0; takes = (j.0, j.1, j.2); stands = j.3 }
    takes_ahead (Goto32 imm) (Some c) t on jumps (asks, fits, e) = absurd asks
    takes_ahead (Branch w cond dst src off) None t on jumps (a, b, left, right, inl (held, to, leads, e)) =
        let j = jump_ahead off t to (jumps off refl) leads e in
        record { slot = j.0; takes = (a, b, left, right, inl (held, j.0, j.1, j.2)); stands = j.3 }
    takes_ahead (Branch w cond dst src off) None t on jumps (a, b, left, right, inr (failed, e)) =
        record {
          slot = k + 1;
          takes = (a, b, left, right, inr (failed, ap (λ (v : State). moved v (k + 1)) e));
          stands = subst (λ (n : ℕ). IsCopyOfSlot new origin (k + 1) n) (sym (ap (λ (v : State). v.slot) e)) (on refl);
        }
    takes_ahead (Branch w cond dst src off) (Some c) t on jumps (asks, fits, e) = absurd asks
    takes_ahead Exit None t on jumps p = absurd p
    takes_ahead Exit (Some c) t on jumps (asks, fits, e) = absurd asks

    -- what the copy of an instruction does in the new program, the instruction does in the old program
    pub takes_behind : (insn : Insn) (c : Option CounterCall) (t' : State)
        → OnFrom insn → JumpsFrom insn → Takes (with_program f new) (copied maps insn distance) (moved s k) c t'
        → Behind s k c t' insn
    takes_behind (Alu w op dst src) c t' on jumps p = straight_behind (Alu w op dst src) c t' refl (on refl) p
    takes_behind (MovSx w bits dst src) c t' on jumps p = straight_behind (MovSx w bits dst src) c t' refl (on refl) p
    takes_behind (Neg w dst) c t' on jumps p = straight_behind (Neg w dst) c t' refl (on refl) p
    takes_behind (End kind bits dst) c t' on jumps p = straight_behind (End kind bits dst) c t' refl (on refl) p
    takes_behind (Load size signed dst src off) c t' on jumps p = straight_behind (Load size signed dst src off) c t' refl (on refl) p
    takes_behind (StoreImm size dst off imm) c t' on jumps p = straight_behind (StoreImm size dst off imm) c t' refl (on refl) p
    takes_behind (StoreReg size dst off src) c t' on jumps p = straight_behind (StoreReg size dst off src) c t' refl (on refl) p
    takes_behind (MapRef dst index) c t' on jumps p = straight_behind (MapRef dst index) c t' refl (on refl) p
    takes_behind (Call helper) c t' on jumps p = straight_behind (Call helper) c t' refl (on refl) p
    takes_behind (Imm64 dst value) c t' on jumps p = wide_behind (is_reference maps value) dst value c t' refl (on refl) p
    takes_behind (Goto off) None t' on jumps (to, leads, e) =
        let j = jump_behind off t' to (jumps off refl) leads e in
        record { state = moved s j.0; slot = to; takes = (j.0, j.1, refl); is = j.2; stands = j.3 }
    takes_behind (Goto off) (Some c) t' on jumps (asks, fits, e) = absurd asks
    takes_behind (Goto32 imm) None t' on jumps (to, leads, e) =
        let j = jump_behind imm t' to (jumps imm refl) leads e in
        record { state = moved s j.0; slot = to; takes = (j.0, j.1, refl); is = j.2; stands = j.3 }
    takes_behind (Goto32 imm) (Some c) t' on jumps (asks, fits, e) = absurd asks
    takes_behind (Branch w cond dst src off) None t' on jumps (a, b, left, right, inl (held, to, leads, e)) =
        let j = jump_behind off t' to (jumps off refl) leads e in
        record { state = moved s j.0; slot = to; takes = (a, b, left, right, inl (held, j.0, j.1, refl)); is = j.2; stands = j.3 }
    takes_behind (Branch w cond dst src off) None t' on jumps (a, b, left, right, inr (failed, e)) =
        record { state = moved s (s.slot + 1); slot = k + 1; takes = (a, b, left, right, inr (failed, refl)); is = e; stands = on refl }
    takes_behind (Branch w cond dst src off) (Some c) t' on jumps (asks, fits, e) = absurd asks
    takes_behind Exit None t' on jumps p = absurd p
    takes_behind Exit (Some c) t' on jumps (asks, fits, e) = absurd asks

  -- from slot `k` the new program takes the same step, to a copy of the slot of `t`
  pub record StepAhead (s : State) (k : ℕ) (c : Option CounterCall) (t : State) : Type 0 where
    -- the slot of the new program after the step
    pub slot : ℕ
    -- the new program takes a step to `t`, but at this slot
    pub step : Step (with_program f new) (moved s k) c (moved t slot)
    -- this slot is a copy of the slot of `t`
    pub stands : IsCopyOfSlot new origin slot t.slot

  -- from `s` the old program takes the same step as the new program from slot `k`
  pub record StepBehind (s : State) (k : ℕ) (c : Option CounterCall) (t' : State) : Type 0 where
    -- the state of the old program after the step
    pub state : State
    -- the slot of the new program after the step
    pub slot : ℕ
    -- the old program takes a step to this state
    pub step : Step (with_program f old) s c state
    -- the new program takes a step to the same state, but at its own slot
    pub is : t' ≡ moved state slot
    -- this slot is a copy of the slot of the state
    pub stands : IsCopyOfSlot new origin slot state.slot

  -- the new program is a copy of the old one
  module _ (copy : IsCopy maps old new origin) where
    -- a step of a program is a step of its copy
    pub step_ahead : (s : State) (k : ℕ) (c : Option CounterCall) (t : State)
        → IsCopyOfSlot new origin k s.slot → Step (with_program f old) s c t → StepAhead s k c t
    step_ahead s k c t stands step =
        let at = copy.each k s.slot stands in
        let same = some_same _ step.insn at.original step.here at.here in
        let ahead =
        takes_ahead s k at.distance at.original c t at.on at.jumps
        (subst (λ (i : Insn). Takes (with_program f old) i s c t) same step.takes) in
        record {
          slot = ahead.slot;
          step = record { insn = copied maps at.original at.distance; here = at.copy; takes = ahead.takes };
          stands = ahead.stands;
        }

    -- a step of a copy is a step of its original
    pub step_behind : (s : State) (k : ℕ) (c : Option CounterCall) (t' : State)
        → IsCopyOfSlot new origin k s.slot → Step (with_program f new) (moved s k) c t' → StepBehind s k c t'
    step_behind s k c t' stands step =
        let at = copy.each k s.slot stands in
        let same = some_same _ step.insn (copied maps at.original at.distance) step.here at.copy in
        let behind =
        takes_behind s k at.distance at.original c t' at.on at.jumps
        (subst (λ (i : Insn). Takes (with_program f new) i (moved s k) c t') same step.takes) in
        record {
          state = behind.state;
          slot = behind.slot;
          step = record { insn = at.original; here = at.here; takes = behind.takes };
          is = behind.is;
          stands = behind.stands;
        }

    -- where a program ends, its copy ends with the same answer and maps
    pub ends_ahead : (s : State) (k answer : ℕ) (after : List (List ℕ))
        → IsCopyOfSlot new origin k s.slot → Ends (with_program f old) s answer after
        → Ends (with_program f new) (moved s k) answer after
    ends_ahead s k answer after stands ends =
        let at = copy.each k s.slot stands in
        let same : at.original ≡ Exit = some_same _ at.original Exit at.here ends.here in
        record {
          here = at.copy ∙ ap (λ (i : Insn). Some (copied maps i at.distance)) same;
          answer_is = ends.answer_is;
          maps_are = ends.maps_are;
        }

    -- where a copy ends, its original ends with the same answer and maps
    pub ends_behind : (s : State) (k answer : ℕ) (after : List (List ℕ))
        → IsCopyOfSlot new origin k s.slot → Ends (with_program f new) (moved s k) answer after
        → Ends (with_program f old) s answer after
    ends_behind s k answer after stands ends =
        let at = copy.each k s.slot stands in
        let same : at.original ≡ Exit =
        copied_exit maps at.original at.distance (some_same _ (copied maps at.original at.distance) Exit at.copy ends.here) in
        record { here = at.here ∙ ap (λ (i : Insn). Some i) same; answer_is = ends.answer_is; maps_are = ends.maps_are }
