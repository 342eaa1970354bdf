-- Where control goes, and what is put in front.
use Rattle.std.proofs.Common.{◌≡◌, ℕ, ◌+◌, ◌-◌, ◌<◌, ◌≤◌, Bool, true, false, List, length, Option, Some, None, refl, arith, sym, ap, ◌∙◌, subst, inl, inr, ℤ, pos}
use Rattle.std.specs.Prelude.{if◌then◌else◌, IfSome, IfNone, is_some}
use Rattle.bq_import.specs.declared.fault.Disorder.{Disorder}
use Rattle.bq_import.specs.declared.fault.Disorder.TheVariants.{Outside, Ends, Loop, Long, OutOfMemory}
use Rattle.bq_import.specs.Faults.{IsDisorder, IsLinked, IsWrongAt, LeadsNowhere, WellBefore}
use Rattle.bq_verify.specs.Faults.{RunsOut}
use Rattle.bq_insn.specs.declared.Insn.{Insn}
use Rattle.bq_insn.specs.Slots.{slots_of}
use Rattle.bq_bpf.specs.Steps.{LeadsTo, instruction_at}
use Rattle.bq_bpf.specs.Instructions.{distance_of, goes_on}
use Rattle.bq_verify.specs.Edges.{IsStart}
use Rattle.bq_verify.specs.Passes.{LeadsOut, IsAmongTargets}
use Rattle.bq_verify.specs.declared.targets.Targets.{Targets}
use Rattle.bq_insn.proofs.OptionLemmas.{some_same, some_none}
use Rattle.bq_insn.proofs.CountLemmas.{slots_positive}
use Rattle.bq_verify.proofs.EdgeLemmas.{leads_same, leads_out}
use Rattle.bq_import.specs.Copies.{IsCopyOfSlot}
use Rattle.bq_import.specs.Backward.{JumpsBack, IsFront, MayBePut}
use Rattle.bq_import.specs.Lengths.{IsJump}
use Rattle.bq_import.specs.Search.{AreTargets, JumpsTo}

-- an instruction of a linked program, and the slots to which control goes from it
module _ (slots : List (Option Insn)) (slot : ℕ) (insn : Insn) (here : instruction_at slots slot ≡ Some insn)
    (linked : IsLinked slots) (targets : Targets) where
  -- if control goes on, the next slot is a target
  next_there : (b : Bool) → b ≡ true → targets.next ≡ (if b then Some (slot + slots_of insn) else None)
      → targets.next ≡ Some (slot + slots_of insn)
  next_there true e is = is
  next_there false e is = absurd (let no : ⊥ = cc in no)

  -- if the instruction jumps, the slot to which it jumps is a target
  jump_there : (v : Option ℕ) → targets.jump ≡ v
      → IfSome v (λ to. (far : ℤ) × (distance_of insn ≡ Some far) × LeadsTo slot far to) → IfNone v (distance_of insn ≡ None)
      → (far : ℤ) → distance_of insn ≡ Some far
      → (to : ℕ) × LeadsTo slot far to × (targets.jump ≡ Some to)
  jump_there None is some none far e = absurd (some_none _ far e none)
  jump_there (Some to) is some none far e =
      let same : some.0 ≡ far = some_same _ some.0 far some.1 e in
      (to, subst (λ (z : ℤ). LeadsTo slot z to) same some.2, is)

  -- the instruction jumps to the target that is given for a jump
  jump_from : (v : Option ℕ) → targets.jump ≡ v
      → IfSome v (λ to. (far : ℤ) × (distance_of insn ≡ Some far) × LeadsTo slot far to) → (to : ℕ) → targets.jump ≡ Some to
      → IsJump slots slot to
  jump_from None is some to e = absurd (some_none _ to e is)
  jump_from (Some at) is some to e =
      let same : at ≡ to = some_same _ at to is e in
      record { insn = insn; here = here; distance = some.0; jumps = some.1; leads = subst (λ (n : ℕ). LeadsTo slot some.0 n) same some.2 }

  -- an instruction begins at each target
  starts_at : LeadsOut slots slot targets → (to : ℕ) → IsAmongTargets targets to → IsStart slots to
  starts_at out to of =
      let edge = out.only to of in
      let same : edge.insn ≡ insn = some_same _ edge.insn insn edge.here here in
      let well = linked.leads slot insn here in
      elim edge.leaves [
        | inl (on, is) ↦
            let on' : goes_on insn ≡ true = ap goes_on (sym same) ∙ on in
            let is' : to ≡ slot + slots_of insn = is ∙ ap (λ (i : Insn). slot + slots_of i) same in
            subst (λ (n : ℕ). IsStart slots n) (sym is') (well.0 on')
        | inr (far, is, leads) ↦
            let there = well.1 far (ap distance_of (sym same) ∙ is) in
            subst (λ (n : ℕ). IsStart slots n) (leads_same slot there.0 to far there.1 leads) there.2
      ]

  -- the next slot is later
  next_later : (b : Bool) → targets.next ≡ (if b then Some (slot + slots_of insn) else None) → (to : ℕ) → targets.next ≡ Some to → slot < to
  next_later true is to e =
      let same = some_same _ to (slot + slots_of insn) e is in
      let positive = slots_positive insn in omega (arith, same, positive)
  next_later false is to e = absurd (some_none _ to e is)

  -- the next slot is right behind the instruction
  next_behind : (b : Bool) → targets.next ≡ (if b then Some (slot + slots_of insn) else None)
      → (to : ℕ) → targets.next ≡ Some to
      → to ≡ slot + slots_of insn
  next_behind true is to e = some_same _ to (slot + slots_of insn) e is
  next_behind false is to e = absurd (some_none _ to e is)

  -- if there is a next slot, control goes on
  next_on : (b : Bool) → goes_on insn ≡ b → targets.next ≡ (if b then Some (slot + slots_of insn) else None)
      → (to : ℕ) → targets.next ≡ Some to
      → goes_on insn ≡ true
  next_on true e is to there = e
  next_on false e is to there = absurd (some_none _ to there is)

  -- the next slot and the slot of the jump are the targets of the instruction
  pub are_targets : targets.next ≡ (if goes_on insn then Some (slot + slots_of insn) else None)
      → IfSome targets.jump (λ to. (far : ℤ) × (distance_of insn ≡ Some far) × LeadsTo slot far to)
      → IfNone targets.jump (distance_of insn ≡ None)
      → AreTargets slots slot insn targets
  are_targets next some none =
      let out = leads_out slots slot insn here targets next some none in
      record {
        out = out;
        next = λ on. next_there (goes_on insn) on next;
        jump = jump_there targets.jump refl some none;
        jumps = jump_from targets.jump refl some;
        starts = starts_at out;
        later = next_later (goes_on insn) next;
        behind = next_behind (goes_on insn) next;
        on = next_on (goes_on insn) refl next;
      }

-- an instruction with its targets, and the copy so far
module _ (old back : List (Option Insn)) (origins : List ℕ) (slot : ℕ) (insn : Insn) (targets : Targets)
    (are : AreTargets old slot insn targets) where
  -- if the instruction jumps, its copy jumps to a copy of the target, which lies behind
  jump_lands : (distance : ℤ) (v : Option ℕ) → targets.jump ≡ v → IfSome v (JumpsTo back origins distance)
      → (far : ℤ) → distance_of insn ≡ Some far
      → JumpsBack back origins slot (length back) far distance
  jump_lands distance None e jumps far is = let there = are.jump far is in absurd (some_none _ there.0 there.2 e)
  jump_lands distance (Some to) e jumps far is =
      let there = are.jump far is in
      let same : to ≡ there.0 = some_same _ to there.0 e there.2 in
      record {
        target = there.0;
        landing = jumps.landing;
        apart = jumps.apart;
        leads = there.1;
        near_is = jumps.distance_is;
        place_is = jumps.long;
        stands = subst (λ (n : ℕ). IsCopyOfSlot back origins jumps.landing n) same jumps.stands;
      }

  -- an instruction may be put in front if its next slot is in front and its copy can jump to a copy of its target
  pub may_stand : (distance : ℤ) → instruction_at old slot ≡ Some insn
      → ((n : ℕ) → targets.next ≡ Some n → IsFront back origins n) → IfSome targets.jump (JumpsTo back origins distance)
      → MayBePut old back origins slot insn distance
  may_stand distance here front jumps = record {
    here = here;
    on = λ on. front (slot + slots_of insn) (are.next on);
    jumps = jump_lands distance targets.jump refl jumps;
  }

-- a jump over the slots from the front to a copy of a slot leads to this copy
pub jumps_to : (back : List (Option Insn)) (origins : List ℕ) (to place : ℕ)
    (distance : ℤ) (start : place < length back)
    → distance ≡ pos (length back - place - 1) → IsCopyOfSlot back origins place to
    → JumpsTo back origins distance to
jumps_to back origins to place distance start is stands =
    record { landing = place; apart = length back - place - 1; distance_is = is; long = omega (arith, start); stands = stands }

-- a jump for which no target is found leads to a place where no instruction begins
pub leads_nowhere : (slots : List (Option Insn)) (slot : ℕ) (insn : Insn) (distance : ℤ)
    → instruction_at slots slot ≡ Some insn → Some distance ≡ distance_of insn → (v : Option ℕ) → is_some v ≡ false
    → IfNone v ((to : ℕ) → LeadsTo slot distance to → IsStart slots to → ⊥)
    → LeadsNowhere slots slot
leads_nowhere slots slot insn distance here is None none never =
    record { insn = insn; here = here; distance = distance; jumps = sym is; nowhere = never }
leads_nowhere slots slot insn distance here is (Some to) none never = absurd (let false : ⊥ = cc in false)

-- an instruction whose next slot lies before the end does not go on past the end
pub stays_inside : (slots : List (Option Insn)) (slot : ℕ) (insn : Insn)
    → instruction_at slots slot ≡ Some insn → (goes_on insn ≡ true → slot + slots_of insn < length slots) → RunsOut slots slot
    → ⊥
stays_inside slots slot insn here within out =
    let same : out.insn ≡ insn = some_same _ out.insn insn out.here here in
    let inside = within (ap goes_on (sym same) ∙ out.on) in
    let past : length slots ≤ slot + slots_of insn = subst (λ (i : Insn). length slots ≤ slot + slots_of i) same out.past in
    omega (arith, inside, past)

-- the fault of the first slot that has one is the fault of the program
pub first_wrong : (slots : List (Option Insn)) (slot : ℕ) (d : Disorder)
    → WellBefore slots slot → IsWrongAt slots slot d → IsDisorder slots d
first_wrong slots slot (Ends at) before wrong = subst (λ (n : ℕ). RunsOut slots n × WellBefore slots n) (sym wrong.0) (wrong.1, before)
first_wrong slots slot (Outside at) before wrong =
    subst (λ (n : ℕ). LeadsNowhere slots n × (RunsOut slots n → ⊥) × WellBefore slots n) (sym wrong.0)
    (wrong.1, wrong.2, before)
first_wrong slots slot (Loop from to) before wrong = absurd wrong
first_wrong slots slot Long before wrong = absurd wrong
first_wrong slots slot OutOfMemory before wrong = absurd wrong

-- what holds for the slot that an option has holds for the option
pub if_some : (P : ℕ → Type 0) (v : Option ℕ) (n : ℕ) → v ≡ Some n → P n → IfSome v P
if_some P None n e p = absurd (let false : ⊥ = cc in false)
if_some P (Some m) n e p = subst P (some_same _ n m e refl) p
