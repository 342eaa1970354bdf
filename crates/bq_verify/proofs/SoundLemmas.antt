-- A program that passes the first two checks may be walked.
use Rattle.std.proofs.Common.{◌≡◌, ℕ, ◌+◌, ◌<◌, ◌≤◌, true, List, Option, Some, None, length, refl, arith, sym, subst, ◌⊎◌, inl, inr, ℤ}
use Rattle.std.proofs.lemmas.Bool.{cases_lt}
use Rattle.bq_insn.specs.declared.Insn.{Insn}
use Rattle.bq_insn.specs.Slots.{slots_of}
use Rattle.bq_bpf.specs.Steps.{LeadsTo, instruction_at}
use Rattle.bq_verify.specs.Edges.{IsStart, IsWhole}
use Rattle.bq_bpf.specs.Instructions.{Leaves, distance_of, goes_on, asks_counter}
use Rattle.bq_verify.specs.Paths.{IsGreatest, CallsOnWay}
use Rattle.bq_verify.specs.Faults.{IsBadJump, RunsOut, IsLateCall}
use Rattle.bq_verify.specs.Passes.{IsGraphSound}
use Rattle.bq_insn.proofs.OptionLemmas.{some_none}
use Rattle.bq_insn.proofs.CountLemmas.{slots_positive}
use Rattle.bq_verify.proofs.EdgeLemmas.{leads_same}

-- an instruction begins at the slot, or none does
pub start_or_not : (slots : List (Option Insn)) (slot : ℕ) (v : Option Insn)
    → instruction_at slots slot ≡ v → IsStart slots slot ⊎ (IsStart slots slot → ⊥)
start_or_not slots slot None e = inr (λ start. some_none _ _ start.here e)
start_or_not slots slot (Some insn) e = inl (record { insn = insn; here = e })

module _ (slots : List (Option Insn)) (whole : IsWhole slots) (lands : (slot : ℕ) → IsBadJump slots slot → ⊥)
    (stays : (slot : ℕ) → RunsOut slots slot → ⊥) where
  -- the next instruction comes later, and one begins there
  next_by : (from to : ℕ) (insn : Insn) → instruction_at slots from ≡ Some insn → goes_on insn ≡ true
      → to ≡ from + slots_of insn → (to < length slots) ⊎ (length slots ≤ to)
      → (from < to) × IsStart slots to
  next_by from to insn here on same (inl lt) =
      let positive = slots_positive insn in
      (omega arith, subst (λ (n : ℕ). IsStart slots n) (sym same) (whole from insn here (omega arith)))
  next_by from to insn here on same (inr le) =
      absurd (stays from (record { insn = insn; here = here; on = on; past = omega arith }))

  -- where a jump leads is later, and an instruction begins there
  jump_by : (from to : ℕ) (insn : Insn) (distance : ℤ) → instruction_at slots from ≡ Some insn
      → distance_of insn ≡ Some distance → LeadsTo from distance to → (from < to) ⊎ (to ≤ from)
      → IsStart slots to ⊎ (IsStart slots to → ⊥)
      → (from < to) × IsStart slots to
  jump_by from to insn distance here jumps leads (inl lt) (inl start) = (lt, start)
  jump_by from to insn distance here jumps leads (inr le) s =
      absurd (lands from (record {
        insn = insn;
        here = here;
        distance = distance;
        jumps = jumps;
        nowhere = λ t leads' lt start. let same : to ≡ t = leads_same from to t distance leads leads' in absurd (omega arith);
      }))
  jump_by from to insn distance here jumps leads (inl lt) (inr none) =
      absurd (lands from (record {
        insn = insn;
        here = here;
        distance = distance;
        jumps = jumps;
        nowhere = λ t leads' lt' start. none (subst (λ (n : ℕ). IsStart slots n) (leads_same from t to distance leads' leads) start);
      }))

  -- wherever control may go from an instruction is later, and an instruction begins there
  leaves_by : (from to : ℕ) (insn : Insn) → instruction_at slots from ≡ Some insn → Leaves insn from to → (from < to) × IsStart slots to
  leaves_by from to insn here (inl l) = next_by from to insn here l.0 l.1 (cases_lt to (length slots))
  leaves_by from to insn here (inr l) = jump_by from to insn l.0 here l.1 l.2 (cases_lt from to) (start_or_not slots to _ refl)

  -- a whole program of good jumps that ends may be walked
  pub sound_graph : IsGraphSound slots
  sound_graph = record { forward = λ from to edge. leaves_by from to edge.insn edge.here edge.leaves; lands = lands }

-- the number decides whether a counter call is late
pub late_by : (slots : List (Option Insn)) (slot count : ℕ) (insn : Insn)
    → instruction_at slots slot ≡ Some insn → asks_counter insn ≡ true → IsGreatest (CallsOnWay slots slot) count → 16 ≤ count
    → IsLateCall slots slot
late_by slots slot count insn here asks greatest many =
    record { insn = insn; here = here; asks = asks; count = count; way = greatest.holds; many = many }

-- a late call has sixteen or more before it
pub late_many : (slots : List (Option Insn)) (slot count : ℕ)
    → IsGreatest (CallsOnWay slots slot) count → IsLateCall slots slot → 16 ≤ count
late_many slots slot count greatest late =
    let le = greatest.bounds late.count late.way in
    let many = late.many in
    omega arith
