-- What the checks of the control graph give the pass.
use Rattle.std.proofs.Common.{◌≡◌, ℕ, ◌+◌, ◌<◌, ◌≤◌, true, List, Option, Some, None, length, refl, sym, ap, subst, zero-le, arith, ◌⊎◌, inl, inr}
use Rattle.std.specs.Prelude.{slice_index, slice_index_or}
use Rattle.std.proofs.lemmas.Bool.{cases_lt}
use Rattle.bq_insn.specs.declared.Insn.TheVariants.{Call}
use Rattle.bq_bpf.specs.Steps.{IsCounterCall, instruction_at}
use Rattle.bq_verify.proofs.CountLemmas.{extend}
use Rattle.bq_verify.proofs.SoundLemmas.{late_by, sound_graph}
use Rattle.bq_insn.specs.declared.Insn.{Insn}
use Rattle.bq_insn.specs.Slots.{spread}
use Rattle.bq_verify.specs.Edges.{IsEdge, IsWhole, IsStart}
use Rattle.bq_verify.specs.Paths.{IsGreatest, IsMostCalls, PathOut, CallsOnWay, counter_calls_of}
use Rattle.bq_bpf.specs.Instructions.{asks_counter}
use Rattle.bq_verify.specs.Faults.{IsFaultless}
use Rattle.bq_verify.specs.Passes.{IsGraphSound, Measured}
use Rattle.bq_verify.specs.declared.graph_cause.GraphCause.TheVariants.{Jump, NoExit, Unreached, Counters}
use Rattle.bq_verify.proofs.SpreadLemmas.{spread_begins}
use Rattle.bq_verify.proofs.HeightLemmas.{heights_fall, heights_positive}
use Rattle.bq_verify.specs.Control.{AreHeights, BoundsCalls}

-- in the slots of a program the next instruction begins where the one before it ends
pub spread_whole : (insns : List Insn) (slots : List (Option Insn)) → slots ≡ spread insns → IsWhole slots
spread_whole insns slots same = subst (λ (s : List (Option Insn)). IsWhole s) (sym same) (spread_begins insns).whole

-- an instruction begins at the first slot of a program that has slots
pub spread_first : (insns : List Insn) (slots : List (Option Insn)) → slots ≡ spread insns → 0 < length slots → IsStart slots 0
spread_first insns slots same = subst (λ (s : List (Option Insn)). 0 < length s → IsStart s 0) (sym same) (spread_begins insns).first

-- the graph of a program without faults may be walked
pub faultless_sound : (insns : List Insn) (slots : List (Option Insn)) → slots ≡ spread insns → IsFaultless slots → IsGraphSound slots
faultless_sound insns slots same faultless = sound_graph slots (spread_whole insns slots same) (faultless Jump) (faultless NoExit)

-- the measured numbers fall along each edge, and are positive where an instruction begins
pub heights_are : (slots : List (Option Insn)) (heights : List ℕ) → IsGraphSound slots → Measured slots 0 heights → AreHeights slots heights
heights_are slots heights sound measured = record {
  fall = heights_fall slots sound heights measured;
  positive = λ slot insn here. heights_positive slots heights measured slot (record { insn = insn; here = here });
}

-- the number measured at the first slot is the length of the longest path out of the program
pub first_height_is_longest : (insns : List Insn) (slots : List (Option Insn)) (heights : List ℕ)
    → slots ≡ spread insns → 0 < length slots → Measured slots 0 heights
    → IsGreatest (PathOut slots 0) (slice_index heights 0)
first_height_is_longest insns slots heights same some measured = measured 0 zero-le (spread_first insns slots same some)

-- the count that a forward pass left, or 0 if it left none
abbrev pub count_in : Option ℕ → ℕ
count_in None = 0
count_in (Some n) = n

-- the count that a forward pass left at the slot
abbrev pub most_calls_at : List (Option ℕ) → ℕ → ℕ
most_calls_at most k = count_in (slice_index_or most k None)

-- an instruction that is a counter call passes the test for counter calls
asks_of : (insn : Insn) → IsCounterCall insn → asks_counter insn ≡ true
asks_of (Call h) (inl e) = rw e refl
asks_of (Call h) (inr e) = rw e refl
asks_of _ counter = absurd counter

-- a program without faults; for each slot, the most counter calls on a path to the slot
module _ (slots : List (Option Insn)) (most : List (Option ℕ)) (faultless : IsFaultless slots)
    (counted : (k : ℕ) → IsMostCalls slots k (slice_index_or most k None)) where
  -- the count at an instruction is the most counter calls on a path to the instruction
  at_start : (k : ℕ) → IsStart slots k → IsGreatest (CallsOnWay slots k) (most_calls_at most k)
  at_start k begins = by (slice_index_or most k None) refl
    where
      by : (v : Option ℕ) → slice_index_or most k None ≡ v → IsGreatest (CallsOnWay slots k) (most_calls_at most k)
      by None e =
          absurd (faultless Unreached k (record { start = begins; none = subst (λ (o : Option ℕ). IsMostCalls slots k o) e (counted k) }))
      by (Some n) e =
          subst (λ (m : ℕ). IsGreatest (CallsOnWay slots k) m) (sym (ap count_in e))
          (subst (λ (o : Option ℕ). IsMostCalls slots k o) e (counted k))

  -- the control graph is sound too
  module _ (sound : IsGraphSound slots) where
    -- an edge adds to the count at least the counter calls of the instruction that the edge leaves
    along : (from to : ℕ) → IsEdge slots from to → most_calls_at most from + counter_calls_of (instruction_at slots from) ≤ most_calls_at most to
    along from to edge =
        let before = at_start from (record { insn = edge.insn; here = edge.here }) in
        (at_start to (sound.forward from to edge).1).bounds (most_calls_at most from + counter_calls_of (instruction_at slots from))
        (extend slots from to (most_calls_at most from) before.holds edge)

    -- the count at an instruction that calls a counter is below 16
    not_late : (from : ℕ) (insn : Insn) → instruction_at slots from ≡ Some insn → IsCounterCall insn
        → (most_calls_at most from < 16) ⊎ (16 ≤ most_calls_at most from)
        → most_calls_at most from < 16
    not_late from insn here counter (inl few) = few
    not_late from insn here counter (inr many) =
        absurd (faultless Counters from
        (late_by slots from (most_calls_at most from) insn here (asks_of insn counter)
        (at_start from (record { insn = insn; here = here })) many))

    -- an instruction that calls a counter makes one counter call
    one_more : (from : ℕ) (insn : Insn) → instruction_at slots from ≡ Some insn → IsCounterCall insn
        → counter_calls_of (instruction_at slots from) ≡ 1
    one_more from insn here counter = rw (here, asks_of insn counter) refl

    -- the counts never fall along an edge, grow at each counter call, and are below 16 at each counter call
    pub most_calls_are_made : BoundsCalls slots (most_calls_at most)
    most_calls_are_made = record {
      kept = λ from to edge. let more = along from to edge in omega arith;
      risen = λ from to edge.
          let more = along from to (record { insn = edge.insn; here = edge.here; leaves = edge.leaves }) in
          let one = one_more from edge.insn edge.here edge.asks in omega arith;
      few = λ from to edge. not_late from edge.insn edge.here edge.asks (cases_lt (most_calls_at most from) 16);
    }
