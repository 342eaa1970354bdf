-- A run of instructions that is put in front from its end.
use Rattle.std.proofs.Common.{◌≡◌, ℕ, ◌+◌, ◌<◌, ◌≤◌, List, length, Option, Some, None, refl, arith, sym, ap, ◌∙◌, subst, inl, inr}
use Rattle.std.proofs.lemmas.Bool.{cases_lt, cases_order}
use Rattle.bq_insn.specs.declared.Insn.{Insn}
use Rattle.bq_insn.specs.Slots.{slots_of}
use Rattle.bq_bpf.specs.Steps.{instruction_at}
use Rattle.bq_verify.specs.Edges.{IsEdge, IsStart}
use Rattle.bq_insn.proofs.OptionLemmas.{some_same}
use Rattle.bq_insn.proofs.CountLemmas.{slots_positive}
use Rattle.bq_verify.specs.declared.targets.Targets.{Targets}
use Rattle.bq_import.specs.declared.fault.Disorder.{Disorder}
use Rattle.bq_import.specs.Backward.{IsFront, IsLengthened}
use Rattle.bq_import.specs.Faults.{IsFull, IsLinked}
use Rattle.bq_import.specs.Lengths.{width_at, width_of_slot}
use Rattle.bq_import.specs.Search.{AreClosed, AreTargets, IsNextSlot, IsSlotReady, Suffices}
use Rattle.bq_import.specs.Running.{HasPlaceBefore, IsPutInFront, IsPutting, IsRunOfSlots}
use Rattle.bq_import.proofs.LengthLemmas.{run_has, run_next}
use Rattle.bq_import.proofs.RoomLemmas.{full_more}

-- the next slot among the targets is the next slot of the instruction
pub next_of : (slots : List (Option Insn)) (slot : ℕ) (insn : Insn) (targets : Targets) (next : ℕ)
    → instruction_at slots slot ≡ Some insn → AreTargets slots slot insn targets → targets.next ≡ Some next
    → IsNextSlot slots slot next
next_of slots slot insn targets next here are is = record { insn = insn; here = here; on = are.on next is; is = are.behind next is }

-- an instruction begins at the next slot
pub next_start : (slots : List (Option Insn)) (slot next : ℕ) → IsLinked slots → IsNextSlot slots slot next → IsStart slots next
next_start slots slot next linked n = subst (λ (k : ℕ). IsStart slots k) (sym n.is) ((linked.leads slot n.insn n.here).0 n.on)

-- control goes to the next slot
pub next_edge : (slots : List (Option Insn)) (slot next : ℕ) → IsNextSlot slots slot next → IsEdge slots slot next
next_edge slots slot next n = record { insn = n.insn; here = n.here; leaves = inl (n.on, n.is) }

-- an instruction has only one next slot
pub next_same : (slots : List (Option Insn)) (slot a b : ℕ) → IsNextSlot slots slot a → IsNextSlot slots slot b → a ≡ b
next_same slots slot a b p q =
    let same : p.insn ≡ q.insn = some_same _ p.insn q.insn p.here q.here in
    p.is ∙ (ap (λ (i : Insn). slot + slots_of i) same ∙ sym q.is)

-- a run and its next instruction are a run
pub run_on : (slots : List (Option Insn)) (places : List (Option ℕ)) (slot last next : ℕ)
    → IsLinked slots → AreClosed slots places → IsRunOfSlots slots places slot last → IsNextSlot slots last next
    → IsRunOfSlots slots places slot next
run_on slots places slot last next linked closed run n =
    let begins = run.begins in
    let is = n.is in
    let positive = slots_positive n.insn in
    let done = run.ready last begins (omega arith) run.start next (next_edge slots last next n) in
    record {
      begins = omega (arith, begins, is, positive);
      start = next_start slots last next linked n;
      onward = λ j from below at. elim (cases_order j last) [
        | inl same ↦ (next, subst (λ (k : ℕ). IsNextSlot slots k next) (sym same) n, omega arith)
        | inr (inl before) ↦ let o = run.onward j from before at in let le = o.2 in (o.0, o.1, omega (arith, le, is))
        | inr (inr after) ↦ absurd (linked.gaps last n.insn n.here j after (omega (arith, below, is)) at)
      ];
      ready = λ j from to at. elim (cases_lt last j) [
        | inl after ↦ elim (cases_order j next) [
          | inl same ↦ subst (λ (k : ℕ). IsSlotReady slots places k) (sym same) (λ to e. closed next to done e)
          | inr (inl below) ↦ absurd (linked.gaps last n.insn n.here j after (omega (arith, below, is)) at)
          | inr (inr past) ↦ absurd (omega (arith, past, to))
        ]
        | inr before ↦ run.ready j from (omega (arith, before)) at
      ];
      ends = run_next slots last next linked n ∙ run.ends;
    }

-- a run of instructions of a linked program, which is put in front of the copy so far
module _ (maps : ℕ) (old before : List (Option Insn)) (origins : List ℕ) (places : List (Option ℕ)) (linked : IsLinked old)
    (slot last : ℕ) (run : IsRunOfSlots old places slot last) where
  -- once the last instruction is in front, the run is in front as far down as this instruction
  pub first_put : (after : List (Option Insn)) (origins' : List ℕ)
      → IsPutInFront maps old before origins after origins' last
      → IsPutting maps old before origins last last after origins'
  first_put after origins' put =
      let grown = put.grown in
      record {
        built = put.built;
        keeps = put.keeps;
        front = λ k from to at least.
            let same : last ≡ k = omega (arith, from, to) in
            subst (λ (n : ℕ). IsFront after origins' n) same (put.front run.start);
        room = record { from = last; above = omega arith; start = run.start; fits = omega (arith, grown) };
      }

  -- slots that suffice for the first instruction suffice for the run
  pub fits_in : ((next : ℕ) → IsNextSlot old slot next → IsFront before origins next → last ≡ slot)
      → (most : ℕ) → Suffices old before origins slot most
      → last + width_at old last ≤ slot + most
  fits_in short most (inl le) = let ends = run.ends in let has = run_has old last linked run.start in omega (arith, le, ends, has)
  fits_in short most (inr (next, n, front, wide)) =
      let same = short next n front in
      let here : width_at old last ≡ width_at old slot = ap (width_at old) same in
      omega (arith, same, here, wide)

  -- if there is no room for the last instruction, the run has no room
  pub first_full : (most : ℕ) (d : Disorder) → last + width_at old last ≤ slot + most
      → IsFull (length before + width_at old last) d
      → IsFull (length before + most) d
  first_full most d fits full =
      let begins = run.begins in
      full_more (length before + width_at old last) (length before + most) d (omega (arith, fits, begins)) full

  -- one slot of the run; the run is in front as far down as the slot after this one
  module _ (after : List (Option Insn)) (origins' : List ℕ) (at : ℕ) (from : slot ≤ at) (below : at < last)
      (p : IsPutting maps old before origins last (at + 1) after origins') where
    -- the next instruction of this slot is in front
    pub next_front : (next : ℕ) → IsNextSlot old at next → IsFront after origins' next
    next_front next n =
        let o = run.onward at from below (record { insn = n.insn; here = n.here }) in
        let same = next_same old at o.0 next o.1 n in
        let le = o.2 in
        let is = n.is in
        let positive = slots_positive n.insn in
        p.front next (omega (arith, is, positive)) (omega (arith, le, same)) (next_start old at next linked n)
        (λ j above under s. linked.gaps at n.insn n.here j (omega (arith, above)) (omega (arith, under, is)) s)

    -- the instruction at this slot ends at or before the one from which the room is counted
    room_at : (o : Option Insn) → instruction_at old at ≡ o → at + width_of_slot o ≤ p.room.from
    room_at None e = let above = p.room.above in omega (arith, above)
    room_at (Some insn) e =
        let above = p.room.above in
        elim (cases_lt p.room.from (at + slots_of insn)) [
          | inl within ↦ absurd (linked.gaps at insn e p.room.from (omega (arith, above)) within p.room.start)
          | inr past ↦ omega (arith, past)
        ]

    -- if there is no room for the instruction at this slot, the run has no room
    pub next_full : (most : ℕ) (d : Disorder) → last + width_at old last ≤ slot + most
        → IsFull (length after + width_at old at) d
        → IsFull (length before + most) d
    next_full most d enough full =
        let fits = p.room.fits in
        let room = room_at (instruction_at old at) refl in
        full_more (length after + width_at old at) (length before + most) d (omega (arith, enough, fits, room, from)) full

    -- with the instruction at this slot in front, there is room for what comes before it
    room_more : (o : Option Insn) (more : List (Option Insn))
        → instruction_at old at ≡ o → length more ≡ length after + width_of_slot o
        → HasPlaceBefore old at (length before + (last + width_at old last)) more
    room_more None more e grown =
        let above = p.room.above in
        let fits = p.room.fits in
        record { from = p.room.from; above = omega (arith, above); start = p.room.start; fits = omega (arith, fits, grown) }
    room_more (Some insn) more e grown =
        let fits = p.room.fits in
        let room = room_at (Some insn) e in
        record { from = at; above = omega arith; start = record { insn = insn; here = e }; fits = omega (arith, fits, room, grown) }

    -- with the instruction at this slot in front, the run is in front as far down as this slot
    pub next_put : (more : List (Option Insn)) (origins'' : List ℕ)
        → IsPutInFront maps old after origins' more origins'' at
        → IsPutting maps old before origins last at more origins''
    next_put more origins'' put = record {
      built = put.built;
      keeps = λ place f s. put.keeps place f (p.keeps place f s);
      front = λ k low to s least. elim (cases_order at k) [
        | inl here ↦ subst (λ (n : ℕ). IsFront more origins'' n) here (put.front (subst (λ (n : ℕ). IsStart old n) (sym here) s))
        | inr (inl later) ↦
            let same = put.same (λ start. least at (omega arith) later start) in
            let front = p.front k (omega (arith, later)) to s (λ j above under start. least j (omega (arith, above)) under start) in
            subst (λ (xs : List (Option Insn)). IsFront xs origins'' k) (sym same.0)
            (subst (λ (ys : List ℕ). IsFront after ys k) (sym same.1) front)
        | inr (inr before) ↦ absurd (omega (arith, before, low))
      ];
      room = room_more (instruction_at old at) more refl put.grown;
    }

  -- a run that is in front as far down as its first slot lengthened the copy
  pub all_put : (after : List (Option Insn)) (origins' : List ℕ) (bound : ℕ)
      → bound ≡ slot → IsStart old slot → IsPutting maps old before origins last bound after origins'
      → IsLengthened maps old before origins after origins' slot
  all_put after origins' bound is start p = record {
    built = p.built;
    keeps = p.keeps;
    front =
        p.front slot (omega (arith, is)) run.begins start
        (λ j above under s. absurd (let never : ⊥ = omega (arith, above, under, is) in never));
  }

  -- the copy grew by no more than the slots from the first slot to the end of the last instruction
  pub all_fits : (after : List (Option Insn)) (origins' : List ℕ) (bound : ℕ)
      → bound ≡ slot → IsPutting maps old before origins last bound after origins'
      → length after + slot ≤ length before + (last + width_at old last)
  all_fits after origins' bound is p = let above = p.room.above in let fits = p.room.fits in omega (arith, above, fits, is)
