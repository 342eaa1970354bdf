-- The forward order that the search finds, and how long its copy is.
use Rattle.std.proofs.Common.{◌≡◌, ℕ, ◌+◌, ◌<◌, ◌≤◌, inl, inr, Bool, true, false, List, [], ◌∷◌, length, Option, Some, None, refl, arith, sym, ap, ◌∙◌, subst}
use Rattle.std.specs.Prelude.{if◌then◌else◌, slice_set}
use Rattle.std.proofs.lemmas.Bool.{eqb-true, cases_eq}
use Rattle.std.proofs.lemmas.List.{get_or-set_other}
use Rattle.bq_insn.specs.declared.Insn.{Insn}
use Rattle.bq_insn.specs.Slots.{slots_of}
use Rattle.bq_insn.proofs.OptionLemmas.{some_none}
use Rattle.bq_bpf.specs.Instructions.{goes_on}
use Rattle.bq_verify.specs.Edges.{IsEdge, IsStart}
use Rattle.bq_verify.specs.Paths.{IsPath, Path, path_end}
use Rattle.bq_import.specs.Backward.{IsFront}
use Rattle.bq_import.specs.Lengths.{IsSlotIn, run_slots, width_at, width_of_slot}
use Rattle.bq_import.specs.Orders.{HasLongOrder, IsForwardOrder, begins_with, slots_in_front}
use Rattle.bq_import.specs.Search.{IsCounted, HasCopy, IsSlotReady, Suffices, copy_place}
use Rattle.bq_import.proofs.LengthLemmas.{run_alone}
use Rattle.bq_import.proofs.RoomLemmas.{one_slot}
use Rattle.bq_import.proofs.StackLemmas.{now_set, still_set}

-- from the instructions of a forward order control stays in it
goes_in : (slots : List (Option Insn)) (order : List ℕ) → IsForwardOrder slots order → (from next : ℕ) → IsSlotIn order from
    → IsEdge slots from next
    → IsSlotIn order next
goes_in slots [] forward from next at edge = absurd at
goes_in slots (first ∷ later) forward from next (inl e) edge = inr (forward.3 next (subst (λ (n : ℕ). IsEdge slots n next) e edge))
goes_in slots (first ∷ later) forward from next (inr more) edge = inr (goes_in slots later forward.4 from next more edge)

-- a path that begins in a forward order ends in it
stays_in : (slots : List (Option Insn)) (order : List ℕ) → IsForwardOrder slots order
    → (from : ℕ) (way : List ℕ) → IsSlotIn order from → IsPath slots from way
    → IsSlotIn order (path_end from way)
stays_in slots order forward from [] at path = at
stays_in slots order forward from (next ∷ way) at (edge, path) =
    stays_in slots order forward next way (goes_in slots order forward from next at edge) path

-- an order that begins with a slot has it in front
begins_so : (order : List ℕ) (slot : ℕ) → begins_with order slot ≡ true → (later : List ℕ) × (order ≡ slot ∷ later)
begins_so [] slot e = absurd (let no : ⊥ = cc in no)
begins_so (first ∷ later) slot e = (later, ap (λ (n : ℕ). n ∷ later) (eqb-true first slot e))

-- two lists that are the same begin with the same slot
same_first : (a b : ℕ) (x y : List ℕ) → a ∷ x ≡ b ∷ y → a ≡ b
same_first a b x y e = ap first_of e
  where
    first_of : List ℕ → ℕ
    first_of [] = 0
    first_of (n ∷ rest) = n

module _ (old back : List (Option Insn)) (origins : List ℕ) (places : List (Option ℕ)) (counted : IsCounted old back origins places) where
  -- the first instruction, once it is in place, stands in front: control comes from it to all others
  pub first_in_front : HasCopy places 0 → IsFront back origins 0
  first_in_front done = by counted.order refl
    where
      by : (order : List ℕ) → counted.order ≡ order → IsFront back origins 0
      by [] e = absurd (subst (λ (o : List ℕ). IsSlotIn o 0) e (counted.has 0 done))
      by (first ∷ later) e =
          let forward = subst (λ (o : List ℕ). IsForwardOrder old o) e counted.forward in
          elim (subst (λ (o : List ℕ). IsSlotIn o 0) e (counted.has 0 done)) [
            | inl same ↦ subst (λ (n : ℕ). IsFront back origins n) (sym same) (counted.front first later e)
            | inr at ↦
                let way = forward.1 in
                absurd (forward.2 (subst (λ (n : ℕ). IsSlotIn later n) way.ends (stays_in old later forward.4 0 way.rest at way.is_path)))
          ]

  module _ (slot : ℕ) (start : IsStart old slot) where
    share_is : (b : Bool) → begins_with counted.order (slot + width_at old slot) ≡ b
        → slots_in_front old slot counted.order ≡ (if b then width_at old slot else run_slots old slot)
    share_is b e = ap (λ (v : Bool). if v then width_at old slot else run_slots old slot) e

    -- its share of slots is enough to put the instruction in front
    pub share_suffices : Suffices old back origins slot (slots_in_front old slot counted.order)
    share_suffices = by (goes_on start.insn) refl (begins_with counted.order (slot + width_at old slot)) refl
      where
        wide : width_at old slot ≡ slots_of start.insn
        wide = ap width_of_slot start.here

        by : (on : Bool) → goes_on start.insn ≡ on → (b : Bool) → begins_with counted.order (slot + width_at old slot) ≡ b
            → Suffices old back origins slot (slots_in_front old slot counted.order)
        by on e false begins = inl (let is = share_is false begins in omega (arith, is))
        by true e true begins =
            let is = share_is true begins in
            let there = begins_so counted.order (slot + width_at old slot) begins in
            inr (
              slot + width_at old slot,
              record { insn = start.insn; here = start.here; on = e; is = ap (λ (n : ℕ). slot + n) wide },
              counted.front (slot + width_at old slot) there.0 there.1,
              omega (arith, is),
            )
        by false e true begins =
            let is = share_is true begins in
            let alone = run_alone old slot start.insn start.here e in
            let one = one_slot start.insn e in
            let same = wide in
            inl (omega (arith, is, alone, one, same))

    module _ (way : Path old 0 slot) (undone : copy_place places slot ≡ None) (ready : IsSlotReady old places slot) where
      one_more : IsForwardOrder old (slot ∷ counted.order)
      one_more = (
        start,
        way,
        λ at. let done = counted.only slot at in some_none _ done.0 done.1 undone,
        λ to edge. counted.has to (ready to edge),
        counted.forward,
      )

      -- an order is too long whose copy does not fit with this instruction
      pub too_long : 4096 < length back + slots_in_front old slot counted.order → HasLongOrder old
      too_long over =
          let short = counted.short in
          record { order = slot ∷ counted.order; forward = one_more; long = omega (arith, short, over) }

      -- the order once the instruction is in front
      pub counted_more : (place : ℕ) → slot < length places → (back' : List (Option Insn)) (origins' : List ℕ)
          → IsFront back' origins' slot → length back' ≤ length back + slots_in_front old slot counted.order
          → IsCounted old back' origins' (slice_set places slot (Some place))
      counted_more place inside back' origins' front grown = record {
        order = slot ∷ counted.order;
        forward = one_more;
        has = λ s done. elim (cases_eq s slot) [
          | inl e ↦ inl e
          | inr apart ↦ inr (counted.has s (done.0, sym (get_or-set_other places slot s (Some place) None apart) ∙ done.1))
        ];
        only = λ s at. elim at [
          | inl e ↦ subst (λ (n : ℕ). HasCopy (slice_set places slot (Some place)) n) (sym e) (now_set places slot place inside)
          | inr more ↦ still_set places slot place inside s (counted.only s more)
        ];
        front = λ first later e. subst (λ (n : ℕ). IsFront back' origins' n) (same_first slot first counted.order later e) front;
        short = let short = counted.short in omega (arith, short, grown);
      }
