-- Where control goes, and that a copy of what control comes to has nothing else.
use Rattle.std.proofs.Common.{◌≡◌, ℕ, ◌+◌, ◌-◌, ◌≤◌, Bool, true, List, Option, Some, length, reverse, refl, arith, sym, ap, ◌∙◌, subst, inl, inr, ℤ}
use Rattle.std.specs.Prelude.{slice_index}
use Rattle.std.proofs.lemmas.List.{length-reverse}
use Rattle.bq_insn.specs.declared.Insn.{Insn}
use Rattle.bq_insn.specs.Laws.{AllFit}
use Rattle.bq_insn.specs.Slots.{slots_of, spread}
use Rattle.bq_insn.specs.Spelling.{is_well_formed}
use Rattle.bq_bpf.specs.Steps.{LeadsTo, instruction_at}
use Rattle.bq_bpf.specs.Instructions.{distance_of}
use Rattle.bq_verify.specs.Paths.{path_end}
use Rattle.bq_verify.specs.declared.targets.Targets.{Targets}
use Rattle.bq_insn.proofs.OptionLemmas.{some_same, some_none}
use Rattle.bq_verify.proofs.EdgeLemmas.{start_inside}
use Rattle.bq_verify.proofs.SlotLemmas.{few_slots}
use Rattle.bq_import.specs.Copies.{IsCopy, IsCopyOfSlot, copied}
use Rattle.bq_import.specs.Backward.{IsFront}
use Rattle.bq_import.specs.Faults.{AllForward, IsDisorder, IsLinked, IsSearchFault, LeadsWell}
use Rattle.bq_import.specs.Search.{AreTargets}
use Rattle.bq_import.specs.Keeping.{AllReached, AreReached, IsKeeping}
use Rattle.bq_import.specs.declared.fault.Disorder.{Disorder}
use Rattle.bq_import.specs.declared.fault.Disorder.TheVariants.{Outside, Ends, Loop, Long, OutOfMemory}
use Rattle.bq_import.proofs.OrderLemmas.{is_copy, stands_here}
use Rattle.bq_import.proofs.PathLemmas.{copy_has_shape, distance_cases, goes_forward, path_ahead}
use Rattle.bq_import.proofs.KeepLemmas.{spread_has_gaps}
use Rattle.bq_import.proofs.LengthLemmas.{long_enough}
use Rattle.bq_import.proofs.ProgramLemmas.{are_good}

-- an instruction that jumps to no later slot stands in no program in which control only goes forward
pub jump_backward : (slots : List (Option Insn)) (slot : ℕ) (insn : Insn) (targets : Targets) (far : ℕ)
    → AreTargets slots slot insn targets → targets.jump ≡ Some far → far ≤ slot → AllForward slots → ⊥
jump_backward slots slot insn targets far are is back forward =
    let later = forward slot far (are.out.only far (inr is)) in
    omega (arith, later, back)

-- what the search finds is wrong with a program in which some jump goes back
pub wrong_by_search : (slots : List (Option Insn)) (d : Disorder) → (AllForward slots → ⊥) → IsSearchFault slots d → IsDisorder slots d
wrong_by_search slots (Outside slot) back wrong = absurd wrong
wrong_by_search slots (Ends slot) back wrong = absurd wrong
wrong_by_search slots (Loop from to) back wrong = wrong
wrong_by_search slots Long back wrong = (wrong.0, back, wrong.1, wrong.2, long_enough slots wrong.0 wrong.1)
wrong_by_search slots OutOfMemory back wrong = tt

-- once all is kept the first instruction is in front
pub kept_front : (maps : ℕ) (old : List (Option Insn)) (found : List Bool) (bound : ℕ) (back : List (Option Insn))
    (origins : List ℕ) (places : List (Option ℕ))
    → AreReached old found → bound ≡ 0 → IsKeeping maps old found bound back origins places
    → IsFront back origins 0
kept_front maps old found bound back origins places reached none at =
    at.front 0 (omega (arith, none)) reached.begins (λ j above below e. omega (arith, below))

-- what is kept has only what control comes to
pub all_reached : (maps : ℕ) (old : List (Option Insn)) (found : List Bool) (back : List (Option Insn))
    (origins : List ℕ) (places : List (Option ℕ))
    → AreReached old found → IsKeeping maps old found 0 back origins places → AllReached (reverse back)
all_reached maps old found back origins places reached at slot start =
    let built = at.built in
    let long = length-reverse back in
    let front : IsFront back origins 0 = at.front 0 (omega arith) reached.begins (λ j above below e. omega (arith, below)) in
    let copy : IsCopy maps old (reverse back) (reverse origins) = is_copy maps old back origins built front in
    let from : ℕ = slice_index (reverse origins) slot in
    let inside = start_inside (reverse back) slot start in
    let here : IsCopyOfSlot back origins (length back - 1 - slot) (slice_index (reverse origins) slot) =
    stands_here maps old back origins built slot (length back - 1 - slot) (slice_index (reverse origins) slot)
    (omega (arith, inside, long)) (record { start = start; origin_is = refl }) in
    let way =
    reached.ways (slice_index (reverse origins) slot)
    (at.comes (length back - 1 - slot) (slice_index (reverse origins) slot) here) in
    let ahead = path_ahead maps old (reverse back) (reverse origins) copy 0 0 way.rest copy.first way.is_path in
    let stands : IsCopyOfSlot (reverse back) (reverse origins) (path_end 0 ahead.way) (slice_index (reverse origins) slot) =
    subst (λ (n : ℕ). IsCopyOfSlot (reverse back) (reverse origins) (path_end 0 ahead.way) n) way.ends ahead.stands in
    let inside' = start_inside (reverse back) (path_end 0 ahead.way) stands.start in
    let there : IsCopyOfSlot back origins (length back - 1 - path_end 0 ahead.way) (slice_index (reverse origins) slot) =
    stands_here maps old back origins built (path_end 0 ahead.way) (length back - 1 - path_end 0 ahead.way)
    (slice_index (reverse origins) slot) (omega (arith, inside', long)) stands in
    let same : length back - 1 - path_end 0 ahead.way ≡ length back - 1 - slot =
    some_same _ (length back - 1 - path_end 0 ahead.way) (length back - 1 - slot) (at.once _ _ there) (at.once _ _ here) in
    record { rest = ahead.way; is_path = ahead.is_path; ends = omega (arith, same, inside, inside', long) }

-- in a copy control goes to instructions only, and only to later ones
module _ (maps : ℕ) (old : List (Option Insn)) (insns : List Insn) (origins : List ℕ)
    (copy : IsCopy maps old (spread insns) origins) (whole : is_well_formed insns ≡ true) (fits : AllFit insns) where
  -- no jump of a copy leads backward
  pub copy_forward : AllForward (spread insns)
  copy_forward from to edge = ((goes_forward maps old (spread insns) origins copy).0 from to edge).0

  -- each instruction of a copy goes on only to an instruction, and jumps only to one
  well : (slot : ℕ) (insn : Insn) → instruction_at (spread insns) slot ≡ Some insn → LeadsWell (spread insns) slot insn
  well slot insn here =
      let at = copy.each slot (slice_index origins slot) (record { start = record { insn = insn; here = here }; origin_is = refl }) in
      let shape = copy_has_shape maps at.original at.distance in
      let same : insn ≡ copied maps at.original at.distance = some_same _ insn (copied maps at.original at.distance) here at.copy in (
        λ on.
            ((goes_forward maps old (spread insns) origins copy).0 slot (slot + slots_of insn)
            (record { insn = insn; here = here; leaves = inl (on, refl) })).1,
        λ far is. elim (distance_cases (distance_of at.original)) [
          | inl none ↦ absurd (some_none _ far is (ap distance_of same ∙ shape.stays none))
          | inr (d, jumps) ↦
              let alike = at.jumps d jumps in
              let near : at.distance ≡ far = some_same _ at.distance far (shape.jumps d jumps) (ap distance_of (sym same) ∙ is) in
              (alike.landing, subst (λ (z : ℤ). LeadsTo slot z alike.landing) near alike.lands, alike.stands.start)
        ],
      )

  -- each jump of a copy leads to an instruction
  pub copy_linked : IsLinked (spread insns)
  copy_linked = record { good = are_good insns whole fits; gaps = spread_has_gaps insns; short = few_slots insns whole; leads = well }
