-- Edges of the control graph, the paths along them, and the targets of each instruction.
use Rattle.std.proofs.Common.{◌≡◌, ℕ, ◌+◌, ◌<◌, ◌≤◌, Bool, true, false, List, [], ◌∷◌, ◌++◌, Option, Some, None, length, refl, arith, sym, ap, subst, ◌⊎◌, inl, inr, ℤ, pos, ◌∙◌}
use Rattle.std.specs.Prelude.{IfSome, IfNone, if◌then◌else◌}
use Rattle.std.proofs.lemmas.Bool.{cases_lt}
use Rattle.std.proofs.lemmas.List.{get_or_past}
use Rattle.bq_insn.specs.declared.Insn.{Insn}
use Rattle.bq_insn.specs.declared.Insn.TheVariants.{Goto, Goto32, Branch, Exit}
use Rattle.bq_insn.specs.Slots.{slots_of}
use Rattle.bq_insn.proofs.OptionLemmas.{some_same, some_none}
use Rattle.bq_bpf.specs.Steps.{LeadsTo, instruction_at}
use Rattle.bq_verify.specs.Edges.{IsEdge, IsStart, IsForward}
use Rattle.bq_bpf.specs.Instructions.{Leaves, distance_of, goes_on}
use Rattle.bq_verify.specs.Paths.{IsPath, Path, path_end}
use Rattle.bq_verify.specs.Faults.{IsBadJump}
use Rattle.bq_verify.specs.Passes.{IsGraphSound, IsAmongTargets, LeadsOut}
use Rattle.bq_verify.specs.declared.targets.Targets.{Targets}

-- an instruction stands inside the program
inside_by : (slots : List (Option Insn)) (k : ℕ) (insn : Insn)
    → instruction_at slots k ≡ Some insn → (k < length slots) ⊎ (length slots ≤ k) → k < length slots
inside_by slots k insn here (inl lt) = lt
inside_by slots k insn here (inr le) = absurd (some_none _ insn here (get_or_past slots k None le))

-- an instruction begins inside the program
pub start_inside : (slots : List (Option Insn)) (k : ℕ) → IsStart slots k → k < length slots
start_inside slots k start = inside_by slots k start.insn start.here (cases_lt k (length slots))

-- an edge leaves a slot of the program
pub edge_inside : (slots : List (Option Insn)) (from to : ℕ) → IsEdge slots from to → from < length slots
edge_inside slots from to edge = inside_by slots from edge.insn edge.here (cases_lt from (length slots))

-- a jump that leads to no later instruction is bad
pub bad_jump : (slots : List (Option Insn)) (slot : ℕ) (insn : Insn) (distance : ℤ)
    → instruction_at slots slot ≡ Some insn → Some distance ≡ distance_of insn
    → ((to : ℕ) → LeadsTo slot distance to → slot < to → IsStart slots to → ⊥)
    → IsBadJump slots slot
bad_jump slots slot insn distance here jumps nowhere =
    record { insn = insn; here = here; distance = distance; jumps = sym jumps; nowhere = nowhere }

-- a path that goes on to a slot ends there
pub end_of-push : (from : ℕ) (rest : List ℕ) (t : ℕ) → path_end from (rest ++ t ∷ []) ≡ t
end_of-push from [] t = refl
end_of-push from (n ∷ rest) t = end_of-push n rest t

-- a path goes on by an edge from its end
pub IsPath-push : (slots : List (Option Insn)) (from : ℕ) (rest : List ℕ) (t : ℕ)
    → IsPath slots from rest → IsEdge slots (path_end from rest) t → IsPath slots from (rest ++ t ∷ [])
IsPath-push slots from [] t p e = (e, tt)
IsPath-push slots from (n ∷ rest) t p e = (p.0, IsPath-push slots n rest t p.1 e)

-- a path to a slot and an edge from there are a path
pub Path-push : (slots : List (Option Insn)) (a b c : ℕ) → Path slots a b → IsEdge slots b c → Path slots a c
Path-push slots a b c p edge = record {
  rest = p.rest ++ c ∷ [];
  is_path = IsPath-push slots a p.rest c p.is_path (subst (λ (n : ℕ). IsEdge slots n c) (sym p.ends) edge);
  ends = end_of-push a p.rest c;
}

-- where each edge goes forward a path has fewer edges than there are slots from its first one on
pub path_rises : (slots : List (Option Insn)) → IsForward slots → (from : ℕ) (rest : List ℕ) → IsPath slots from rest
    → IsStart slots (path_end from rest)
    → from + length rest < length slots
path_rises slots forward from [] p start = let lt = start_inside slots from start in omega arith
path_rises slots forward from (next ∷ rest) p start =
    let lt = (forward from next p.0).0 in
    let more = path_rises slots forward next rest p.1 start in
    omega arith

-- a jump leads to one slot
pub leads_same : (slot a b : ℕ) (distance : ℤ) → LeadsTo slot distance a → LeadsTo slot distance b → a ≡ b
leads_same slot a b distance p q = let e : pos a ≡ pos b = p ∙ sym q in cc

-- an instruction that neither goes on nor jumps is an EXIT
only_exit : (insn : Insn) → goes_on insn ≡ false → distance_of insn ≡ None → insn ≡ Exit
only_exit (Goto off) e f = cc
only_exit (Goto32 imm) e f = cc
only_exit (Branch w c d s off) e f = cc
only_exit Exit e f = refl
only_exit _ e f = cc

-- control goes nowhere from an EXIT
exit_leaves : (slot to : ℕ) → Leaves Exit slot to → ⊥
exit_leaves slot to (inl l) = let e = l.0 in cc
exit_leaves slot to (inr l) = let e = l.1 in cc

-- no edge leaves an EXIT
pub exit_is_last : (slots : List (Option Insn)) (slot to : ℕ) → instruction_at slots slot ≡ Some Exit → IsEdge slots slot to → ⊥
exit_is_last slots slot to exits edge =
    let same : edge.insn ≡ Exit = some_same _ _ _ edge.here exits in
    exit_leaves slot to (subst (λ (i : Insn). Leaves i slot to) same edge.leaves)

module _ (slots : List (Option Insn)) (slot : ℕ) (insn : Insn) (here : instruction_at slots slot ≡ Some insn) (targets : Targets) where
  -- the next target is given exactly when control goes on: it is the slot after the instruction, in both directions:
  next_of : (b : Bool) → goes_on insn ≡ b → targets.next ≡ (if goes_on insn then Some (slot + slots_of insn) else None)
      → (to : ℕ) → targets.next ≡ Some to
      → (goes_on insn ≡ true) × (to ≡ slot + slots_of insn)
  next_of true g e to f =
      let there : targets.next ≡ Some (slot + slots_of insn) = rw g at e in
      (g, some_same _ _ _ f there)
  next_of false g e to f =
      let there : targets.next ≡ None = rw g at e in
      absurd (some_none _ _ f there)

  next_from : targets.next ≡ (if goes_on insn then Some (slot + slots_of insn) else None) → (to : ℕ) → goes_on insn ≡ true
      → to ≡ slot + slots_of insn
      → targets.next ≡ Some to
  next_from e to g same = rw same (let there : targets.next ≡ Some (slot + slots_of insn) = rw g at e in there)

  -- the jump's target is given exactly when the instruction jumps: it is where the jump leads, in both directions:
  jump_from : (v : Option ℕ) → targets.jump ≡ v
      → IfSome v (λ to. (distance : ℤ) × (distance_of insn ≡ Some distance) × LeadsTo slot distance to)
      → IfNone v (distance_of insn ≡ None) → (to : ℕ) (distance : ℤ) → distance_of insn ≡ Some distance
      → LeadsTo slot distance to
      → targets.jump ≡ Some to
  jump_from None e some none to distance jumps leads = absurd (some_none _ _ jumps none)
  jump_from (Some t) e some none to distance jumps leads =
      let same : some.0 ≡ distance = some_same _ _ _ some.1 jumps in
      let leads' : LeadsTo slot distance t = subst (λ (d : ℤ). LeadsTo slot d t) same some.2 in
      e ∙ ap (λ (n : ℕ). Some n) (leads_same slot t to distance leads' leads)

  jump_of : (v : Option ℕ) → targets.jump ≡ v
      → IfSome v (λ to. (distance : ℤ) × (distance_of insn ≡ Some distance) × LeadsTo slot distance to)
      → (to : ℕ) → v ≡ Some to
      → (distance : ℤ) × (distance_of insn ≡ Some distance) × LeadsTo slot distance to
  jump_of None e some to f = absurd (some_none _ _ f refl)
  jump_of (Some t) e some to f =
      let same : t ≡ to = some_same _ _ _ refl f in
      (some.0, some.1, subst (λ (n : ℕ). LeadsTo slot some.0 n) same some.2)

  -- each slot to which the instruction leads is a target, and it leads to each target:
  each_by : targets.next ≡ (if goes_on insn then Some (slot + slots_of insn) else None)
      → IfSome targets.jump (λ to. (distance : ℤ) × (distance_of insn ≡ Some distance) × LeadsTo slot distance to)
      → IfNone targets.jump (distance_of insn ≡ None) → (to : ℕ) → Leaves insn slot to
      → IsAmongTargets targets to
  each_by next some none to (inl l) = inl (next_from next to l.0 l.1)
  each_by next some none to (inr l) = inr (jump_from targets.jump refl some none to l.0 l.1 l.2)

  only_by : targets.next ≡ (if goes_on insn then Some (slot + slots_of insn) else None)
      → IfSome targets.jump (λ to. (distance : ℤ) × (distance_of insn ≡ Some distance) × LeadsTo slot distance to)
      → (to : ℕ) → IsAmongTargets targets to
      → Leaves insn slot to
  only_by next some to (inl e) = inl (next_of (goes_on insn) refl next to e)
  only_by next some to (inr e) = inr (jump_of targets.jump refl some to e)

  -- an instruction that has no target is an EXIT
  none_by : (b : Bool) → goes_on insn ≡ b → (v : Option ℕ) → targets.jump ≡ v
      → targets.next ≡ (if goes_on insn then Some (slot + slots_of insn) else None) → IfNone v (distance_of insn ≡ None)
      → targets.next ≡ None → v ≡ None
      → insn ≡ Exit
  none_by true g v j next none e f =
      let there : targets.next ≡ Some (slot + slots_of insn) = rw g at next in
      absurd (some_none _ _ there e)
  none_by false g None j next none e f = only_exit insn g none
  none_by false g (Some t) j next none e f = absurd (some_none _ t refl f)

  -- the next slot and the target of the jump are the targets of the edges
  pub leads_out : targets.next ≡ (if goes_on insn then Some (slot + slots_of insn) else None)
      → IfSome targets.jump (λ to. (distance : ℤ) × (distance_of insn ≡ Some distance) × LeadsTo slot distance to)
      → IfNone targets.jump (distance_of insn ≡ None)
      → LeadsOut slots slot targets
  leads_out next some none = record {
    each = λ to edge.
        let same : edge.insn ≡ insn = some_same _ _ _ edge.here here in
        each_by next some none to (subst (λ (i : Insn). Leaves i slot to) same edge.leaves);
    only = λ to of. record { insn = insn; here = here; leaves = only_by next some to of };
    none = λ e f.
        let exit : insn ≡ Exit = none_by (goes_on insn) refl targets.jump refl next none e f in
        here ∙ ap (λ (i : Insn). Some i) exit;
  }

-- a target is the slot of a later instruction
pub target_later : (slots : List (Option Insn)) (slot : ℕ) (targets : Targets)
    → IsGraphSound slots → LeadsOut slots slot targets → (to : ℕ) → IsAmongTargets targets to
    → (slot < to) × IsStart slots to
target_later slots slot targets sound out to of = sound.forward slot to (out.only to of)

-- a target is a slot of the program
pub target_inside : (slots : List (Option Insn)) (slot : ℕ) (targets : Targets)
    → IsGraphSound slots → LeadsOut slots slot targets → (to : ℕ) → IsAmongTargets targets to → to < length slots
target_inside slots slot targets sound out to of = start_inside slots to (target_later slots slot targets sound out to of).1
