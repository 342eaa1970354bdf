-- The height of a slot: the number of instructions on the longest path from it to an EXIT.
use Rattle.std.proofs.Common.{◌≡◌, ◌≢◌, ℕ, suc, ◌+◌, ◌<◌, ◌≤◌, max, Bool, true, false, List, [], ◌∷◌, Option, Some, None, length, refl, arith, sym, ap, subst, zero-le, ◌⊎◌, inl, inr, ◌∙◌, get_or, set, get_or-set_same, get_or-set_other}
use Rattle.std.specs.Prelude.{slice_index, slice_set}
use Rattle.std.proofs.lemmas.Bool.{cases_lt}
use Rattle.std.proofs.lemmas.Bool.Decides.{eqb_tells}
use Rattle.bq_insn.specs.declared.Insn.{Insn}
use Rattle.bq_insn.specs.declared.Insn.TheVariants.{Exit}
use Rattle.bq_bpf.specs.Steps.{instruction_at}
use Rattle.bq_verify.specs.Edges.{IsEdge, IsStart}
use Rattle.bq_verify.specs.Paths.{IsPath, path_end, PathOut, IsGreatest}
use Rattle.bq_verify.specs.Passes.{IsGraphSound, IsAmongTargets, LeadsOut, Measured, height_to}
use Rattle.bq_verify.specs.declared.targets.Targets.{Targets}
use Rattle.bq_verify.proofs.EdgeLemmas.{path_rises, target_later}

module _ (slots : List (Option Insn)) (sound : IsGraphSound slots) where
  -- a path out is no longer than what is left of the program
  pub out_short : (k n : ℕ) → PathOut slots k n → n + k ≤ length slots
  out_short k n out =
      let less = path_rises slots sound.forward k out.rest out.is_path (record { insn = Exit; here = out.exits }) in
      omega (arith, out.count_is)

  -- the length of a path out may be written as any equal number
  recount : (k n m : ℕ) → m ≡ n → PathOut slots k n → PathOut slots k m
  recount k n m same out = record { rest = out.rest; is_path = out.is_path; exits = out.exits; count_is = same ∙ out.count_is }

  module _ (slot : ℕ) (targets : Targets) (out : LeadsOut slots slot targets) (heights : List ℕ)
      (measured : Measured slots (slot + 1) heights) where
    -- the height of a target is the length of its longest path out, and one more is that of a path out from the slot:
    best : (to : ℕ) → IsAmongTargets targets to → IsGreatest (PathOut slots to) (slice_index heights to)
    best to of =
        let later = target_later slots slot targets sound out to of in
        measured to (omega (arith, later.0)) later.1

    via : (to : ℕ) → IsAmongTargets targets to → PathOut slots slot (1 + slice_index heights to)
    via to of =
        let on = (best to of).holds in
        record { rest = to ∷ on.rest; is_path = (out.only to of, on.is_path); exits = on.exits; count_is = omega (arith, on.count_is) }

    -- the height at a target, or 0 if there is no target, is at most the number of slots
    small : (v : Option ℕ) → ((to : ℕ) → v ≡ Some to → IsAmongTargets targets to) → height_to heights v ≤ length slots
    small None of = omega arith
    small (Some to) of = let short = out_short to _ (best to (of to refl)).holds in omega arith

    -- no height is above the number of slots
    pub heights_small : (height_to heights targets.next ≤ length slots) × (height_to heights targets.jump ≤ length slots)
    heights_small = (small targets.next (λ to e. inl e), small targets.jump (λ to e. inr e))

    -- some path out is one longer than the longer of those from the targets
    holds_by : (n j : Option ℕ) → targets.next ≡ n → targets.jump ≡ j
        → PathOut slots slot (1 + max (height_to heights n) (height_to heights j))
    holds_by None None e f = record { rest = []; is_path = tt; exits = out.none e f; count_is = refl }
    holds_by (Some a) None e f = recount slot _ _ (omega arith) (via a (inl e))
    holds_by None (Some b) e f = recount slot _ _ (omega arith) (via b (inr f))
    holds_by (Some a) (Some b) e f = by (cases_lt (slice_index heights a) (slice_index heights b))
      where
        by : (slice_index heights a < slice_index heights b) ⊎ (slice_index heights b ≤ slice_index heights a)
            → PathOut slots slot (1 + max (slice_index heights a) (slice_index heights b))
        by (inl lt) = recount slot _ _ (omega arith) (via b (inr f))
        by (inr le) = recount slot _ _ (omega arith) (via a (inl e))

    -- the height at a target that is given is the one in the list
    height_is : (to : ℕ) (v : Option ℕ) → v ≡ Some to → height_to heights v ≡ slice_index heights to
    height_is to v e = ap (λ (o : Option ℕ). height_to heights o) e

    -- no path out is more than one longer than the longer of those from the targets:
    bound_by : (to n : ℕ) → n ≤ slice_index heights to → IsAmongTargets targets to
        → n ≤ max (height_to heights targets.next) (height_to heights targets.jump)
    bound_by to n le (inl e) = let same = height_is to targets.next e in omega arith
    bound_by to n le (inr e) = let same = height_is to targets.jump e in omega arith

    bounds_by : (m : ℕ) (rest : List ℕ) → IsPath slots slot rest → instruction_at slots (path_end slot rest) ≡ Some Exit
        → m ≡ suc (length rest)
        → m ≤ 1 + max (height_to heights targets.next) (height_to heights targets.jump)
    bounds_by m [] p exits e = omega arith
    bounds_by m (next ∷ rest) p exits e =
        let of = out.each next p.0 in
        let le =
        bound_by next (suc (length rest))
        ((best next of).bounds _ (record { rest = rest; is_path = p.1; exits = exits; count_is = refl })) of in
        omega arith

    -- the longest path out is one longer than the longer of those from the targets
    pub greatest_out : IsGreatest (PathOut slots slot) (1 + max (height_to heights targets.next) (height_to heights targets.jump))
    greatest_out = record {
      holds = holds_by targets.next targets.jump refl refl;
      bounds = λ m path. bounds_by m path.rest path.is_path path.exits path.count_is;
    }

-- after the height of a slot is set to its longest path out, each height from there on is right
measured_at : (slots : List (Option Insn)) (slot h k : ℕ) (heights : List ℕ) (b : Bool)
    → slot < length heights → Measured slots (slot + 1) heights → (IsStart slots slot → IsGreatest (PathOut slots slot) h)
    → slot ≤ k → IsStart slots k → ((b ≡ true) × (k ≡ slot)) ⊎ ((b ≡ false) × (k ≢ slot))
    → IsGreatest (PathOut slots k) (get_or (set heights slot h) k 0)
measured_at slots slot h k heights b lt measured here le start (inl (_, same)) =
    subst (λ (n : ℕ). IsStart slots n → IsGreatest (PathOut slots n) (get_or (set heights slot h) n 0)) (sym same)
    (λ s. subst (λ (n : ℕ). IsGreatest (PathOut slots slot) n) (sym (get_or-set_same heights slot h 0 lt)) (here s)) start
measured_at slots slot h k heights b lt measured here le start (inr (_, other)) =
    subst (λ (n : ℕ). IsGreatest (PathOut slots k) n) (sym (get_or-set_other heights slot k h 0 other)) (measured k (omega arith) start)

-- a height that is right may be kept, and the slots from there on are measured
pub measured_set : (slots : List (Option Insn)) (slot h : ℕ) (heights : List ℕ)
    → slot < length heights → Measured slots (slot + 1) heights → (IsStart slots slot → IsGreatest (PathOut slots slot) h)
    → Measured slots slot (slice_set heights slot h)
measured_set slots slot h heights lt measured here k le start =
    measured_at slots slot h k heights _ lt measured here le start (eqb_tells k slot)

-- the budget and more: heights fall along edges
pub heights_fall : (slots : List (Option Insn)) → IsGraphSound slots → (heights : List ℕ) → Measured slots 0 heights
    → (from to : ℕ) → IsEdge slots from to
    → slice_index heights to < slice_index heights from
heights_fall slots sound heights measured from to edge =
    let after = (measured to zero-le (sound.forward from to edge).1).holds in
    let greatest = measured from zero-le (record { insn = edge.insn; here = edge.here }) in
    let le = greatest.bounds (suc (slice_index heights to))
    (record { rest = to ∷ after.rest; is_path = (edge, after.is_path); exits = after.exits; count_is = ap suc after.count_is }) in
    omega arith

-- each path out has an instruction
pub heights_positive : (slots : List (Option Insn)) (heights : List ℕ)
    → Measured slots 0 heights → (slot : ℕ) → IsStart slots slot → 1 ≤ slice_index heights slot
heights_positive slots heights measured slot start =
    let out = (measured slot zero-le start).holds in
    omega (arith, out.count_is)
