-- A copy has the same paths, instruction by instruction.
use Rattle.std.proofs.Common.{◌≡◌, ℕ, suc, ◌+◌, ◌<◌, arith, Bool, true, false, List, [], ◌∷◌, Option, Some, None, length, refl, sym, ap, ◌∙◌, subst, ◌⊎◌, inl, inr, ℤ}
use Rattle.std.specs.Prelude.{slice_index}
use Rattle.std.proofs.lemmas.Option.{none-some}
use Rattle.bq_insn.specs.declared.Insn.{Insn}
use Rattle.bq_insn.specs.declared.Insn.TheVariants.{Alu, MovSx, Neg, End, Load, StoreImm, StoreReg, Imm64, MapRef, Goto, Goto32, Branch, Call, Exit}
use Rattle.bq_insn.specs.Slots.{slots_of}
use Rattle.bq_bpf.specs.Steps.{LeadsTo}
use Rattle.bq_verify.specs.Edges.{IsEdge, IsStart}
use Rattle.bq_bpf.specs.Instructions.{distance_of, goes_on}
use Rattle.bq_verify.specs.Paths.{IsPath, PathOut, path_end}
use Rattle.bq_verify.specs.Faults.{IsBadJump, RunsOut}
use Rattle.bq_insn.proofs.OptionLemmas.{some_same}
use Rattle.bq_insn.proofs.CountLemmas.{slots_positive}
use Rattle.bq_verify.proofs.EdgeLemmas.{leads_same, start_inside}
use Rattle.bq_import.specs.Copies.{is_reference, wide_copy, copied, IsCopyOfSlot, IsCopy}
use Rattle.bq_import.specs.Laws.{GoesForward, SameBudget}
use Rattle.bq_import.proofs.CopyLemmas.{copied_exit}

-- an instruction has no distance, or it has some distance
pub distance_cases : (v : Option ℤ) → (v ≡ None) ⊎ ((far : ℤ) × (v ≡ Some far))
distance_cases None = inl refl
distance_cases (Some far) = inr (far, refl)

-- the copy goes on exactly if the instruction does, is as long, and jumps exactly if the instruction does
pub record HasShape (insn copy : Insn) (distance : ℤ) : Type 0 where
  pub on : goes_on copy ≡ goes_on insn
  pub long : slots_of copy ≡ slots_of insn
  pub jumps : (far : ℤ) → distance_of insn ≡ Some far → distance_of copy ≡ Some distance
  pub stays : distance_of insn ≡ None → distance_of copy ≡ None

-- an instruction that does not jump has its own shape
plain : (insn : Insn) (distance : ℤ) → distance_of insn ≡ None → HasShape insn insn distance
plain insn distance none = record { on = refl; long = refl; jumps = λ far e. absurd (none-some far (sym none ∙ e)); stays = λ e. e }

-- the copy of a wide number has the shape of the wide number
wide_shape : (b : Bool) (dst value : ℕ) (distance : ℤ) → HasShape (Imm64 dst value) (wide_copy b dst value) distance
wide_shape true dst value distance = record { on = refl; long = refl; jumps = λ far e. absurd (none-some far e); stays = λ e. e }
wide_shape false dst value distance = record { on = refl; long = refl; jumps = λ far e. absurd (none-some far e); stays = λ e. e }

-- the copy of an instruction goes on and jumps exactly if the instruction does, and is as long
pub copy_has_shape : (maps : ℕ) (insn : Insn) (distance : ℤ) → HasShape insn (copied maps insn distance) distance
copy_has_shape maps (Alu w op dst src) distance = plain (Alu w op dst src) distance refl
copy_has_shape maps (MovSx w bits dst src) distance = plain (MovSx w bits dst src) distance refl
copy_has_shape maps (Neg w dst) distance = plain (Neg w dst) distance refl
copy_has_shape maps (End kind bits dst) distance = plain (End kind bits dst) distance refl
copy_has_shape maps (Load size signed dst src off) distance = plain (Load size signed dst src off) distance refl
copy_has_shape maps (StoreImm size dst off imm) distance = plain (StoreImm size dst off imm) distance refl
copy_has_shape maps (StoreReg size dst off src) distance = plain (StoreReg size dst off src) distance refl
copy_has_shape maps (MapRef dst index) distance = plain (MapRef dst index) distance refl
copy_has_shape maps (Call helper) distance = plain (Call helper) distance refl
copy_has_shape maps Exit distance = plain Exit distance refl
copy_has_shape maps (Imm64 dst value) distance = wide_shape (is_reference maps value) dst value distance
copy_has_shape maps (Goto off) distance =
    record { on = refl; long = refl; jumps = λ far e. refl; stays = λ e. absurd (none-some off (sym e)) }
copy_has_shape maps (Goto32 imm) distance =
    record { on = refl; long = refl; jumps = λ far e. refl; stays = λ e. absurd (none-some imm (sym e)) }
copy_has_shape maps (Branch w c dst src off) distance =
    record { on = refl; long = refl; jumps = λ far e. refl; stays = λ e. absurd (none-some off (sym e)) }

-- a program and its copy
module _ (maps : ℕ) (old new : List (Option Insn)) (origin : List ℕ) (copy : IsCopy maps old new origin) where
  -- in the copy, control goes from `slot` to a copy of `to`
  record EdgeAhead (slot to : ℕ) : Type 0 where
    -- the slot to which control goes
    pub landing : ℕ
    -- an edge of the copy leads to this slot
    pub edge : IsEdge new slot landing
    -- this slot is a copy of `to`
    pub stands : IsCopyOfSlot new origin landing to

  -- in the program, control goes from `from` to the original of `landing`
  record EdgeBehind (from landing : ℕ) : Type 0 where
    -- the slot to which control goes
    pub target : ℕ
    -- an edge of the program leads to this slot
    pub edge : IsEdge old from target
    -- the landing is a copy of this slot
    pub stands : IsCopyOfSlot new origin landing target

  -- each edge of the program has a copy
  edge_ahead : (slot from to : ℕ) → IsCopyOfSlot new origin slot from → IsEdge old from to → EdgeAhead slot to
  edge_ahead slot from to stands edge =
      let at = copy.each slot from stands in
      let shape = copy_has_shape maps at.original at.distance in
      let same = some_same _ edge.insn at.original edge.here at.here in
      elim edge.leaves [
        | inl (on, is) ↦
            let on' : goes_on at.original ≡ true = ap goes_on (sym same) ∙ on in
            let is' : to ≡ from + slots_of at.original = is ∙ ap (λ (i : Insn). from + slots_of i) same in
            record {
              landing = slot + slots_of at.original;
              edge = record {
                insn = copied maps at.original at.distance;
                here = at.copy;
                leaves = inl (shape.on ∙ on', ap (λ (n : ℕ). slot + n) (sym shape.long));
              };
              stands = subst (λ (n : ℕ). IsCopyOfSlot new origin (slot + slots_of at.original) n) (sym is') (at.on on');
            }
        | inr (far, is, leads) ↦
            let is' : distance_of at.original ≡ Some far = ap distance_of (sym same) ∙ is in
            let alike = at.jumps far is' in
            record {
              landing = alike.landing;
              edge = record {
                insn = copied maps at.original at.distance;
                here = at.copy;
                leaves = inr (at.distance, shape.jumps far is', alike.lands);
              };
              stands =
                  subst (λ (n : ℕ). IsCopyOfSlot new origin alike.landing n)
                  (leads_same from alike.target to far alike.leads leads) alike.stands;
            }
      ]

  -- each edge of the copy has an original
  edge_behind : (slot from landing : ℕ) → IsCopyOfSlot new origin slot from → IsEdge new slot landing → EdgeBehind from landing
  edge_behind slot from landing stands edge =
      let at = copy.each slot from stands in
      let shape = copy_has_shape maps at.original at.distance in
      let same = some_same _ edge.insn (copied maps at.original at.distance) edge.here at.copy in
      elim edge.leaves [
        | inl (on, is) ↦
            let on' : goes_on at.original ≡ true = sym shape.on ∙ (ap goes_on (sym same) ∙ on) in
            let is' : landing ≡ slot + slots_of at.original =
            is ∙ (ap (λ (i : Insn). slot + slots_of i) same ∙ ap (λ (n : ℕ). slot + n) shape.long) in
            record {
              target = from + slots_of at.original;
              edge = record { insn = at.original; here = at.here; leaves = inl (on', refl) };
              stands = subst (λ (n : ℕ). IsCopyOfSlot new origin n (from + slots_of at.original)) (sym is') (at.on on');
            }
        | inr (near, is, leads) ↦
            let is' : distance_of (copied maps at.original at.distance) ≡ Some near = ap distance_of (sym same) ∙ is in
            elim (distance_cases (distance_of at.original)) [
              | inl none ↦ absurd (none-some near (sym (shape.stays none) ∙ is'))
              | inr (far, jumps) ↦
                  let alike = at.jumps far jumps in
                  let near' : near ≡ at.distance = some_same _ near at.distance is' (shape.jumps far jumps) in
                  record {
                    target = alike.target;
                    edge = record { insn = at.original; here = at.here; leaves = inr (far, jumps, alike.leads) };
                    stands =
                        subst (λ (n : ℕ). IsCopyOfSlot new origin n alike.target)
                        (leads_same slot alike.landing landing at.distance alike.lands
                        (subst (λ (z : ℤ). LeadsTo slot z landing) near' leads)) alike.stands;
                  }
            ]
      ]

  -- the copy has a path of the same length, to a copy of where the program's path ends
  pub record PathAhead (slot from : ℕ) (rest : List ℕ) : Type 0 where
    -- the slots on the path of the copy
    pub way : List ℕ
    -- these slots are a path of the copy
    pub is_path : IsPath new slot way
    -- both paths are equally long
    pub long : length way ≡ length rest
    -- the path of the copy ends at a copy of where the program's path ends
    pub stands : IsCopyOfSlot new origin (path_end slot way) (path_end from rest)

  -- the program has a path of the same length, to the original of where the copy's path ends
  record PathBehind (slot from : ℕ) (way : List ℕ) : Type 0 where
    -- the slots on the path of the program
    pub rest : List ℕ
    -- these slots are a path of the program
    pub is_path : IsPath old from rest
    -- both paths are equally long
    pub long : length way ≡ length rest
    -- the path of the copy ends at a copy of where the program's path ends
    pub stands : IsCopyOfSlot new origin (path_end slot way) (path_end from rest)

  -- a path of a program is as long in its copy
  pub path_ahead : (slot from : ℕ) (rest : List ℕ) → IsCopyOfSlot new origin slot from → IsPath old from rest → PathAhead slot from rest
  path_ahead slot from [] stands path = record { way = []; is_path = tt; long = refl; stands = stands }
  path_ahead slot from (to ∷ rest) stands (edge, path) =
      let one = edge_ahead slot from to stands edge in
      let others = path_ahead one.landing to rest one.stands path in
      record { way = one.landing ∷ others.way; is_path = (one.edge, others.is_path); long = ap suc others.long; stands = others.stands }

  -- a path of a copy is as long in its original
  path_behind : (slot from : ℕ) (way : List ℕ) → IsCopyOfSlot new origin slot from → IsPath new slot way → PathBehind slot from way
  path_behind slot from [] stands path = record { rest = []; is_path = tt; long = refl; stands = stands }
  path_behind slot from (landing ∷ way) stands (edge, path) =
      let one = edge_behind slot from landing stands edge in
      let others = path_behind landing one.target way one.stands path in
      record { rest = one.target ∷ others.rest; is_path = (one.edge, others.is_path); long = ap suc others.long; stands = others.stands }

  -- a path out of a program is as long in its copy
  out_ahead : (count : ℕ) → PathOut old 0 count → PathOut new 0 count
  out_ahead count out =
      let there = path_ahead 0 0 out.rest copy.first out.is_path in
      let at = copy.each _ _ there.stands in
      let same : at.original ≡ Exit = some_same _ at.original Exit at.here out.exits in
      record {
        rest = there.way;
        is_path = there.is_path;
        exits = at.copy ∙ ap (λ (i : Insn). Some (copied maps i at.distance)) same;
        count_is = out.count_is ∙ ap suc (sym there.long);
      }

  -- a path out of a copy is as long in its original
  out_behind : (count : ℕ) → PathOut new 0 count → PathOut old 0 count
  out_behind count out =
      let there = path_behind 0 0 out.rest copy.first out.is_path in
      let at = copy.each _ _ there.stands in
      let same : at.original ≡ Exit =
      copied_exit maps at.original at.distance (some_same _ (copied maps at.original at.distance) Exit at.copy out.exits) in
      record {
        rest = there.rest;
        is_path = there.is_path;
        exits = at.here ∙ ap (λ (i : Insn). Some i) same;
        count_is = out.count_is ∙ ap suc there.long;
      }

-- the longest path of a copy has as many instructions as that of its original
pub same_budget : SameBudget
same_budget maps old new origin copy budget = (
  λ most. record {
    holds = out_ahead maps old new origin copy budget most.holds;
    bounds = λ n out. most.bounds n (out_behind maps old new origin copy n out);
  },
  λ most. record {
    holds = out_behind maps old new origin copy budget most.holds;
    bounds = λ n out. most.bounds n (out_ahead maps old new origin copy n out);
  },
)

-- each instruction of a copy is a copy of the one at its origin
at_start : (new : List (Option Insn)) (origin : List ℕ) (slot : ℕ)
    → IsStart new slot → IsCopyOfSlot new origin slot (slice_index origin slot)
at_start new origin slot start = record { start = start; origin_is = refl }

-- a program and its copy
module _ (maps : ℕ) (old new : List (Option Insn)) (origin : List ℕ) (copy : IsCopy maps old new origin) where
  -- control goes in the copy only to later instructions
  edge_later : (from to : ℕ) → IsEdge new from to → (from < to) × IsStart new to
  edge_later from to edge =
      let at = copy.each from _ (at_start new origin from (record { insn = edge.insn; here = edge.here })) in
      let shape = copy_has_shape maps at.original at.distance in
      let same = some_same _ edge.insn (copied maps at.original at.distance) edge.here at.copy in
      elim edge.leaves [
        | inl (on, is) ↦
            let on' : goes_on at.original ≡ true = sym shape.on ∙ (ap goes_on (sym same) ∙ on) in
            let is' : to ≡ from + slots_of at.original =
            is ∙ (ap (λ (i : Insn). from + slots_of i) same ∙ ap (λ (n : ℕ). from + n) shape.long) in
            let positive = slots_positive at.original in
            (omega (arith, is', positive), subst (λ (n : ℕ). IsStart new n) (sym is') (at.on on').start)
        | inr (near, is, leads) ↦
            let is' : distance_of (copied maps at.original at.distance) ≡ Some near = ap distance_of (sym same) ∙ is in
            elim (distance_cases (distance_of at.original)) [
              | inl none ↦ absurd (none-some near (sym (shape.stays none) ∙ is'))
              | inr (far, jumps) ↦
                  let alike = at.jumps far jumps in
                  let near' : near ≡ at.distance = some_same _ near at.distance is' (shape.jumps far jumps) in
                  let landing : alike.landing ≡ to =
                  leads_same from alike.landing to at.distance alike.lands
                  (subst (λ (z : ℤ). LeadsTo from z to) near' leads) in
                  (subst (λ (n : ℕ). from < n) landing alike.later, subst (λ (n : ℕ). IsStart new n) landing alike.stands.start)
            ]
      ]

  -- each jump of the copy leads to a later instruction
  no_bad_jump : (slot : ℕ) → IsBadJump new slot → ⊥
  no_bad_jump slot bad =
      let at = copy.each slot _ (at_start new origin slot (record { insn = bad.insn; here = bad.here })) in
      let shape = copy_has_shape maps at.original at.distance in
      let same = some_same _ bad.insn (copied maps at.original at.distance) bad.here at.copy in
      let is' : distance_of (copied maps at.original at.distance) ≡ Some bad.distance = ap distance_of (sym same) ∙ bad.jumps in
      elim (distance_cases (distance_of at.original)) [
        | inl none ↦ absurd (none-some bad.distance (sym (shape.stays none) ∙ is'))
        | inr (far, jumps) ↦
            let alike = at.jumps far jumps in
            let near' : at.distance ≡ bad.distance = some_same _ at.distance bad.distance (shape.jumps far jumps) is' in
            bad.nowhere alike.landing (subst (λ (z : ℤ). LeadsTo slot z alike.landing) near' alike.lands) alike.later alike.stands.start
      ]

  -- no instruction of the copy goes on past the end
  none_runs_out : (slot : ℕ) → RunsOut new slot → ⊥
  none_runs_out slot out =
      let at = copy.each slot _ (at_start new origin slot (record { insn = out.insn; here = out.here })) in
      let shape = copy_has_shape maps at.original at.distance in
      let same = some_same _ out.insn (copied maps at.original at.distance) out.here at.copy in
      let on' : goes_on at.original ≡ true = sym shape.on ∙ (ap goes_on (sym same) ∙ out.on) in
      let is' : slots_of out.insn ≡ slots_of at.original = ap slots_of same ∙ shape.long in
      let inside = start_inside new (slot + slots_of at.original) (at.on on').start in
      let past = out.past in
      let no : ⊥ = omega (arith, inside, past, is') in no

-- a copy's jumps lead to later instructions, and none of its instructions goes on past the end
pub goes_forward : GoesForward
goes_forward maps old new origin copy =
    (edge_later maps old new origin copy, no_bad_jump maps old new origin copy, none_runs_out maps old new origin copy)
