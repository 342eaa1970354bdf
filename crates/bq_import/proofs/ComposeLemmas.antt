-- A copy of a copy is a copy.
use Rattle.std.proofs.Common.{◌≡◌, ℕ, ◌+◌, Bool, true, false, List, Option, Some, length, refl, arith, sym, ap, ◌∙◌, subst, ℤ}
use Rattle.std.specs.Prelude.{slice_index, nat_le, nat_lt, ◌&&◌}
use Rattle.std.proofs.lemmas.List.{get_or-map}
use Rattle.bq_insn.specs.declared.Insn.{Insn}
use Rattle.bq_insn.specs.declared.Insn.TheVariants.{Alu, MovSx, Neg, End, Load, StoreImm, StoreReg, Imm64, MapRef, Goto, Goto32, Branch, Call, Exit}
use Rattle.bq_insn.specs.Slots.{slots_of}
use Rattle.bq_bpf.specs.Memory.{reference}
use Rattle.bq_bpf.specs.Instructions.{distance_of, goes_on}
use Rattle.bq_verify.specs.Edges.{IsStart}
use Rattle.bq_insn.proofs.OptionLemmas.{some_same}
use Rattle.bq_verify.proofs.EdgeLemmas.{leads_same, start_inside}
use Rattle.bq_import.specs.Copies.{AreComposed, IsCopy, IsCopyAt, IsCopyOfSlot, copied, is_reference, wide_copy}
use Rattle.bq_import.proofs.PathLemmas.{copy_has_shape}

-- beside no maps no number is a reference
no_reference : (value : ℕ) → is_reference 0 value ≡ false
no_reference value = by (nat_le (reference 0) value) (nat_lt value (reference 0)) refl refl
  where
    by : (low high : Bool) → nat_le (reference 0) value ≡ low → nat_lt value (reference 0) ≡ high → (low && high) ≡ false
    by false high l h = refl
    by true false l h = refl
    by true true l h = absurd (let no : ⊥ = grind (arith, l, h) in no)

-- the copy of a wide number, copied again beside no maps, stays the same
wide_twice : (b : Bool) (dst value : ℕ) (d : ℤ) → copied 0 (wide_copy b dst value) d ≡ wide_copy b dst value
wide_twice true dst value d = refl
wide_twice false dst value d = ap (λ (r : Bool). wide_copy r dst value) (no_reference value)

-- the copy of a copy, beside no maps, is a copy
pub copied_twice : (maps : ℕ) (insn : Insn) (one two : ℤ) → copied 0 (copied maps insn one) two ≡ copied maps insn two
copied_twice maps (Goto off) one two = refl
copied_twice maps (Goto32 imm) one two = refl
copied_twice maps (Branch w c dst src off) one two = refl
copied_twice maps (Imm64 dst value) one two = wide_twice (is_reference maps value) dst value two
copied_twice maps (Alu w op dst src) one two = refl
copied_twice maps (MovSx w bits dst src) one two = refl
copied_twice maps (Neg w dst) one two = refl
copied_twice maps (End kind bits dst) one two = refl
copied_twice maps (Load size signed dst src off) one two = refl
copied_twice maps (StoreImm size dst off imm) one two = refl
copied_twice maps (StoreReg size dst off src) one two = refl
copied_twice maps (MapRef dst index) one two = refl
copied_twice maps (Call helper) one two = refl
copied_twice maps Exit one two = refl

-- a copy of a program, and a copy of this copy beside no maps
module _ (maps : ℕ) (old first second : List (Option Insn)) (a b all : List ℕ) (p : IsCopy maps old first a)
    (q : IsCopy 0 first second b) (are : AreComposed a b all) (long : length b ≡ length second) where
  -- the origin of a slot of the second copy is the origin, in the first copy, of its origin
  origin_of : (slot : ℕ) → IsStart second slot → slice_index all slot ≡ slice_index a (slice_index b slot)
  origin_of slot start =
      let inside = start_inside second slot start in
      ap (λ (xs : List ℕ). slice_index xs slot) are ∙ get_or-map (λ (k : ℕ). slice_index a k) b slot 0 0 (omega (arith, inside, long))

  -- a copy of a copy of a slot is a copy of the slot
  stands_on : (slot mid from : ℕ) → IsCopyOfSlot second b slot mid → IsCopyOfSlot first a mid from → IsCopyOfSlot second all slot from
  stands_on slot mid from s t = record {
    start = s.start;
    origin_is = origin_of slot s.start ∙ (ap (λ (n : ℕ). slice_index a n) s.origin_is ∙ t.origin_is);
  }

  -- each instruction of the second copy is a copy of one of the program
  each : (slot from : ℕ) → IsCopyOfSlot second all slot from → IsCopyAt maps old second all slot from
  each slot from s =
      let mid : ℕ = slice_index b slot in
      let y = q.each slot (slice_index b slot) (record { start = s.start; origin_is = refl }) in
      let from_is : slice_index a (slice_index b slot) ≡ from = sym (origin_of slot s.start) ∙ s.origin_is in
      let x = p.each (slice_index b slot) from (record { start = record { insn = y.original; here = y.here }; origin_is = from_is }) in
      let same : y.original ≡ copied maps x.original x.distance =
      some_same _ y.original (copied maps x.original x.distance) y.here x.copy in
      let shape = copy_has_shape maps x.original x.distance in
      record {
        original = x.original;
        distance = y.distance;
        here = x.here;
        copy =
            y.copy ∙ ap (λ (i : Insn). Some i)
            (ap (λ (i : Insn). copied 0 i y.distance) same ∙ copied_twice maps x.original x.distance y.distance);
        on = λ on.
            let goes : goes_on y.original ≡ true = ap goes_on same ∙ (shape.on ∙ on) in
            let long' : slots_of y.original ≡ slots_of x.original = ap slots_of same ∙ shape.long in
            let there = subst (λ (n : ℕ). IsCopyOfSlot second b (slot + n) (slice_index b slot + n)) long' (y.on goes) in
            stands_on (slot + slots_of x.original) (slice_index b slot + slots_of x.original) (from + slots_of x.original) there (x.on on);
        jumps = λ far is.
            let near : distance_of y.original ≡ Some x.distance = ap distance_of same ∙ shape.jumps far is in
            let one = x.jumps far is in
            let two = y.jumps x.distance near in
            let lands : two.target ≡ one.landing = leads_same (slice_index b slot) two.target one.landing x.distance two.leads one.lands in
            record {
              target = one.target;
              landing = two.landing;
              leads = one.leads;
              lands = two.lands;
              later = two.later;
              stands =
                  stands_on two.landing one.landing one.target
                  (subst (λ (n : ℕ). IsCopyOfSlot second b two.landing n) lands two.stands) one.stands;
            };
      }

  -- a copy of a copy is a copy of the program
  pub copy_of_copy : IsCopy maps old second all
  copy_of_copy = record { first = stands_on 0 0 0 q.first p.first; each = each }
