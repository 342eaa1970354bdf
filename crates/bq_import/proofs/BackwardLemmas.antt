-- One more instruction in front of a copy that is written from its end.
use Rattle.std.proofs.Common.{◌≡◌, ℕ, zero, suc, ◌+◌, ◌-◌, ◌<◌, ◌≤◌, Bool, true, false, List, [], ◌∷◌, ◌++◌, reverse, length, replicate, get_or, Option, Some, None, refl, arith, sym, ap, ◌∙◌, subst, ◌⊎◌, inl, inr, ℤ, length-append}
use Rattle.std.specs.Prelude.{slice_index, FitsSigned}
use Rattle.std.specs.Int.{w16}
use Rattle.std.specs.List.{filter_map, list_all}
use Rattle.std.proofs.lemmas.Int.{ints}
use Rattle.std.proofs.lemmas.List.{length-replicate, get_or_append_left, append_assoc, reverse-append, get_or-append-add, get_or-replicate}
use Rattle.std.proofs.lemmas.Option.{none-some}
use Rattle.std.proofs.lemmas.Bool.{and_from, cases_lt, cases_order}
use Rattle.bq_insn.specs.declared.Insn.{Insn}
use Rattle.bq_insn.specs.declared.Insn.TheVariants.{Alu, MovSx, Neg, End, Load, StoreImm, StoreReg, Imm64, MapRef, Goto, Goto32, Branch, Call, Exit}
use Rattle.bq_insn.specs.Slots.{slots_of, spread}
use Rattle.bq_insn.specs.Spelling.{is_insn, is_register}
use Rattle.bq_insn.specs.Laws.{Fits, AllFit}
use Rattle.bq_bpf.specs.Steps.{instruction_at}
use Rattle.bq_bpf.specs.Instructions.{distance_of, goes_on}
use Rattle.bq_verify.specs.Edges.{IsStart}
use Rattle.bq_insn.proofs.OptionLemmas.{some_none}
use Rattle.bq_insn.proofs.CountLemmas.{slots_positive}
use Rattle.bq_verify.proofs.EdgeLemmas.{start_inside}
use Rattle.bq_verify.proofs.SpreadLemmas.{one_or_two}
use Rattle.bq_import.specs.Copies.{is_reference, wide_copy, copied, IsCopyOfSlot}
use Rattle.bq_import.specs.Backward.{AreGood, JumpsBack, GoesBack, IsPlacedCopy, insns_of, IsBuilt, KeepsCopies, IsLengthened, IsOneMore, MayBePut}
use Rattle.bq_import.proofs.CopyLemmas.{reference_refers}
use Rattle.bq_import.proofs.PathLemmas.{copy_has_shape}

-- past the end of the first list, an index finds an element of the second list
append_right : {A : Type 0} (xs ys : List A) (n : ℕ) (d : A) → length xs ≤ n → get_or (xs ++ ys) n d ≡ get_or ys (n - length xs) d
append_right xs ys n d le =
    let sum : n ≡ length xs + (n - length xs) = omega (arith, le) in
    ap (λ (k : ℕ). get_or (xs ++ ys) k d) sum ∙ get_or-append-add xs ys (n - length xs) d

-- a jump takes one slot
pub jump_is_short : (insn : Insn) (far : ℤ) → distance_of insn ≡ Some far → slots_of insn ≡ 1
jump_is_short (Imm64 dst value) far e = absurd (none-some far e)
jump_is_short (MapRef dst index) far e = absurd (none-some far e)
jump_is_short insn far e = refl

-- the copy of a wide number in range is in range
wide_good : (maps : ℕ) (few : maps ≤ 8) (b : Bool) (dst value : ℕ)
    → is_reference maps value ≡ b → is_register dst ≡ true → Fits (Imm64 dst value)
    → (is_insn (wide_copy b dst value) ≡ true) × Fits (wide_copy b dst value)
wide_good maps few false dst value e r fits = (r, fits)
wide_good maps few true dst value e r fits = let there = (reference_refers maps value e).there in (r, omega (arith, ints, there, few))

-- the copy of an instruction in range, whose jump fits 16 bits, is in range
pub copied_good : (maps : ℕ) → maps ≤ 8 → (insn : Insn) (z : ℤ) → FitsSigned w16 z → is_insn insn ≡ true → Fits insn
    → (is_insn (copied maps insn z) ≡ true) × Fits (copied maps insn z)
copied_good maps few (Goto off) z near good fits = (refl, near)
copied_good maps few (Goto32 imm) z near good fits = (refl, omega (arith, ints, near))
copied_good maps few (Branch w c dst src off) z near good fits = (good, (fits.0, near))
copied_good maps few (Imm64 dst value) z near good fits = wide_good maps few (is_reference maps value) dst value refl good fits
copied_good maps few (Alu w op dst src) z near good fits = (good, fits)
copied_good maps few (MovSx w bits dst src) z near good fits = (good, fits)
copied_good maps few (Neg w dst) z near good fits = (good, fits)
copied_good maps few (End kind bits dst) z near good fits = (good, fits)
copied_good maps few (Load size signed dst src off) z near good fits = (good, fits)
copied_good maps few (StoreImm size dst off imm) z near good fits = (good, fits)
copied_good maps few (StoreReg size dst off src) z near good fits = (good, fits)
copied_good maps few (MapRef dst index) z near good fits = (good, fits)
copied_good maps few (Call helper) z near good fits = (good, fits)
copied_good maps few Exit z near good fits = (good, fits)

-- a copy of a slot keeps its place when more is put in front
stands_left : (back xs : List (Option Insn)) (origins ys : List ℕ) (place from : ℕ)
    → length origins ≡ length back → IsCopyOfSlot back origins place from
    → IsCopyOfSlot (back ++ xs) (origins ++ ys) place from
stands_left back xs origins ys place from long p =
    let inside = start_inside back place p.start in
    record {
      start = record { insn = p.start.insn; here = get_or_append_left back xs None place inside ∙ p.start.here };
      origin_is = get_or_append_left origins ys 0 place (omega (arith, inside, long)) ∙ p.origin_is;
    }

-- a copy of a slot at an old place was there before more was put in front
stands_was : (back xs : List (Option Insn)) (origins ys : List ℕ) (place from : ℕ)
    → length origins ≡ length back → place < length back → IsCopyOfSlot (back ++ xs) (origins ++ ys) place from
    → IsCopyOfSlot back origins place from
stands_was back xs origins ys place from long inside p =
    record {
      start = record { insn = p.start.insn; here = sym (get_or_append_left back xs None place inside) ∙ p.start.here };
      origin_is = sym (get_or_append_left origins ys 0 place (omega (arith, inside, long))) ∙ p.origin_is;
    }

-- the copy so far, and an instruction whose copy, with this distance, is put in front
module _ (maps : ℕ) (old back : List (Option Insn)) (origins : List ℕ) (from : ℕ) (insn : Insn) (distance : ℤ)
    (built : IsBuilt maps old back origins) where
  -- the second slot of the instruction, if it has one
  second : List (Option Insn)
  second = replicate (slots_of insn - 1) None

  -- the slots that are added, from the last to the first
  tail : List (Option Insn)
  tail = second ++ (Some (copied maps insn distance) ∷ [])

  -- the origins that are added
  tail_from : List ℕ
  tail_from = replicate (slots_of insn - 1) (from + 1) ++ (from ∷ [])

  -- as many slots are added as the instruction has
  long_tail : length tail ≡ slots_of insn
  unfolding second tail
  long_tail =
      let n = length-replicate {A = Option Insn} (slots_of insn - 1) None in
      let positive = slots_positive insn in
      length-append second (Some (copied maps insn distance) ∷ []) ∙ omega (arith, n, positive)

  -- as many origins are added as the instruction has slots
  long_from : length tail_from ≡ slots_of insn
  unfolding tail_from
  long_from =
      let n = length-replicate (slots_of insn - 1) (from + 1) in
      let positive = slots_positive insn in
      length-append (replicate (slots_of insn - 1) (from + 1)) (from ∷ []) ∙ omega (arith, n, positive)

  -- the element after n equal ones is the last
  at_end : {A : Type 0} (n : ℕ) (x y d : A) → get_or (replicate n x ++ (y ∷ [])) n d ≡ y
  at_end zero x y d = refl
  at_end (suc n) x y d = at_end n x y d

  -- each element before the last is one of the equal ones
  before_end : {A : Type 0} (n k : ℕ) (x y d : A) → k < n → get_or (replicate n x ++ (y ∷ [])) k d ≡ x
  before_end n k x y d lt =
      let long = length-replicate n x in
      get_or_append_left (replicate n x) (y ∷ []) d k (omega (arith, lt, long)) ∙ get_or-replicate n k x d lt

  -- each copy so far keeps its place
  kept : KeepsCopies back origins (back ++ tail) (origins ++ tail_from)
  kept place f p = stands_left back tail origins tail_from place f built.as_long p

  -- the place of the new copy
  place_of : ℕ
  place_of = length back + (slots_of insn - 1)

  -- the new copy is at its place
  here_is : instruction_at (back ++ tail) place_of ≡ Some (copied maps insn distance)
  unfolding place_of tail second
  here_is =
      append_right back tail place_of None (omega arith)
      ∙ (ap (λ (k : ℕ). get_or tail k None) (let e : length back + (slots_of insn - 1) - length back ≡ slots_of insn - 1 = omega arith in e)
      ∙ at_end (slots_of insn - 1) None (Some (copied maps insn distance)) None)

  -- the origin of the new copy is the slot of its instruction
  origin_here : slice_index (origins ++ tail_from) place_of ≡ from
  unfolding place_of tail_from
  origin_here =
      let long = built.as_long in
      append_right origins tail_from place_of 0 (omega (arith, long))
      ∙ (ap (λ (k : ℕ). get_or tail_from k 0)
      (let e : length back + (slots_of insn - 1) - length origins ≡ slots_of insn - 1 = omega (arith, long) in e)
      ∙ at_end (slots_of insn - 1) (from + 1) from 0)

  -- no instruction begins at an added place before that of the new copy
  none_between : (place : ℕ) → length back ≤ place → place < place_of → instruction_at (back ++ tail) place ≡ None
  unfolding place_of tail second
  none_between place low high =
      append_right back tail place None low
      ∙ before_end (slots_of insn - 1) (place - length back) None (Some (copied maps insn distance)) None (omega (arith, low, high))

  -- the instruction may be put in front with this distance
  module _ (may : MayBePut old back origins from insn distance) where
    -- if control goes on from the instruction, the next one is right behind the new copy
    goes_back : goes_on insn ≡ true → GoesBack (back ++ tail) (origins ++ tail_from) place_of (slots_of insn) (from + slots_of insn)
    unfolding place_of
    goes_back on =
        let front = may.on on in
        let is = front.place_is in
        let positive = slots_positive insn in
        record {
          behind = front.place;
          place_is = omega (arith, is, positive);
          stands = kept front.place (from + slots_of insn) front.stands;
        }

    -- if the instruction jumps, the new copy jumps to a copy of its target
    jumps_back : (far : ℤ) → distance_of insn ≡ Some far → JumpsBack (back ++ tail) (origins ++ tail_from) from place_of far distance
    unfolding place_of
    jumps_back far e =
        let j = may.jumps far e in
        let one = jump_is_short insn far e in
        let is = j.place_is in
        record {
          target = j.target;
          landing = j.landing;
          apart = j.apart;
          leads = j.leads;
          near_is = j.near_is;
          place_is = omega (arith, one, is);
          stands = kept j.landing j.target j.stands;
        }

    -- the new copy goes on to copies of where its original goes on
    new_placed : (f : ℕ) → from ≡ f → IsPlacedCopy maps old (back ++ tail) (origins ++ tail_from) place_of f
    new_placed f e = subst (λ (n : ℕ). IsPlacedCopy maps old (back ++ tail) (origins ++ tail_from) place_of n) e
        (record { original = insn; distance = distance; here = may.here; copy = here_is; on = goes_back; jumps = jumps_back })

  -- an old copy still goes on to copies of where its original goes on
  old_placed : (place f : ℕ) → IsPlacedCopy maps old back origins place f → IsPlacedCopy maps old (back ++ tail) (origins ++ tail_from) place f
  old_placed place f p = record {
    original = p.original;
    distance = p.distance;
    here = p.here;
    copy =
        get_or_append_left back tail None place
        (start_inside back place (record { insn = copied maps p.original p.distance; here = p.copy }))
        ∙ p.copy;
    on = λ e.
        let g = p.on e in
        record { behind = g.behind; place_is = g.place_is; stands = kept g.behind (f + slots_of p.original) g.stands };
    jumps = λ far e.
        let j = p.jumps far e in
        record {
          target = j.target;
          landing = j.landing;
          apart = j.apart;
          leads = j.leads;
          near_is = j.near_is;
          place_is = j.place_is;
          stands = kept j.landing j.target j.stands;
        };
  }

  -- each instruction of the longer list goes on to copies of where its original goes on
  all_placed : MayBePut old back origins from insn distance
      → (place f : ℕ) → IsCopyOfSlot (back ++ tail) (origins ++ tail_from) place f
      → IsPlacedCopy maps old (back ++ tail) (origins ++ tail_from) place f
  unfolding place_of
  all_placed may place f p = elim (cases_lt place (length back)) [
    | inl lt ↦ old_placed place f (built.placed place f (stands_was back tail origins tail_from place f built.as_long lt p))
    | inr low ↦
        elim (cases_order place place_of) [
          | inl e ↦
              let same : from ≡ f = sym origin_here ∙ (ap (λ (k : ℕ). slice_index (origins ++ tail_from) k) (sym e) ∙ p.origin_is) in
              subst (λ (k : ℕ). IsPlacedCopy maps old (back ++ tail) (origins ++ tail_from) k f) (sym e) (new_placed may f same)
          | inr (inl lt) ↦ absurd (some_none _ p.start.insn p.start.here (none_between place low lt))
          | inr (inr gt) ↦
              let inside = start_inside (back ++ tail) place p.start in
              let long = length-append back tail in
              let more = long_tail in
              let positive = slots_positive insn in
              absurd (let no : ⊥ = omega (arith, inside, long, more, gt, positive) in no)
        ]
  ]

  -- each copy in the longer list is an old one, or the new one in front
  only_one : (place f : ℕ) → IsCopyOfSlot (back ++ tail) (origins ++ tail_from) place f
      → IsCopyOfSlot back origins place f ⊎ ((length (back ++ tail) ≡ place + 1) × (f ≡ from))
  unfolding place_of
  only_one place f p = elim (cases_lt place (length back)) [
    | inl lt ↦ inl (stands_was back tail origins tail_from place f built.as_long lt p)
    | inr low ↦
        let long = length-append back tail in
        let more = long_tail in
        let positive = slots_positive insn in
        elim (cases_order place place_of) [
          | inl e ↦
              let same : from ≡ f = sym origin_here ∙ (ap (λ (k : ℕ). slice_index (origins ++ tail_from) k) (sym e) ∙ p.origin_is) in
              inr (omega (arith, long, more, positive, e), sym same)
          | inr (inl lt) ↦ absurd (some_none _ p.start.insn p.start.here (none_between place low lt))
          | inr (inr gt) ↦
              let inside = start_inside (back ++ tail) place p.start in
              absurd (let no : ⊥ = omega (arith, inside, long, more, gt, positive) in no)
        ]
  ]

  -- the reversed list begins with the last slot, and then the blank slot, if there is one
  reverse_tail : (n : ℕ) (c : Option Insn) → n ≤ 1
      → reverse (back ++ (replicate n None ++ (c ∷ []))) ≡ c ∷ (replicate n None ++ reverse back)
  reverse_tail zero c le = reverse-append back (c ∷ [])
  reverse_tail (suc zero) c le = reverse-append back (None ∷ c ∷ [])
  reverse_tail (suc (suc n)) c le = absurd (let no : ⊥ = omega (arith, le) in no)

  -- a blank slot adds no instruction
  gathered : (n : ℕ) (c : Insn) → n ≤ 1
      → filter_map (λ (slot : Option Insn). slot) (Some c ∷ (replicate n None ++ reverse back)) ≡ c ∷ insns_of back
  gathered zero c le = refl
  gathered (suc zero) c le = refl
  gathered (suc (suc n)) c le = absurd (let no : ⊥ = omega (arith, le) in no)

  -- an instruction has at most one slot besides its first
  few_slots : slots_of insn - 1 ≤ 1
  few_slots = elim (one_or_two insn) [ inl e ↦ omega (arith, e) | inr e ↦ omega (arith, e) ]

  -- the reversed longer list begins with the slots of the new instruction
  reversed : reverse (back ++ tail) ≡ Some (copied maps insn distance) ∷ (second ++ reverse back)
  unfolding tail second
  reversed = reverse_tail (slots_of insn - 1) (Some (copied maps insn distance)) few_slots

  -- the instructions of the longer list are the new one and those so far
  insns_are : insns_of (back ++ tail) ≡ copied maps insn distance ∷ insns_of back
  unfolding second
  insns_are =
      ap (λ (xs : List (Option Insn)). filter_map (λ (slot : Option Insn). slot) xs) reversed
      ∙ gathered (slots_of insn - 1) (copied maps insn distance) few_slots

  -- these instructions, laid out by slots, are the reversed longer list
  spread_again : spread (insns_of (back ++ tail)) ≡ reverse (back ++ tail)
  unfolding second
  spread_again =
      ap spread insns_are
      ∙ (ap (λ (n : ℕ). (Some (copied maps insn distance) ∷ replicate (n - 1) None) ++ spread (insns_of back))
      (copy_has_shape maps insn distance).long
      ∙ (ap (λ (xs : List (Option Insn)). (Some (copied maps insn distance) ∷ second) ++ xs) built.spread_is ∙ sym reversed))

  -- the longer list is the copy with the new instruction in front
  lengthened : maps ≤ 8 → FitsSigned w16 distance → AreGood old → MayBePut old back origins from insn distance
      → length back + slots_of insn ≤ 4096
      → IsLengthened maps old back origins (back ++ tail) (origins ++ tail_from) from
  unfolding place_of
  lengthened few near good may room =
      let g = good from insn may.here in
      let ok = copied_good maps few insn distance near g.0 g.1 in
      let long = length-append back tail in
      let long' = length-append origins tail_from in
      let more = long_tail in
      let more' = long_from in
      let as_long = built.as_long in
      let positive = slots_positive insn in
      record {
        built = record {
          as_long = omega (arith, long, long', more, more', as_long);
          short = omega (arith, long, more, room);
          placed = all_placed may;
          spread_is = spread_again;
          in_range =
              ap (λ (xs : List Insn). list_all is_insn xs) insns_are
              ∙ and_from (is_insn (copied maps insn distance)) _ ok.0 built.in_range;
          fit = subst AllFit (sym insns_are) (ok.1, built.fit);
          front = λ place e. let is : place ≡ length back + (slots_of insn - 1) = omega (arith, long, more, positive, e) in
              subst (λ (k : ℕ). IsStart (back ++ tail) k) (sym is) (record { insn = copied maps insn distance; here = here_is });
        };
        keeps = kept;
        front = record {
          place = place_of;
          place_is = omega (arith, long, more, positive);
          stands = record { start = record { insn = copied maps insn distance; here = here_is }; origin_is = origin_here };
        };
      }

  -- pushing the slots and the origins of the instruction puts the instruction in front of the copy
  pub pushed : (slots : List (Option Insn)) (froms : List ℕ) → maps ≤ 8 → FitsSigned w16 distance
      → AreGood old → MayBePut old back origins from insn distance → length back + slots_of insn ≤ 4096
      → slots ≡ (back ++ replicate (slots_of insn - 1) None) ++ (Some (copied maps insn distance) ∷ [])
      → froms ≡ (origins ++ replicate (slots_of insn - 1) (from + 1)) ++ (from ∷ [])
      → IsLengthened maps old back origins slots froms from
  unfolding tail second tail_from
  pushed slots froms few near good may room e e' =
      let s : back ++ tail ≡ slots = sym (append_assoc back second (Some (copied maps insn distance) ∷ [])) ∙ sym e in
      let o : origins ++ tail_from ≡ froms = sym (append_assoc origins (replicate (slots_of insn - 1) (from + 1)) (from ∷ [])) ∙ sym e' in
      subst (λ (xs : List (Option Insn)). IsLengthened maps old back origins xs froms from) s
      (subst (λ (ys : List ℕ). IsLengthened maps old back origins (back ++ tail) ys from) o (lengthened few near good may room))

  -- pushing the slots and the origins of the instruction adds no copy besides the one in front
  pub pushed_one : (slots : List (Option Insn)) (froms : List ℕ)
      → slots ≡ (back ++ replicate (slots_of insn - 1) None) ++ (Some (copied maps insn distance) ∷ [])
      → froms ≡ (origins ++ replicate (slots_of insn - 1) (from + 1)) ++ (from ∷ [])
      → IsOneMore back origins slots froms from
  unfolding tail second tail_from
  pushed_one slots froms e e' =
      let s : back ++ tail ≡ slots = sym (append_assoc back second (Some (copied maps insn distance) ∷ [])) ∙ sym e in
      let o : origins ++ tail_from ≡ froms = sym (append_assoc origins (replicate (slots_of insn - 1) (from + 1)) (from ∷ [])) ∙ sym e' in
      subst (λ (xs : List (Option Insn)). IsOneMore back origins xs froms from) s
      (subst (λ (ys : List ℕ). IsOneMore back origins (back ++ tail) ys from) o (record { only = only_one }))
