-- What is kept for the slots that were begun, and what the copy may have in all.
use Rattle.std.proofs.Common.{◌≡◌, ℕ, ◌+◌, ◌-◌, ◌<◌, ◌≤◌, ◌⊎◌, inl, inr, Bool, true, false, List, [], ◌∷◌, ◌++◌, reverse, length, take, get_or, Option, Some, None, refl, arith, sym, ap, ◌∙◌, subst}
use Rattle.std.specs.Prelude.{if◌then◌else◌, slice_set, sum_by}
use Rattle.std.proofs.lemmas.Bool.{cases_eq}
use Rattle.std.proofs.lemmas.List.{get_or-append-add, get_or-set_other, get_or-set_same, length-append, reverse-append, reverse-reverse, take_all, take_more}
use Rattle.std.proofs.lemmas.List.Sums.{sum_by-cons, sum_by-le-sum_by}
use Rattle.bq_insn.specs.declared.Insn.{Insn}
use Rattle.bq_insn.specs.Slots.{slots_of}
use Rattle.bq_insn.proofs.OptionLemmas.{some_none, some_same}
use Rattle.bq_bpf.specs.Steps.{instruction_at}
use Rattle.bq_verify.specs.declared.targets.Targets.{Targets}
use Rattle.bq_verify.specs.Edges.{IsEdge}
use Rattle.bq_import.specs.declared.fault.Disorder.{Disorder}
use Rattle.bq_import.specs.declared.fault.Disorder.TheVariants.{Outside, Ends, Loop, Long, OutOfMemory}
use Rattle.bq_import.specs.Backward.{IsFront}
use Rattle.bq_import.specs.Budgets.{AreKeptFor, HasBudget, IsBudgetKept, waiting}
use Rattle.bq_import.specs.Faults.{IsFull, IsLinked, IsSearchFault}
use Rattle.bq_import.specs.Lengths.{IsSlotIn, IsLanding, run_slots, width_at, width_of_slot}
use Rattle.bq_import.specs.Orders.{HasLongOrder}
use Rattle.bq_import.specs.Search.{AreTargets, HasCopy, IsLastOf, IsMissing, IsTop, Suffices, is_open, copy_place}
use Rattle.bq_import.proofs.LengthLemmas.{run_next}
use Rattle.bq_import.proofs.RunningLemmas.{next_of}

-- a slot that was pushed comes first in the reversed stack
reverse_push : (stack : List ℕ) (slot : ℕ) → reverse (stack ++ slot ∷ []) ≡ slot ∷ reverse stack
reverse_push stack slot = reverse-append stack (slot ∷ [])

-- the slot on top comes first in the reversed stack
reverse_top : (stack : List ℕ) (slot : ℕ) → IsTop stack slot → reverse stack ≡ slot ∷ reverse (take (length stack - 1) stack)
reverse_top stack slot top =
    let long = top.long in
    let one : length stack - 1 + 1 ≡ length stack = omega (arith, long) in
    let below : length stack - 1 ≡ top.below = omega (arith, long) in
    let last : get_or stack (length stack - 1) 0 ≡ slot = ap (λ (n : ℕ). get_or stack n 0) below ∙ top.slot_is in
    let whole : take (length stack - 1 + 1) stack ≡ stack = take_all (length stack - 1 + 1) stack (omega (arith, one)) in
    let parts : take (length stack - 1 + 1) stack ≡ take (length stack - 1) stack ++ get_or stack (length stack - 1) 0 ∷ [] =
    take_more stack (length stack - 1) 0 (omega (arith, long)) in
    ap reverse (sym whole ∙ parts ∙ ap (λ (n : ℕ). take (length stack - 1) stack ++ (n ∷ [])) last)
    ∙ reverse_push (take (length stack - 1) stack) slot

-- the first slot of the reversed stack is on top
top_of : (stack : List ℕ) (top : ℕ) (rest : List ℕ) → reverse stack ≡ top ∷ rest → IsTop stack top
top_of stack top rest is =
    let stack_is : stack ≡ reverse rest ++ top ∷ [] = sym (reverse-reverse stack) ∙ (ap reverse is ∙ reverse-append (top ∷ []) rest) in
    subst (λ (s : List ℕ). IsTop s top) (sym stack_is) (record {
      below = length (reverse rest);
      long = let long = length-append (reverse rest) (top ∷ []) in omega (arith, long);
      slot_is =
          ap (λ (n : ℕ). get_or (reverse rest ++ top ∷ []) n 0)
          (let e : length (reverse rest) ≡ length (reverse rest) + 0 = omega arith in e)
          ∙ get_or-append-add (reverse rest) (top ∷ []) 0 0;
    })

-- a program, and for each slot whether it was begun
module _ (old : List (Option Insn)) (opens : List Bool) where
  -- one slot is begun
  module _ (slot : ℕ) (inside : slot < length opens) where
    -- no run has more waiting slots than before
    waits_less : (k : ℕ) → waiting old (slice_set opens slot true) k ≤ waiting old opens k
    waits_less k = elim (cases_eq k slot) [
      | inl e ↦
          let now : waiting old (slice_set opens slot true) k ≡ 0 =
          ap (λ (b : Bool). if b then 0 else run_slots old k)
          (ap (is_open (slice_set opens slot true)) e ∙ get_or-set_same opens slot true false inside) in
          omega (arith, now)
      | inr apart ↦
          let same : waiting old (slice_set opens slot true) k ≡ waiting old opens k =
          ap (λ (b : Bool). if b then 0 else run_slots old k) (get_or-set_other opens slot k true false apart) in
          omega (arith, same)
    ]

    -- the waiting runs have no more slots than before
    pub still_wait : (landings : List ℕ) → sum_by (waiting old (slice_set opens slot true)) landings ≤ sum_by (waiting old opens) landings
    still_wait landings = sum_by-le-sum_by (waiting old (slice_set opens slot true)) (waiting old opens) landings waits_less

    -- the run of a landing that is begun waits no longer
    pub wait_less : (landings : List ℕ) → is_open opens slot ≡ false → IsSlotIn landings slot
        → sum_by (waiting old (slice_set opens slot true)) landings + run_slots old slot ≤ sum_by (waiting old opens) landings
    wait_less [] new at = absurd at
    wait_less (first ∷ rest) new (inl e) =
        let now : waiting old (slice_set opens slot true) slot ≡ 0 =
        ap (λ (b : Bool). if b then 0 else run_slots old slot) (get_or-set_same opens slot true false inside) in
        let before : waiting old opens slot ≡ run_slots old slot = ap (λ (b : Bool). if b then 0 else run_slots old slot) new in
        let now' : waiting old (slice_set opens slot true) first ≡ 0 = ap (waiting old (slice_set opens slot true)) (sym e) ∙ now in
        let before' : waiting old opens first ≡ run_slots old slot = ap (waiting old opens) (sym e) ∙ before in
        let others = still_wait rest in
        let all = sum_by-cons (waiting old (slice_set opens slot true)) first rest in
        let all' = sum_by-cons (waiting old opens) first rest in
        omega (arith, now', before', others, all, all')
    wait_less (first ∷ rest) new (inr more) =
        let others = wait_less rest new more in
        let here = waits_less first in
        let all = sum_by-cons (waiting old (slice_set opens slot true)) first rest in
        let all' = sum_by-cons (waiting old opens) first rest in
        omega (arith, others, here, all, all')

-- the copy so far, and the place of the last copy of each slot
module _ (old back : List (Option Insn)) (origins : List ℕ) (places : List (Option ℕ)) where
  -- what is kept for the slot that was begun last is kept for this slot when another is begun from it
  below_new : (slot : ℕ) (xs : List ℕ) (kept : ℕ)
      → ((top : ℕ) (rest : List ℕ) → xs ≡ top ∷ rest → IsEdge old top slot × (copy_place places slot ≡ None))
      → IsBudgetKept old back origins places xs kept
      → AreKeptFor old places slot xs kept
  below_new slot [] kept edge is = tt
  below_new slot (top ∷ rest) kept edge is = record {
    own = is.own;
    more = is.more;
    all = is.all;
    enough = elim is.enough [
      | inl run ↦ inl run
      | inr (ready, suffices) ↦ let e = edge top rest refl in let done = ready slot e.0 in absurd (some_none _ done.0 done.1 e.1)
    ];
    rest = is.rest;
  }

  -- when the next slot of the top is begun, the two share what was kept for the top
  below_next : (linked : IsLinked old) (slot top : ℕ) (rest : List ℕ) (kept : ℕ)
      → copy_place places slot ≡ None → IsLastOf old places top slot → IsBudgetKept old back origins places (top ∷ rest) kept
      → IsBudgetKept old back origins places (slot ∷ top ∷ rest) kept
  below_next linked slot top rest kept away last is =
      let ends = run_next old top slot linked last.next in
      let at = last.next.is in
      let wide : width_at old top ≡ slots_of last.next.insn = ap width_of_slot last.next.here in
      let whole : run_slots old top ≤ is.own = elim is.enough [
        | inl run ↦ run
        | inr (ready, suffices) ↦
            let done = ready slot (record { insn = last.next.insn; here = last.next.here; leaves = inl (last.next.on, last.next.is) }) in
            absurd (some_none _ done.0 done.1 away)
      ] in
      let all = is.all in
      record {
        own = run_slots old slot;
        more = is.own - run_slots old slot + is.more;
        all = omega (arith, all, whole, ends, at);
        enough = inl (omega arith);
        rest = record {
          own = is.own - run_slots old slot;
          more = is.more;
          all = refl;
          enough = inr (omega (arith, whole, ends, at, wide), last);
          rest = is.rest;
        };
      }

-- what is kept for slots below is enough also when more slots are in place
kept_still : (old : List (Option Insn)) (places after : List (Option ℕ)) (above : ℕ) (xs : List ℕ) (kept : ℕ)
    → ((s : ℕ) → HasCopy places s → HasCopy after s) → AreKeptFor old places above xs kept
    → AreKeptFor old after above xs kept
kept_still old places after above [] kept still is = tt
kept_still old places after above (slot ∷ rest) kept still is = record {
  own = is.own;
  more = is.more;
  all = is.all;
  enough = elim is.enough [
    | inl run ↦ inl run
    | inr (wide, last) ↦ inr (
      wide,
      record {
        next = last.next;
        others = λ other e. elim (last.others other e) [ inl same ↦ inl same | inr done ↦ inr (still other done) ];
      },
    )
  ];
  rest = kept_still old places after slot rest is.more still is.rest;
}

-- once a slot is in front, what is kept for the slot from which it was begun is enough
kept_left : (old after : List (Option Insn)) (origins' : List ℕ) (places places' : List (Option ℕ)) (slot : ℕ)
    (xs : List ℕ) (kept : ℕ)
    → ((s : ℕ) → HasCopy places s → HasCopy places' s) → HasCopy places' slot → IsFront after origins' slot
    → AreKeptFor old places slot xs kept
    → IsBudgetKept old after origins' places' xs kept
kept_left old after origins' places places' slot [] kept still done front is = tt
kept_left old after origins' places places' slot (top ∷ rest) kept still done front is = record {
  own = is.own;
  more = is.more;
  all = is.all;
  enough = elim is.enough [
    | inl run ↦ inl run
    | inr (wide, last) ↦ inr (
      λ to edge. elim (last.others to edge)
          [ inl same ↦ subst (λ (n : ℕ). HasCopy places' n) (sym same) done | inr before ↦ still to before ],
      inr (slot, last.next, front, wide),
    )
  ];
  rest = kept_still old places places' top rest is.more still is.rest;
}

-- a search within its budget, and one slot
module _ (old back : List (Option Insn)) (origins : List ℕ) (places : List (Option ℕ)) (opens : List Bool) (stack : List ℕ)
    (extra : ℕ) (budget : HasBudget old back origins places opens stack extra) (slot : ℕ) where
  -- the slot is begun from the top of the stack, where control goes to it, and has no copy yet
  module _ (inside : slot < length opens) (edge : (top : ℕ) → IsTop stack top → IsEdge old top slot × (copy_place places slot ≡ None)) where
    -- the budget with the slots of the slot's run is enough for the stack with the slot on top
    kept_new : (kept : ℕ) → kept ≡ run_slots old slot + budget.kept → IsBudgetKept old back origins places (reverse (stack ++ slot ∷ [])) kept
    kept_new kept is =
        subst (λ (xs : List ℕ). IsBudgetKept old back origins places xs kept) (sym (reverse_push stack slot)) (record {
          own = run_slots old slot;
          more = budget.kept;
          all = is;
          enough = inl (omega arith);
          rest =
              below_new old back origins places slot (reverse stack) budget.kept
              (λ top rest e. edge top (top_of stack top rest e)) budget.is_kept;
        })

    -- a search that begins a landing stays within its budget
    pub begun_landing : is_open opens slot ≡ false → IsLanding old slot
        → HasBudget old back origins places (slice_set opens slot true) (stack ++ slot ∷ []) extra
    begun_landing new landing = record {
      kept = run_slots old slot + budget.kept;
      is_kept = kept_new (run_slots old slot + budget.kept) refl;
      fits = λ landings has.
          let less = wait_less old opens slot inside landings new (has slot landing) in
          let before = budget.fits landings has in omega (arith, less, before);
    }

    -- a search that begins a slot stays within its budget if the budget grows by the slots of the slot's run
    pub begun_more : HasBudget old back origins places (slice_set opens slot true) (stack ++ slot ∷ []) (extra + run_slots old slot)
    begun_more = record {
      kept = run_slots old slot + budget.kept;
      is_kept = kept_new (run_slots old slot + budget.kept) refl;
      fits = λ landings has.
          let still = still_wait old opens slot inside landings in
          let before = budget.fits landings has in omega (arith, still, before);
    }

    -- a search that begins the next slot of the top stays within its budget
    pub begun_next : IsLinked old → (top : ℕ) → IsTop stack top → IsLastOf old places top slot
        → HasBudget old back origins places (slice_set opens slot true) (stack ++ slot ∷ []) extra
    begun_next linked top is_top last = record {
      kept = budget.kept;
      is_kept =
          subst (λ (xs : List ℕ). IsBudgetKept old back origins places xs budget.kept)
          (sym (reverse_push stack slot ∙ ap (λ (xs : List ℕ). slot ∷ xs) (reverse_top stack top is_top)))
          (below_next old back origins places linked slot top (reverse (take (length stack - 1) stack)) budget.kept (edge top is_top).1 last
          (subst (λ (xs : List ℕ). IsBudgetKept old back origins places xs budget.kept) (reverse_top stack top is_top) budget.is_kept));
      fits = λ landings has.
          let still = still_wait old opens slot inside landings in
          let before = budget.fits landings has in omega (arith, still, before);
    }

  -- the slot is on top of the stack
  module _ (top : IsTop stack slot) where
    -- the budget is kept for the slot on top and for the slots below it
    pub kept_top : IsBudgetKept old back origins places (slot ∷ reverse (take (length stack - 1) stack)) budget.kept
    kept_top = subst (λ (xs : List ℕ). IsBudgetKept old back origins places xs budget.kept) (reverse_top stack slot top) budget.is_kept

    -- what is kept for the slot on top suffices to put it in front
    pub suffices : Suffices old back origins slot kept_top.own
    suffices = elim kept_top.enough [ inl run ↦ inl run | inr (ready, enough) ↦ enough ]

    -- a search that puts the slot on top in front stays within its budget
    pub left_budget : (back' : List (Option Insn)) (origins' : List ℕ) (places' : List (Option ℕ))
        → ((s : ℕ) → HasCopy places s → HasCopy places' s) → HasCopy places' slot → IsFront back' origins' slot
        → length back' ≤ length back + kept_top.own
        → HasBudget old back' origins' places' opens (take (length stack - 1) stack) extra
    left_budget back' origins' places' still done front grown = record {
      kept = kept_top.more;
      is_kept =
          kept_left old back' origins' places places' slot (reverse (take (length stack - 1) stack))
          kept_top.more still done front kept_top.rest;
      fits = λ landings has. let before = budget.fits landings has in let all = kept_top.all in omega (arith, grown, before, all);
    }

-- a program whose copy is full, within its budget and within that of a forward order, is too long
pub full_within : (old back : List (Option Insn)) (origins : List ℕ) (places : List (Option ℕ)) (opens : List Bool)
    (stack : List ℕ) (extra own most : ℕ) (d : Disorder)
    → IsLinked old → (budget : HasBudget old back origins places opens stack extra) → own + extra ≤ budget.kept + run_slots old 0
    → most ≤ length back + own → IsFull most d → (long : ℕ) → IsFull long d → (4096 < long → HasLongOrder old)
    → IsSearchFault old d
full_within old back origins places opens stack extra own most (Outside slot) linked budget le fits full long over order = absurd full
full_within old back origins places opens stack extra own most (Ends slot) linked budget le fits full long over order = absurd full
full_within old back origins places opens stack extra own most (Loop from to) linked budget le fits full long over order = absurd full
full_within old back origins places opens stack extra own most Long linked budget le fits full long over order =
    (linked, λ landings has. let within = budget.fits landings has in omega (arith, within, le, fits, full), order over)
full_within old back origins places opens stack extra own most OutOfMemory linked budget le fits full long over order = tt

-- a search within a budget is within a larger one
pub budget_more : (old back : List (Option Insn)) (origins : List ℕ) (places : List (Option ℕ)) (opens : List Bool)
    (stack : List ℕ) (a b : ℕ)
    → a ≤ b → HasBudget old back origins places opens stack a
    → HasBudget old back origins places opens stack b
budget_more old back origins places opens stack a b le budget = record {
  kept = budget.kept;
  is_kept = budget.is_kept;
  fits = λ landings has. let before = budget.fits landings has in omega (arith, le, before);
}

-- a missing target is that of a jump, or the next slot when all other targets are in place
pub missing_way : (old : List (Option Insn)) (places : List (Option ℕ)) (slot : ℕ) (insn : Insn) (targets : Targets) (to : ℕ)
    → instruction_at old slot ≡ Some insn → AreTargets old slot insn targets → IsMissing places targets to
    → IsLanding old to ⊎ IsLastOf old places slot to
missing_way old places slot insn targets to here are missing = elim missing.1 [
  | inl jump ↦ inl (slot, are.jumps to jump)
  | inr (next, done) ↦ inr (record {
    next = next_of old slot insn targets to here are next;
    others = λ other edge. elim (are.out.each other edge) [
      | inl on ↦ inl (some_same _ other to on next)
      | inr jump ↦ inr (done other jump)
    ];
  })
]
