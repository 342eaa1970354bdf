-- The stack of the search, and what is done.
use Rattle.std.proofs.Common.{◌≡◌, ℕ, ◌+◌, ◌-◌, ◌<◌, ◌≤◌, ◌≢◌, Bool, true, false, true≢false, List, [], ◌∷◌, ◌++◌, length, take, get_or, Option, Some, None, refl, arith, sym, ap, ◌∙◌, subst, ◌⊎◌, inl, inr, length-append, length-take}
use Rattle.std.specs.Prelude.{slice_index, slice_set}
use Rattle.std.proofs.lemmas.Bool.{cases_eq}
use Rattle.std.proofs.lemmas.List.{get_or_append_left, get_or-append-add, get_or-take, get_or-set_same, get_or-set_other, length-set}
use Rattle.std.proofs.lemmas.List.Sums.{sum_by-set}
use Rattle.bq_insn.specs.declared.Insn.{Insn}
use Rattle.bq_verify.specs.Edges.{IsEdge, IsStart}
use Rattle.bq_verify.specs.Paths.{Path}
use Rattle.bq_insn.proofs.OptionLemmas.{some_same, some_none}
use Rattle.bq_verify.proofs.EdgeLemmas.{start_inside, Path-push}
use Rattle.bq_import.specs.Copies.{IsCopyOfSlot}
use Rattle.bq_import.specs.Backward.{IsBuilt, IsLengthened}
use Rattle.bq_import.specs.Search.{AllComeTo, AreWaiting, IsCounted, IsQueued, copy_place, HasCopy, AreCopyPlaces, AreClosed, IsSlotReady, is_open, unopened, IsStacked, IsTop, IsSearching, KeepsOpen, left_of}

-- a slot that was put in place has a copy
pub now_set : (places : List (Option ℕ)) (slot place : ℕ) → slot < length places → HasCopy (slice_set places slot (Some place)) slot
now_set places slot place inside = (place, get_or-set_same places slot (Some place) None inside)

-- each slot that had a copy still has one
pub still_set : (places : List (Option ℕ)) (slot place : ℕ) → slot < length places → (s : ℕ) → HasCopy places s
    → HasCopy (slice_set places slot (Some place)) s
still_set places slot place inside s done = elim (cases_eq s slot) [
  | inl e ↦ subst (λ (n : ℕ). HasCopy (slice_set places slot (Some place)) n) (sym e) (now_set places slot place inside)
  | inr apart ↦ (done.0, get_or-set_other places slot s (Some place) None apart ∙ done.1)
]

-- control comes to each slot to which it goes from the top of the stack
pub comes_next : (slots : List (Option Insn)) (stack : List ℕ) (top to : ℕ)
    → AllComeTo slots stack → IsTop stack top → IsEdge slots top to → Path slots 0 to
comes_next slots stack top to comes is edge =
    let long = is.long in
    Path-push slots 0 top to (subst (λ (n : ℕ). Path slots 0 n) is.slot_is (comes is.below (omega (arith, long)))) edge

-- if control comes to each slot of a list and to one more slot, it comes to each slot of the longer list
pub comes_more : (slots : List (Option Insn)) (list : List ℕ) (slot : ℕ)
    → AllComeTo slots list → Path slots 0 slot → AllComeTo slots (list ++ slot ∷ [])
comes_more slots list slot comes way index lt = elim (cases_eq index (length list)) [
  | inl e ↦
      let last : slice_index (list ++ slot ∷ []) index ≡ slot =
      ap (λ (n : ℕ). get_or (list ++ slot ∷ []) n 0) (let same : index ≡ length list + 0 = omega (arith, e) in same)
      ∙ get_or-append-add list (slot ∷ []) 0 0 in
      subst (λ (n : ℕ). Path slots 0 n) (sym last) way
  | inr apart ↦
      let long = length-append list (slot ∷ []) in
      let inside : index < length list = omega (arith, lt, long, apart) in
      subst (λ (n : ℕ). Path slots 0 n) (sym (get_or_append_left list (slot ∷ []) 0 index inside)) (comes index inside)
]

-- control comes to each slot of a queue also when a slot to which it comes is queued
pub comes_queued : (slots : List (Option Insn)) (before : List ℕ) (slot : Option ℕ) (after : List ℕ)
    → IsQueued before slot after → AllComeTo slots before → ((k : ℕ) → slot ≡ Some k → Path slots 0 k)
    → AllComeTo slots after
comes_queued slots before slot after queued comes way = elim queued [
  | inl same ↦ subst (λ (list : List ℕ). AllComeTo slots list) (sym same) comes
  | inr (k, is, more) ↦ subst (λ (list : List ℕ). AllComeTo slots list) (sym more) (comes_more slots before k comes (way k is))
]

-- a search on its way, and one slot
module _ (maps : ℕ) (old back : List (Option Insn)) (origins : List ℕ) (places : List (Option ℕ)) (opens : List Bool)
    (stack : List ℕ) (at : IsSearching maps old back origins places opens stack) (slot : ℕ) where
  -- the slot is begun from the top of the stack, where control goes to it
  module _ (start : IsStart old slot) (new : is_open opens slot ≡ false) (edge : (top : ℕ) → IsTop stack top → IsEdge old top slot) where
    -- the list of begun slots has the slot
    slot_inside : slot < length opens
    slot_inside = let inside = start_inside old slot start in let room = at.room in omega (arith, inside, room)

    -- each slot on the stack stays on the stack
    on_more : (s : ℕ) → IsStacked stack s → IsStacked (stack ++ slot ∷ []) s
    on_more s on =
        let long = length-append stack (slot ∷ []) in
        let inside = on.inside in
        record {
          index = on.index;
          inside = omega (arith, long, inside);
          slot_is = get_or_append_left stack (slot ∷ []) 0 on.index on.inside ∙ on.slot_is;
        }

    -- the slot is on top of the stack
    last_on : slice_index (stack ++ slot ∷ []) (length stack) ≡ slot
    last_on =
        ap (λ (n : ℕ). get_or (stack ++ slot ∷ []) n 0) (let e : length stack ≡ length stack + 0 = omega arith in e)
        ∙ get_or-append-add stack (slot ∷ []) 0 0

    -- each begun slot has a copy or is on the stack
    opened_more : (s : ℕ) → is_open (slice_set opens slot true) s ≡ true → HasCopy places s ⊎ IsStacked (stack ++ slot ∷ []) s
    opened_more s begun = elim (cases_eq s slot) [
      | inl e ↦
          inr (let long = length-append stack (slot ∷ []) in
          record { index = length stack; inside = omega (arith, long); slot_is = last_on ∙ sym e })
      | inr apart ↦ elim (at.opened s (sym (get_or-set_other opens slot s true false apart) ∙ begun))
          [ inl done ↦ inl done | inr on ↦ inr (on_more s on) ]
    ]

    -- below the slot the stack is as before
    left_index : (i : ℕ) → i < length stack → slice_index (stack ++ slot ∷ []) i ≡ slice_index stack i
    left_index i lt = get_or_append_left stack (slot ∷ []) 0 i lt

    -- an index of the longer stack is one of the old stack, or that of the slot
    below_or : (i : ℕ) → i < length stack + 1 → (i < length stack) ⊎ (i ≡ length stack)
    below_or i lt = elim (cases_eq i (length stack)) [ inl e ↦ inr e | inr apart ↦ inl (omega (arith, lt, apart)) ]

    -- a path leads from each slot of the old stack to the slot
    to_last : (i : ℕ) → i < length stack → Path old (slice_index stack i) slot
    to_last i lt =
        let below = length stack - 1 in
        let long : length stack ≡ below + 1 = omega (arith, lt) in
        Path-push old (slice_index stack i) (slice_index stack below) slot (at.ways i below (omega (arith, lt)) (omega (arith, lt)))
        (edge (slice_index stack below) (record { below = below; long = long; slot_is = refl }))

    -- the longer stack is a path
    ways_more : (i j : ℕ) → i ≤ j → j < length (stack ++ slot ∷ [])
        → Path old (slice_index (stack ++ slot ∷ []) i) (slice_index (stack ++ slot ∷ []) j)
    ways_more i j le lt =
        let long = length-append stack (slot ∷ []) in
        elim (below_or j (omega (arith, long, lt))) [
          | inl inside ↦
              subst (λ (n : ℕ). Path old n (slice_index (stack ++ slot ∷ []) j)) (sym (left_index i (omega (arith, le, inside))))
              (subst (λ (n : ℕ). Path old (slice_index stack i) n) (sym (left_index j inside)) (at.ways i j le inside))
          | inr e ↦
              let there : slice_index (stack ++ slot ∷ []) j ≡ slot = ap (λ (n : ℕ). slice_index (stack ++ slot ∷ []) n) e ∙ last_on in
              subst (λ (n : ℕ). Path old (slice_index (stack ++ slot ∷ []) i) n) (sym there)
              (elim (below_or i (omega (arith, le, e))) [
                | inl inside ↦ subst (λ (n : ℕ). Path old n slot) (sym (left_index i inside)) (to_last i inside)
                | inr e' ↦
                    let here : slice_index (stack ++ slot ∷ []) i ≡ slot =
                    ap (λ (n : ℕ). slice_index (stack ++ slot ∷ []) n) e' ∙ last_on in
                    subst (λ (n : ℕ). Path old n slot) (sym here) (record { rest = []; is_path = tt; ends = refl })
              ])
        ]

    -- an instruction begins at each slot of the longer stack
    starts_more : (i : ℕ) → i < length (stack ++ slot ∷ []) → IsStart old (slice_index (stack ++ slot ∷ []) i)
    starts_more i lt =
        let long = length-append stack (slot ∷ []) in
        elim (below_or i (omega (arith, long, lt))) [
          | inl inside ↦ subst (λ (n : ℕ). IsStart old n) (sym (left_index i inside)) (at.starts i inside)
          | inr e ↦ subst (λ (n : ℕ). IsStart old n) (sym (ap (λ (n : ℕ). slice_index (stack ++ slot ∷ []) n) e ∙ last_on)) start
        ]

    -- the slot is begun now
    pub open_now : is_open (slice_set opens slot true) slot ≡ true
    open_now = get_or-set_same opens slot true false slot_inside

    -- each slot that was begun stays begun
    pub keeps_open : KeepsOpen opens (slice_set opens slot true)
    keeps_open s begun = elim (cases_eq s slot) [
      | inl e ↦ ap (λ (n : ℕ). is_open (slice_set opens slot true) n) e ∙ open_now
      | inr apart ↦ get_or-set_other opens slot s true false apart ∙ begun
    ]

    -- the slot has no copy yet
    shut_undone : copy_place places slot ≡ None
    shut_undone = by (copy_place places slot) refl
      where
        by : (v : Option ℕ) → copy_place places slot ≡ v → copy_place places slot ≡ None
        by None e = e
        by (Some place) e = absurd (true≢false (sym (at.waiting.begun slot (place, e)) ∙ new))

    -- the slot is at the index on top
    now_last : (i : ℕ) → i ≡ length stack → slice_index (stack ++ slot ∷ []) i ≡ slot
    now_last i e = ap (λ (n : ℕ). slice_index (stack ++ slot ∷ []) n) e ∙ last_on

    -- what holds for each slot of the old stack and for the slot holds for each slot of the longer stack
    each_more : (P : ℕ → Type 0) → ((i : ℕ) → i < length stack → P (slice_index stack i)) → P slot
        → (i : ℕ) → i < length (stack ++ slot ∷ [])
        → P (slice_index (stack ++ slot ∷ []) i)
    each_more P before last i lt = let long = length-append stack (slot ∷ []) in elim (below_or i (omega (arith, long, lt))) [
      | inl inside ↦ subst P (sym (left_index i inside)) (before i inside)
      | inr e ↦ subst P (sym (now_last i e)) last
    ]

    -- no slot is on the longer stack twice
    apart_more : (i j : ℕ) → i < j → j < length (stack ++ slot ∷ [])
        → slice_index (stack ++ slot ∷ []) i ≢ slice_index (stack ++ slot ∷ []) j
    apart_more i j lt less =
        let long = length-append stack (slot ∷ []) in
        elim (below_or j (omega (arith, long, less))) [
          | inl inside ↦
              λ same.
              at.waiting.apart i j lt inside (sym (left_index i (omega (arith, lt, inside))) ∙ (same ∙ left_index j inside))
          | inr e ↦ λ same.
              let below : i < length stack = omega (arith, lt, e) in
              let is : slice_index stack i ≡ slot = sym (left_index i below) ∙ (same ∙ now_last j e) in
              true≢false (sym (at.waiting.opened i below) ∙ (ap (is_open opens) is ∙ new))
        ]

    -- the slots of the longer stack were begun and have no copies yet
    waits_more : AreWaiting places (slice_set opens slot true) (stack ++ slot ∷ [])
    waits_more = record {
      begun = λ s done. keeps_open s (at.waiting.begun s done);
      opened =
          each_more (λ n. is_open (slice_set opens slot true) n ≡ true)
          (λ i lt. keeps_open (slice_index stack i) (at.waiting.opened i lt)) open_now;
      undone = each_more (λ n. copy_place places n ≡ None) at.waiting.undone shut_undone;
      apart = apart_more;
    }

    -- once the slot is begun and on top of the stack, the search is still on its way
    pub after_open : Path old 0 slot → IsSearching maps old back origins places (slice_set opens slot true) (stack ++ slot ∷ [])
    after_open way = record {
      ordered = at.ordered;
      room = length-set opens slot true ∙ at.room;
      opened = opened_more;
      ways = ways_more;
      starts = starts_more;
      comes = comes_more old stack slot at.comes way;
      waiting = waits_more;
    }

    -- once the slot is begun and on top of the stack, less is left to do
    pub less_open : left_of (slice_set opens slot true) (stack ++ slot ∷ []) < left_of opens stack
    less_open =
        let sum = sum_by-set unopened opens slot true false slot_inside in
        let one : unopened (get_or opens slot false) ≡ 1 = ap unopened new in
        let long = length-append stack (slot ∷ []) in
        omega (arith, sum, one, long)

  -- the slot is on top of the stack
  module _ (top : IsTop stack slot) where
    -- control comes to the slot on top of the stack
    pub top_comes : Path old 0 slot
    top_comes = let long = top.long in subst (λ (n : ℕ). Path old 0 n) top.slot_is (at.comes top.below (omega (arith, long)))

    -- the slot on top of the stack has no copy yet
    pub top_undone : copy_place places slot ≡ None
    top_undone =
        let long = top.long in
        subst (λ (n : ℕ). copy_place places n ≡ None) top.slot_is (at.waiting.undone top.below (omega (arith, long)))

    -- an instruction begins at the slot on top of the stack
    pub top_starts : IsStart old slot
    top_starts = let long = top.long in subst (λ (n : ℕ). IsStart old n) top.slot_is (at.starts top.below (omega (arith, long)))

  -- the slot on top of the stack was put in front, after all slots to which control goes from it
  module _ (top : IsTop stack slot) (ready : IsSlotReady old places slot) (back' : List (Option Insn)) (origins' : List ℕ)
      (more : IsLengthened maps old back origins back' origins' slot) where
    -- the place of the new copy
    place : ℕ
    place = length back' - 1

    -- the list of places has the slot
    on_stack : slot < length places
    on_stack =
        let long = top.long in
        let room = at.ordered.room in
        let inside = start_inside old slot (subst (λ (n : ℕ). IsStart old n) top.slot_is (at.starts top.below (omega (arith, long)))) in
        omega (arith, inside, room)

    -- the slot has a copy now
    done_now : HasCopy (slice_set places slot (Some place)) slot
    done_now = now_set places slot place on_stack

    -- each slot that had a copy still has one
    done_still : (s : ℕ) → HasCopy places s → HasCopy (slice_set places slot (Some place)) s
    done_still = still_set places slot place on_stack

    -- each place in the list is that of a copy
    known_more : AreCopyPlaces back' origins' (slice_set places slot (Some place))
    unfolding place
    known_more s p e = elim (cases_eq s slot) [
      | inl same ↦
          let is : place ≡ p =
          some_same _ place p (get_or-set_same places slot (Some place) None on_stack)
          (ap (λ (n : ℕ). copy_place (slice_set places slot (Some place)) n) (sym same) ∙ e) in
          let front = more.front in
          let front_is = front.place_is in
          let there : front.place ≡ p = omega (arith, front_is, is) in
          subst (λ (n : ℕ). IsCopyOfSlot back' origins' n s) there
          (subst (λ (n : ℕ). IsCopyOfSlot back' origins' front.place n) (sym same) front.stands)
      | inr apart ↦ more.keeps p s (at.ordered.known s p (sym (get_or-set_other places slot s (Some place) None apart) ∙ e))
    ]

    -- control goes from slots that have copies only to slots that have copies
    closed_more : AreClosed old (slice_set places slot (Some place))
    closed_more from to done edge = elim (cases_eq from slot) [
      | inl e ↦ done_still to (ready to (subst (λ (n : ℕ). IsEdge old n to) e edge))
      | inr apart ↦
          done_still to
          (at.ordered.closed from to (done.0, sym (get_or-set_other places slot from (Some place) None apart) ∙ done.1) edge)
    ]

    -- below the slot the stack is as before
    taken_index : (i : ℕ) → i < length stack - 1 → slice_index (take (length stack - 1) stack) i ≡ slice_index stack i
    taken_index i lt = get_or-take (length stack - 1) stack i 0 lt

    -- the stack is shorter by one slot
    taken_long : length (take (length stack - 1) stack) ≡ length stack - 1
    taken_long = let least = length-take (length stack - 1) stack in omega (arith, least)

    -- each begun slot has a copy or is on the shorter stack
    opened_less : (s : ℕ) → is_open opens s ≡ true
        → HasCopy (slice_set places slot (Some place)) s ⊎ IsStacked (take (length stack - 1) stack) s
    opened_less s begun = elim (at.opened s begun) [
      | inl done ↦ inl (done_still s done)
      | inr on ↦
          elim (cases_eq on.index top.below) [
            | inl e ↦
                let same : s ≡ slot = sym on.slot_is ∙ (ap (λ (n : ℕ). slice_index stack n) e ∙ top.slot_is) in
                inl (subst (λ (n : ℕ). HasCopy (slice_set places slot (Some place)) n) (sym same) done_now)
            | inr apart ↦
                let inside = on.inside in
                let long = top.long in
                let lt : on.index < length stack - 1 = omega (arith, inside, long, apart) in
                let taken = taken_long in
                inr (record { index = on.index; inside = omega (arith, lt, taken); slot_is = taken_index on.index lt ∙ on.slot_is })
          ]
    ]

    -- the shorter stack is a path
    ways_less : (i j : ℕ) → i ≤ j → j < length (take (length stack - 1) stack)
        → Path old (slice_index (take (length stack - 1) stack) i) (slice_index (take (length stack - 1) stack) j)
    ways_less i j le lt =
        let taken = taken_long in
        let lt' : j < length stack - 1 = omega (arith, lt, taken) in
        subst (λ (n : ℕ). Path old n (slice_index (take (length stack - 1) stack) j)) (sym (taken_index i (omega (arith, le, lt'))))
        (subst (λ (n : ℕ). Path old (slice_index stack i) n) (sym (taken_index j lt')) (at.ways i j le (omega (arith, lt'))))

    -- an instruction begins at each slot of the shorter stack
    starts_less : (i : ℕ) → i < length (take (length stack - 1) stack) → IsStart old (slice_index (take (length stack - 1) stack) i)
    starts_less i lt =
        let taken = taken_long in
        let lt' : i < length stack - 1 = omega (arith, lt, taken) in
        subst (λ (n : ℕ). IsStart old n) (sym (taken_index i lt')) (at.starts i (omega (arith, lt')))

    -- control comes to each slot of the shorter stack
    comes_less : AllComeTo old (take (length stack - 1) stack)
    comes_less i lt =
        let taken = taken_long in
        let lt' : i < length stack - 1 = omega (arith, lt, taken) in
        subst (λ (n : ℕ). Path old 0 n) (sym (taken_index i lt')) (at.comes i (omega (arith, lt')))

    -- the slots of the shorter stack were begun and have no copies yet
    waits_less : AreWaiting (slice_set places slot (Some place)) opens (take (length stack - 1) stack)
    waits_less = record {
      begun = λ s done. elim (cases_eq s slot) [
        | inl e ↦
            let long = top.long in
            ap (is_open opens) (e ∙ sym top.slot_is) ∙ at.waiting.opened top.below (omega (arith, long))
        | inr other ↦ at.waiting.begun s (done.0, sym (get_or-set_other places slot s (Some place) None other) ∙ done.1)
      ];
      opened = λ i lt.
          let taken = taken_long in
          let below : i < length stack - 1 = omega (arith, lt, taken) in
          ap (is_open opens) (taken_index i below) ∙ at.waiting.opened i (omega (arith, below));
      undone = λ i lt.
          let taken = taken_long in
          let long = top.long in
          let below : i < length stack - 1 = omega (arith, lt, taken) in
          let other : slice_index stack i ≢ slot =
          λ e. at.waiting.apart i top.below (omega (arith, below, long)) (omega (arith, long)) (e ∙ sym top.slot_is) in
          ap (copy_place (slice_set places slot (Some place))) (taken_index i below)
          ∙ (get_or-set_other places slot (slice_index stack i) (Some place) None other ∙ at.waiting.undone i (omega (arith, below)));
      apart = λ i j lt less.
          let taken = taken_long in
          let below : j < length stack - 1 = omega (arith, less, taken) in
          λ same.
          at.waiting.apart i j lt (omega (arith, below))
          (sym (taken_index i (omega (arith, lt, below))) ∙ (same ∙ taken_index j below));
    }

    -- once the slot has a copy and is off the stack, the search is still on its way
    pub after_leave : IsCounted old back' origins' (slice_set places slot (Some (length back' - 1)))
        → IsSearching maps old back' origins' (slice_set places slot (Some (length back' - 1))) opens (take (length stack - 1) stack)
    unfolding place
    after_leave counted = record {
      ordered = record {
        built = more.built;
        known = known_more;
        closed = closed_more;
        counted = counted;
        room = length-set places slot (Some place) ∙ at.ordered.room;
      };
      room = at.room;
      opened = opened_less;
      ways = ways_less;
      starts = starts_less;
      comes = comes_less;
      waiting = waits_less;
    }

    -- once the slot is off the stack, less is left to do
    pub less_leave : left_of opens (take (length stack - 1) stack) < left_of opens stack
    less_leave = let taken = taken_long in let long = top.long in omega (arith, taken, long)

-- a search that has begun no slot is on its way
pub nothing_begun : (maps : ℕ) (old back : List (Option Insn)) (origins : List ℕ) (places : List (Option ℕ))
    (opens : List Bool) (stack : List ℕ)
    → IsBuilt maps old back origins → back ≡ [] → ((k : ℕ) → copy_place places k ≡ None) → length places ≡ length old
    → ((k : ℕ) → is_open opens k ≡ false) → length opens ≡ length old → stack ≡ []
    → IsSearching maps old back origins places opens stack
nothing_begun maps old back origins places opens stack built nothing none room shut room' empty =
    let short : length stack ≡ 0 = ap length empty in
    record {
      ordered = record {
        built = built;
        known = λ slot place e. absurd (some_none _ place e (none slot));
        closed = λ from to done edge. absurd (some_none _ done.0 done.1 (none from));
        counted = record {
          order = [];
          forward = tt;
          has = λ slot done. absurd (some_none _ done.0 done.1 (none slot));
          only = λ slot at. absurd at;
          front = λ first later e. absurd (let no : ⊥ = cc in no);
          short = let zero_is : length back ≡ 0 = ap length nothing in omega (arith, zero_is);
        };
        room = room;
      };
      room = room';
      opened = λ slot e. absurd (true≢false (sym e ∙ shut slot));
      ways = λ i j le lt. absurd (omega (arith, lt, short));
      starts = λ i lt. absurd (omega (arith, lt, short));
      comes = λ i lt. absurd (omega (arith, lt, short));
      waiting = record {
        begun = λ slot done. absurd (some_none _ done.0 done.1 (none slot));
        opened = λ i lt. absurd (omega (arith, lt, short));
        undone = λ i lt. absurd (omega (arith, lt, short));
        apart = λ i j lt less. absurd (omega (arith, less, short));
      };
    }
