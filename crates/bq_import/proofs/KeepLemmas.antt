-- The copy of what control comes to in a program whose jumps go forward, with each instruction once.
use Rattle.std.proofs.Common.{◌≡◌, ℕ, zero, suc, ◌+◌, ◌-◌, ◌<◌, ◌≤◌, ◌≢◌, Bool, true, false, List, [], ◌∷◌, ◌++◌, length, replicate, Option, Some, None, refl, arith, sym, ap, ◌∙◌, subst, ◌⊎◌, inl, inr}
use Rattle.std.specs.Prelude.{slice_set}
use Rattle.std.proofs.lemmas.Bool.{cases_eq}
use Rattle.std.proofs.lemmas.List.{get_or-set_same, get_or-set_other, length-set}
use Rattle.bq_insn.specs.declared.Insn.{Insn}
use Rattle.bq_insn.specs.Slots.{slots_of, spread}
use Rattle.bq_bpf.specs.Steps.{instruction_at}
use Rattle.bq_verify.specs.Edges.{IsEdge, IsStart}
use Rattle.bq_verify.specs.Passes.{IsAmongTargets}
use Rattle.bq_verify.specs.declared.targets.Targets.{Targets}
use Rattle.bq_insn.proofs.OptionLemmas.{some_same, some_none}
use Rattle.bq_verify.proofs.EdgeLemmas.{start_inside, Path-push}
use Rattle.bq_import.specs.Copies.{IsCopyOfSlot}
use Rattle.bq_import.specs.Backward.{IsBuilt, IsFront, IsLengthened, IsOneMore}
use Rattle.bq_import.specs.Faults.{AllForward, HasGaps, IsLinked}
use Rattle.bq_import.specs.Search.{AreCopyPlaces, AreTargets, HasCopy, IsSlotReady, is_open, copy_place}
use Rattle.bq_import.specs.Keeping.{AreFollowed, AreReached, IsKeeping, IsMarked}
use Rattle.bq_import.proofs.RoomLemmas.{lies_within}

-- a number from the bound on is the bound, or is above it
at_or_above : (bound k : ℕ) → bound ≤ k → (k ≡ bound) ⊎ (bound + 1 ≤ k)
at_or_above bound k le = elim (cases_eq k bound) [ inl e ↦ inl e | inr apart ↦ inr (omega (arith, le, apart)) ]

-- a slot to which control does not come counts as followed
pub not_followed : (slots : List (Option Insn)) (slot : ℕ) (found : List Bool)
    → is_open found slot ≡ false → AreFollowed slots slot found → AreFollowed slots (slot + 1) found
not_followed slots slot found shut p = record {
  room = p.room;
  begins = p.begins;
  starts = p.starts;
  ways = p.ways;
  closed = λ k to lt e edge. elim (cases_eq k slot) [
    | inl same ↦ absurd (let no : true ≡ false = sym e ∙ (ap (λ (n : ℕ). is_open found n) same ∙ shut) in let never : ⊥ = cc in never)
    | inr apart ↦ p.closed k to (omega (arith, lt, apart)) e edge
  ];
}

-- control comes to the slot, and its targets are marked
module _ (slots : List (Option Insn)) (slot : ℕ) (insn : Insn) (targets : Targets) (are : AreTargets slots slot insn targets)
    (forward : AllForward slots) (found one two : List Bool) (p : AreFollowed slots slot found)
    (here : is_open found slot ≡ true) (a : IsMarked found targets.next one) (b : IsMarked one targets.jump two) where
  -- a found slot was found before, or is a target
  found_by : (k : ℕ) → is_open two k ≡ true → (is_open found k ≡ true) ⊎ IsAmongTargets targets k
  found_by k e = elim (b.only k e) [
    | inl was ↦ elim (a.only k was) [ inl first ↦ inl first | inr next ↦ inr (inl next) ]
    | inr jump ↦ inr (inr jump)
  ]

  -- each target is found
  target_found : (to : ℕ) → IsAmongTargets targets to → is_open two to ≡ true
  target_found to of =
      let inside = start_inside slots to (are.starts to of) in
      let room = p.room in
      let long = a.long in
      elim of [
        | inl next ↦ b.kept to (a.now to next (omega (arith, inside, room)))
        | inr jump ↦ b.now to jump (omega (arith, inside, room, long))
      ]

  -- once its targets are marked, the slot is followed
  pub followed : AreFollowed slots (slot + 1) two
  followed = record {
    room = b.long ∙ (a.long ∙ p.room);
    begins = b.kept 0 (a.kept 0 p.begins);
    starts = λ k e. elim (found_by k e) [ inl was ↦ p.starts k was | inr of ↦ are.starts k of ];
    ways = λ k e. elim (found_by k e)
        [ inl was ↦ p.ways k was | inr of ↦ Path-push slots 0 slot k (p.ways slot here) (are.out.only k of) ];
    closed = λ k to lt e edge. elim (cases_eq k slot) [
      | inl same ↦ target_found to (are.out.each to (subst (λ (n : ℕ). IsEdge slots n to) same edge))
      | inr apart ↦ elim (found_by k e) [
        | inl was ↦ b.kept to (a.kept to (p.closed k to (omega (arith, lt, apart)) was edge))
        | inr of ↦ let later = forward slot k (are.out.only k of) in absurd (omega (arith, later, lt, apart))
      ]
    ];
  }

-- once all slots are followed, the found slots are those to which control comes
pub all_followed : (slots : List (Option Insn)) (bound : ℕ) (found : List Bool)
    → length slots ≤ bound → AreFollowed slots bound found → AreReached slots found
all_followed slots bound found past p = record {
  room = p.room;
  begins = p.begins;
  starts = p.starts;
  ways = p.ways;
  closed = λ k to e edge. let inside = start_inside slots k (p.starts k e) in p.closed k to (omega (arith, inside, past)) e edge;
}

-- after the last slot, the copy of what control comes to is empty
pub nothing_kept : (maps : ℕ) (old : List (Option Insn)) (found : List Bool) (back : List (Option Insn))
    (origins : List ℕ) (places : List (Option ℕ))
    → AreReached old found → IsBuilt maps old back origins → back ≡ [] → ((k : ℕ) → copy_place places k ≡ None)
    → length places ≡ length old
    → IsKeeping maps old found (length old) back origins places
nothing_kept maps old found back origins places r built empty none room =
    let blank : length back ≡ 0 = ap length empty in
    let no_start : (place : ℕ) → IsStart back place → ⊥ =
    λ place start. let inside = start_inside back place start in omega (arith, inside, blank) in
    record {
      built = built;
      known = λ slot place e. absurd (some_none _ place e (none slot));
      room = room;
      done = λ k le e. let inside = start_inside old k (r.starts k e) in absurd (omega (arith, le, inside));
      above = λ place from s. absurd (no_start place s.start);
      comes = λ place from s. absurd (no_start place s.start);
      once = λ place from s. absurd (no_start place s.start);
      front = λ k le e least. let inside = start_inside old k (r.starts k e) in absurd (omega (arith, le, inside));
      fits = record { from = length old; above = omega arith; is = inl refl; fits = omega (arith, blank) };
    }

-- the copy of what control comes to after one slot
module _ (maps : ℕ) (old : List (Option Insn)) (found : List Bool) (slot : ℕ) (back : List (Option Insn))
    (origins : List ℕ) (places : List (Option ℕ)) (reached : AreReached old found)
    (at : IsKeeping maps old found (slot + 1) back origins places) where
  -- a slot to which control does not come is passed over
  pub passed_over : is_open found slot ≡ false → IsKeeping maps old found slot back origins places
  passed_over shut =
      let later : (k : ℕ) → slot ≤ k → is_open found k ≡ true → slot + 1 ≤ k = λ k le e. elim (at_or_above slot k le) [
        | inl same ↦ absurd (let no : true ≡ false = sym e ∙ (ap (λ (n : ℕ). is_open found n) same ∙ shut) in let never : ⊥ = cc in never)
        | inr more ↦ more
      ] in
      let room = at.fits in
      let high = room.above in
      record {
        built = at.built;
        known = at.known;
        room = at.room;
        done = λ k le e. at.done k (later k le e) e;
        above = λ place from s. let more = at.above place from s in omega (arith, more);
        comes = at.comes;
        once = at.once;
        front = λ k le e least. at.front k (later k le e) e (λ j above below is. least j (omega (arith, above)) below is);
        fits = record { from = room.from; above = omega (arith, high); is = room.is; fits = room.fits };
      }

  -- control comes to the slot and goes only forward, and an instruction begins there
  module _ (linked : IsLinked old) (forward : AllForward old) (gaps : HasGaps old) (here : is_open found slot ≡ true)
      (insn : Insn) (begins : instruction_at old slot ≡ Some insn) where
    -- there is room for the instruction at the slot
    pub enough_room : (length back + slots_of insn + slot ≤ length old)
    enough_room =
        let room = at.fits in
        let high = room.above in
        let fits = room.fits in
        let behind : slot + slots_of insn ≤ room.from = elim room.is [
          | inl end ↦ let within = lies_within old slot insn begins linked in omega (arith, end, within)
          | inr start ↦ not_within room.from high start
        ] in
        omega (arith, fits, behind)
      where
        le_or_lt : (a b : ℕ) → (a ≤ b) ⊎ (b < a)
        le_or_lt zero b = inl (omega arith)
        le_or_lt (suc a) zero = inr (omega arith)
        le_or_lt (suc a) (suc b) = elim (le_or_lt a b) [ inl le ↦ inl (omega (arith, le)) | inr lt ↦ inr (omega (arith, lt)) ]

        not_within : (e : ℕ) → slot + 1 ≤ e → IsStart old e → slot + slots_of insn ≤ e
        not_within e above start = elim (le_or_lt (slot + slots_of insn) e) [
          | inl le ↦ le
          | inr lt ↦ absurd (gaps slot insn begins e (omega (arith, above)) lt start)
        ]

    -- each slot to which control goes from this one has a copy
    pub ready_to_keep : IsSlotReady old places slot
    ready_to_keep to edge =
        let later = forward slot to edge in
        at.done to (omega (arith, later)) (reached.closed slot to here edge)

    -- the next instruction is in front of the copy
    pub next_in_front : (targets : Targets) → AreTargets old slot insn targets → (n : ℕ) → targets.next ≡ Some n → IsFront back origins n
    next_in_front targets are n is =
        let later = are.later n is in
        let behind = are.behind n is in
        at.front n (omega (arith, later)) (reached.closed slot n here (are.out.only n (inl is)))
        (λ j above below e. gaps slot insn begins j (omega (arith, above)) (omega (arith, below, behind)) (reached.starts j e))

    -- the instruction at the slot was put in front
    module _ (back' : List (Option Insn)) (origins' : List ℕ) (more : IsLengthened maps old back origins back' origins' slot)
        (grown : length back' ≡ length back + slots_of insn) (was : IsOneMore back origins back' origins' slot) where
      -- the place of the new copy
      place : ℕ
      place = length back' - 1

      -- the list of places has the slot
      in_places : slot < length places
      in_places =
          let inside = start_inside old slot (record { insn = insn; here = begins }) in
          let room = at.room in omega (arith, inside, room)

      -- the slot has this place now
      set_here : copy_place (slice_set places slot (Some place)) slot ≡ Some place
      set_here = get_or-set_same places slot (Some place) None in_places

      -- each other slot keeps its place
      set_other : (k : ℕ) → k ≢ slot → copy_place (slice_set places slot (Some place)) k ≡ copy_place places k
      set_other k apart = get_or-set_other places slot k (Some place) None apart

      -- the new copy is at this place
      front_there : IsCopyOfSlot back' origins' place slot
      unfolding place
      front_there =
          let front = more.front in
          let is = front.place_is in
          let same : front.place ≡ length back' - 1 = omega (arith, is) in
          subst (λ (n : ℕ). IsCopyOfSlot back' origins' n slot) same front.stands

      -- each place in the list is that of a copy
      known_now : AreCopyPlaces back' origins' (slice_set places slot (Some place))
      known_now k p e = elim (cases_eq k slot) [
        | inl same ↦
            let is : place ≡ p =
            some_same _ place p set_here (ap (λ (n : ℕ). copy_place (slice_set places slot (Some place)) n) (sym same) ∙ e) in
            subst (λ (n : ℕ). IsCopyOfSlot back' origins' n k) is
            (subst (λ (n : ℕ). IsCopyOfSlot back' origins' place n) (sym same) front_there)
        | inr apart ↦ more.keeps p k (at.known k p (sym (set_other k apart) ∙ e))
      ]

      -- each slot from this one on to which control comes has a copy
      done_now : (k : ℕ) → slot ≤ k → is_open found k ≡ true → HasCopy (slice_set places slot (Some place)) k
      done_now k le e = elim (cases_eq k slot) [
        | inl same ↦ (place, ap (λ (n : ℕ). copy_place (slice_set places slot (Some place)) n) same ∙ set_here)
        | inr apart ↦ let done = at.done k (omega (arith, le, apart)) e in (done.0, set_other k apart ∙ done.1)
      ]

      -- each slot has one copy, at its place in the list
      once_now : (p from : ℕ) → IsCopyOfSlot back' origins' p from → copy_place (slice_set places slot (Some place)) from ≡ Some p
      unfolding place
      once_now p from s = elim (was.only p from s) [
        | inl old_one ↦
            let above = at.above p from old_one in
            set_other from (λ e. omega (arith, above, e)) ∙ at.once p from old_one
        | inr (last, is) ↦
            let same : length back' - 1 ≡ p = omega (arith, last) in
            ap (λ (n : ℕ). copy_place (slice_set places slot (Some place)) n) is ∙ (set_here ∙ ap (λ (n : ℕ). Some n) same)
      ]

      -- once the instruction is in front, this is the copy of what control comes to from the slot on
      pub one_kept : IsKeeping maps old found slot back' origins' (slice_set places slot (Some (length back' - 1)))
      unfolding place
      one_kept =
          let room = enough_room in
          record {
            built = more.built;
            known = known_now;
            room = length-set places slot (Some (length back' - 1)) ∙ at.room;
            done = done_now;
            above = λ p from s. elim (was.only p from s)
                [ inl old_one ↦ let above = at.above p from old_one in omega (arith, above) | inr (last, is) ↦ omega (arith, is) ];
            comes = λ p from s. elim (was.only p from s)
                [ inl old_one ↦ at.comes p from old_one | inr (last, is) ↦ subst (λ (n : ℕ). is_open found n ≡ true) (sym is) here ];
            once = once_now;
            front = λ k le e least. elim (cases_eq k slot) [
              | inl same ↦ subst (λ (n : ℕ). IsFront back' origins' n) (sym same) more.front
              | inr apart ↦ absurd (least slot (omega arith) (omega (arith, le, apart)) here)
            ];
            fits = record {
              from = slot;
              above = omega arith;
              is = inr (record { insn = insn; here = begins });
              fits = omega (arith, room, grown);
            };
          }

-- blank slots in front of a program keep its instructions apart
gap_apart : (n : ℕ) (rest : List (Option Insn)) → HasGaps rest → HasGaps (replicate n None ++ rest)
gap_apart zero rest gaps slot insn here j lt below start = gaps slot insn here j lt below start
gap_apart (suc n) rest gaps zero insn here j lt below start = absurd (some_none _ insn here refl)
gap_apart (suc n) rest gaps (suc slot) insn here zero lt below start = absurd (omega (arith, lt))
gap_apart (suc n) rest gaps (suc slot) insn here (suc j) lt below start =
    gap_apart n rest gaps slot insn here j (omega (arith, lt)) (omega (arith, below)) (record { insn = start.insn; here = start.here })

-- no instruction begins at a blank slot
none_in_gap : (n j : ℕ) (rest : List (Option Insn)) → j < n → IsStart (replicate n None ++ rest) j → ⊥
none_in_gap zero j rest lt start = absurd (omega (arith, lt))
none_in_gap (suc n) zero rest lt start = absurd (some_none _ start.insn start.here refl)
none_in_gap (suc n) (suc j) rest lt start = none_in_gap n j rest (omega (arith, lt)) (record { insn = start.insn; here = start.here })

-- in a program laid out by slots no instruction begins inside another
pub spread_has_gaps : (insns : List Insn) → HasGaps (spread insns)
spread_has_gaps [] zero insn here j lt below start = absurd (some_none _ insn here refl)
spread_has_gaps [] (suc slot) insn here j lt below start = absurd (some_none _ insn here refl)
spread_has_gaps (i ∷ rest) zero insn here zero lt below start = absurd (omega (arith, lt))
spread_has_gaps (i ∷ rest) zero insn here (suc j) lt below start =
    let same : i ≡ insn = some_same _ i insn refl here in
    let long : slots_of i ≡ slots_of insn = ap slots_of same in
    none_in_gap (slots_of i - 1) j (spread rest) (omega (arith, below, long)) (record { insn = start.insn; here = start.here })
spread_has_gaps (i ∷ rest) (suc slot) insn here zero lt below start = absurd (omega (arith, lt))
spread_has_gaps (i ∷ rest) (suc slot) insn here (suc j) lt below start =
    gap_apart (slots_of i - 1) (spread rest) (spread_has_gaps rest) slot insn here j (omega (arith, lt))
    (omega (arith, below)) (record { insn = start.insn; here = start.here })
