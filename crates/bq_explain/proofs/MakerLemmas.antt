-- Ways that spare a register, and the instructions that begin them.
use Rattle.std.proofs.Common.{◌≡◌, ◌≢◌, ◌↔◌, ℕ, ◌+◌, ◌<◌, ◌≤◌, Bool, true, false, List, [], ◌∷◌, ◌++◌, Option, None, length, refl, arith, sym, subst, ◌∙◌, ◌⊎◌, inl, inr, get_or-set_same, get_or-set_other}
use Rattle.std.proofs.Math.ListN.{length-set}
use Rattle.std.specs.Prelude.{Contains, slice_index_or, slice_set}
use Rattle.std.proofs.lemmas.Bool.Decides.{eqb_tells}
use Rattle.std.proofs.lemmas.List.Elements.{Contains-push, Contains-push_cases, Contains-append_left}
use Rattle.bq_insn.specs.declared.Insn.{Insn}
use Rattle.bq_insn.proofs.OptionLemmas.{some_none}
use Rattle.bq_bpf.specs.Steps.{instruction_at}
use Rattle.bq_verify.specs.Edges.{IsEdge}
use Rattle.bq_verify.specs.Paths.{IsPath, path_end}
use Rattle.bq_verify.specs.Passes.{IsAmongTargets, IsGraphSound, LeadsOut}
use Rattle.bq_verify.specs.declared.targets.Targets.{Targets}
use Rattle.bq_explain.specs.Makers.{AreLeading, AreSparing, IsMaker, HasRole, SparingWay}
use Rattle.bq_explain.specs.declared.makers.Role.TheVariants.{Off, Makes, Leads}
use Rattle.bq_verify.specs.Straight.{spares}

-- the sweep has gone through the slots from `from` on: `leading` has those from which a sparing way leads to the slot,
-- and `makers` has those that made what the register holds there
pub record IsSwept (slots : List (Option Insn)) (register slot from : ℕ) (leading : List Bool) (makers : List ℕ) : Type 0 where
  pub room : length leading ≡ length slots
  pub are : AreLeading slots register slot from leading
  pub blank : (k : ℕ) → k < from → slice_index_or leading k false ≡ false
  pub made : (k : ℕ) → Contains makers k ↔ ((from ≤ k) × IsMaker slots register slot k)

-- the first step of a way
record FirstStep (slots : List (Option Insn)) (register from to : ℕ) : Type 0 where
  next : ℕ
  edge : IsEdge slots from next
  spared : spares register (instruction_at slots from) ≡ true
  way : SparingWay slots register next to

-- the ways to one slot on which no instruction writes one register
module _ (slots : List (Option Insn)) (register slot : ℕ) where
  -- a path to another slot that spares the register has a first step
  first_by : (from : ℕ) (rest : List ℕ) → from ≢ slot → IsPath slots from rest → path_end from rest ≡ slot
      → AreSparing slots register from rest
      → FirstStep slots register from slot
  first_by from [] other path ends sparing = absurd (other ends)
  first_by from (next ∷ rest) other path ends sparing = record {
    next = next;
    edge = path.0;
    spared = sparing.0;
    way = record { rest = rest; is_path = path.1; ends = ends; sparing = sparing.1 };
  }

  -- a way to another slot has a first step
  first_step : (from : ℕ) → from < slot → SparingWay slots register from slot → FirstStep slots register from slot
  first_step from lt way = first_by from way.rest (omega arith) way.is_path way.ends way.sparing

  -- a step that spares the register, followed by a way, is a longer way
  step_before : (from next : ℕ) → IsEdge slots from next → spares register (instruction_at slots from) ≡ true
      → SparingWay slots register next slot
      → SparingWay slots register from slot
  step_before from next edge spared way =
      record { rest = next ∷ way.rest; is_path = (edge, way.is_path); ends = way.ends; sparing = (spared, way.sparing) }

  -- a way without steps leads from a slot to itself
  stays : SparingWay slots register slot slot
  stays = record { rest = []; is_path = tt; ends = refl; sparing = tt }

  -- a sparing way does not begin at an instruction that writes the register
  no_way : (from : ℕ) → from < slot → spares register (instruction_at slots from) ≡ false → SparingWay slots register from slot → ⊥
  no_way from lt writes way = let spared = (first_step from lt way).spared in cc

  -- an instruction at which a sparing way begins is no maker of the register
  no_maker : (from : ℕ) → from < slot → SparingWay slots register from slot → IsMaker slots register slot from → ⊥
  no_maker from lt way maker = no_way from lt maker.writes way

  -- the control graph is sound, so that control goes only forward
  module _ (sound : IsGraphSound slots) where
    -- a path never ends at an earlier slot
    rises : (from : ℕ) (rest : List ℕ) → IsPath slots from rest → from ≤ path_end from rest
    rises from [] path = omega arith
    rises from (next ∷ rest) path =
        let lt = (sound.forward from next path.0).0 in
        let more = rises next rest path.1 in
        omega arith

    -- no way leads back
    way_rises : (from : ℕ) → SparingWay slots register from slot → from ≤ slot
    way_rises from way = let le = rises from way.rest way.is_path in let ends = way.ends in omega arith

    -- a slot before the target, and the list of the later slots from which ways lead to the target
    module _ (here : ℕ) (lt : here < slot) (leading : List Bool) (are : AreLeading slots register slot (here + 1) leading) where
      -- the list has each slot to which an edge leads from here and from which a way leads to the target
      edge_leads : (next : ℕ) → IsEdge slots here next → SparingWay slots register next slot → slice_index_or leading next false ≡ true
      edge_leads next edge way = let later = (sound.forward here next edge).0 in (are next (omega arith)).1 way

      -- where no instruction begins, no way begins, and there is no maker
      pub part_none : instruction_at slots here ≡ None → HasRole slots register slot here Off
      part_none none = (
        (λ way. let step = first_step here lt way in some_none _ _ step.edge.here none),
        (λ maker. some_none _ _ maker.edge.here none),
      )

      -- the targets of the instruction at the slot
      module _ (targets : Targets) (out : LeadsOut slots here targets) where
        -- if the list has no target of the instruction, no way begins at the slot, and its instruction is no maker
        pub part_off : ((k : ℕ) → IsAmongTargets targets k → slice_index_or leading k false ≡ true → ⊥)
            → HasRole slots register slot here Off
        part_off none = (
          (λ way.
              let step = first_step here lt way in
              none step.next (out.each step.next step.edge) (edge_leads step.next step.edge step.way)),
          (λ maker. none maker.next (out.each maker.next maker.edge) (edge_leads maker.next maker.edge maker.way)),
        )

        -- each target is after the slot
        later : (k : ℕ) → IsAmongTargets targets k → here + 1 ≤ k
        later k of = let lt = (sound.forward here k (out.only k of)).0 in omega arith

        -- if the list has a target of the instruction, and the instruction writes the register, the instruction is a maker
        pub part_makes : (k : ℕ) → IsAmongTargets targets k → slice_index_or leading k false ≡ true
            → spares register (instruction_at slots here) ≡ false
            → HasRole slots register slot here Makes
        part_makes k of leads writes = record { writes = writes; next = k; edge = out.only k of; way = (are k (later k of)).0 leads }

        -- if the list has a target of the instruction, and the instruction spares the register, a way begins at the slot
        pub part_leads : (k : ℕ) → IsAmongTargets targets k → slice_index_or leading k false ≡ true
            → spares register (instruction_at slots here) ≡ true
            → HasRole slots register slot here Leads
        part_leads k of leads spared = step_before here k (out.only k of) spared ((are k (later k of)).0 leads)

      -- what holds at the slot and at each slot after it holds from the slot on
      at_or_behind : (k : ℕ) (P : ℕ → Type 0) → here ≤ k → P here → (here + 1 ≤ k → P k) → P k
      at_or_behind k P le at behind = by (eqb_tells k here)
        where
          by : {b : Bool} → ((b ≡ true) × (k ≡ here)) ⊎ ((b ≡ false) × (k ≢ here)) → P k
          by (inl (_, same)) = subst P (sym same) at
          by (inr (_, other)) = behind (omega arith)

      -- the list stays right where no way begins
      pub leading_off : slice_index_or leading here false ≡ false → (SparingWay slots register here slot → ⊥)
          → AreLeading slots register slot here leading
      leading_off unset none k le =
          at_or_behind k (λ k. (slice_index_or leading k false ≡ true) ↔ SparingWay slots register k slot) le
          ((λ set. absurd cc), (λ way. absurd (none way))) (are k)

      -- the list stays right where a way begins at a slot and the slot is added
      pub leading_on : here < length leading → SparingWay slots register here slot
          → AreLeading slots register slot here (slice_set leading here true)
      leading_on inside way k le =
          at_or_behind k (λ k. (slice_index_or (slice_set leading here true) k false ≡ true) ↔ SparingWay slots register k slot) le
          ((λ _. way), (λ _. get_or-set_same leading here true false inside))
          (λ behind. let other : k ≢ here = omega arith in
          let same = get_or-set_other leading here k true false other in
          ((λ set. (are k behind).0 (sym same ∙ set)), (λ way. same ∙ (are k behind).1 way)))

      -- the sweep has gone through the slots after this one
      module _ (inside : here < length slots) (makers : List ℕ) (swept : IsSwept slots register slot (here + 1) leading makers) where
        -- a maker that is not at the slot itself stays among the makers
        still : (k : ℕ) → here ≤ k → IsMaker slots register slot k → (IsMaker slots register slot here → Contains makers k)
            → Contains makers k
        still k le maker at =
            at_or_behind k
            (λ k. IsMaker slots register slot k → (IsMaker slots register slot here → Contains makers k) → Contains makers k)
            le (λ maker at. at maker) (λ behind maker at. (swept.made k).1 (behind, maker)) maker at

        -- each maker that the sweep has found is a maker at this slot or after it
        earlier : (k : ℕ) → Contains makers k → (here ≤ k) × IsMaker slots register slot k
        earlier k there = let was = (swept.made k).0 there in (omega (arith, was.0), was.1)

        -- the sweep goes past a slot that is on no way: the list and the makers stay the same
        pub swept_off : HasRole slots register slot here Off → IsSwept slots register slot here leading makers
        swept_off part = record {
          room = swept.room;
          are = leading_off (swept.blank here (omega arith)) part.0;
          blank = λ k less. swept.blank k (omega arith);
          made = λ k. ((λ there. earlier k there), (λ is. still k is.0 is.1 (λ maker. absurd (part.1 maker))));
        }

        -- the sweep goes past a maker: its slot joins the makers
        pub swept_makes : HasRole slots register slot here Makes → IsSwept slots register slot here leading (makers ++ here ∷ [])
        swept_makes part = record {
          room = swept.room;
          are = leading_off (swept.blank here (omega arith)) (no_way here lt part.writes);
          blank = λ k less. swept.blank k (omega arith);
          made = λ k. (
            (λ there. by k (Contains-push_cases makers here k there)),
            (λ is.
                at_or_behind k (λ k. IsMaker slots register slot k → Contains (makers ++ here ∷ []) k) is.0
                (λ _. Contains-push makers here)
                (λ behind maker. Contains-append_left makers (here ∷ []) k ((swept.made k).1 (behind, maker))) is.1),
          );
        }
          where
            by : (k : ℕ) → Contains makers k ⊎ (here ≡ k) → (here ≤ k) × IsMaker slots register slot k
            by k (inl there) = earlier k there
            by k (inr same) = (omega arith, subst (λ (n : ℕ). IsMaker slots register slot n) same part)

        -- the sweep goes past a slot at which a way begins: the slot joins the list
        pub swept_leads : HasRole slots register slot here Leads → IsSwept slots register slot here (slice_set leading here true) makers
        swept_leads part = record {
          room = length_set_is ∙ swept.room;
          are = leading_on (rw swept.room inside) part;
          blank = λ k less.
              let other : k ≢ here = omega arith in
              get_or-set_other leading here k true false other ∙ swept.blank k (omega arith);
          made = λ k. ((λ there. earlier k there), (λ is. still k is.0 is.1 (λ maker. absurd (no_maker here lt part maker))));
        }
          where
            length_set_is : length (slice_set leading here true) ≡ length leading
            length_set_is = length-set leading here true

    -- the sweep begins at the target, which is the only slot of the list
    pub swept_first : (leading : List Bool) → slot < length slots → length leading ≡ length slots
        → ((k : ℕ) → slice_index_or leading k false ≡ false)
        → IsSwept slots register slot slot (slice_set leading slot true) []
    swept_first leading inside room blank = record {
      room = length-set leading slot true ∙ room;
      are = λ k le. by k le (eqb_tells k slot);
      blank = λ k less. let other : k ≢ slot = omega arith in get_or-set_other leading slot k true false other ∙ blank k;
      made = λ k. ((λ there. absurd (empty k there)), (λ is. absurd (behind k is.0 is.1)));
    }
      where
        by : (k : ℕ) → slot ≤ k → {b : Bool} → ((b ≡ true) × (k ≡ slot)) ⊎ ((b ≡ false) × (k ≢ slot))
            → (slice_index_or (slice_set leading slot true) k false ≡ true) ↔ SparingWay slots register k slot
        by k le (inl (_, same)) =
            subst (λ (n : ℕ). (slice_index_or (slice_set leading slot true) n false ≡ true) ↔ SparingWay slots register n slot)
            (sym same) ((λ _. stays), (λ _. get_or-set_same leading slot true false (rw room inside)))
        by k le (inr (_, other)) =
            let unset = get_or-set_other leading slot k true false other ∙ blank k in
            ((λ set. absurd cc), (λ way. absurd (let less = way_rises k way in let no : ⊥ = omega arith in no)))

        empty : (k : ℕ) → Contains [] k → ⊥
        empty k there = let less = there.1 in omega arith

        behind : (k : ℕ) → slot ≤ k → IsMaker slots register slot k → ⊥
        behind k le maker =
            let later = (sound.forward k maker.next maker.edge).0 in let less = way_rises maker.next maker.way in omega arith

    -- a sweep down to slot 0 has found exactly the makers
    pub swept_last : (leading : List Bool) (makers : List ℕ) → IsSwept slots register slot 0 leading makers
        → (k : ℕ) → Contains makers k ↔ IsMaker slots register slot k
    swept_last leading makers swept k = ((λ there. ((swept.made k).0 there).1), (λ maker. (swept.made k).1 (omega arith, maker)))
