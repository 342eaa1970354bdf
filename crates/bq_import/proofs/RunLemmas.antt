-- A copy has the same runs, and is safe within the same budgets.
use Rattle.std.proofs.Common.{◌≡◌, ℕ, zero, suc, List, Option, Some, None, length, refl, sym, ap, ◌∙◌, subst, ◌⊎◌, inl, inr}
use Rattle.bq_insn.specs.declared.Insn.{Insn}
use Rattle.bq_bpf.specs.declared.shape.MapShape.{MapShape}
use Rattle.bq_bpf.specs.declared.board.CounterCall.{CounterCall}
use Rattle.bq_bpf.specs.Memory.{Setting, State}
use Rattle.bq_bpf.specs.Steps.{Step}
use Rattle.bq_bpf.specs.Runs.{Ends, Steps, RunFrom, start}
use Rattle.bq_bpf.specs.Safe.{GoesOn, GoesWell, IsSetting}
use Rattle.bq_import.specs.Copies.{IsCopyOfSlot, IsCopy}
use Rattle.bq_import.specs.Laws.{with_program, SameRuns, SameSafety}
use Rattle.bq_import.proofs.StepLemmas.{moved}
use Rattle.bq_import.proofs.CopyLemmas.{step_ahead, step_behind, ends_ahead, ends_behind}

-- a program, its copy, and a setting with this many maps
module _ (maps : ℕ) (old new : List (Option Insn)) (origin : List ℕ) (copy : IsCopy maps old new origin) (f : Setting)
    (as_many : length f.shapes ≡ maps) where
  -- from slot `k` the copy takes the same steps, to a copy of the slot of `t`
  record ChainAhead (s : State) (k n : ℕ) (calls : List CounterCall) (t : State) : Type 0 where
    -- the slot of the copy after the steps
    pub slot : ℕ
    -- the copy takes the steps to `t`, but at this slot
    pub chain : Steps (with_program f new) (moved s k) n calls (moved t slot)
    -- this slot is a copy of the slot of `t`
    pub stands : IsCopyOfSlot new origin slot t.slot

  -- from `s` the program takes the same steps as its copy from slot `k`
  record ChainBehind (s : State) (k n : ℕ) (calls : List CounterCall) (t' : State) : Type 0 where
    -- the state of the program after the steps
    pub state : State
    -- the slot of the copy after the steps
    pub slot : ℕ
    -- the program takes the steps to this state
    pub chain : Steps (with_program f old) s n calls state
    -- the copy takes the steps to the same state, but at its own slot
    pub is : t' ≡ moved state slot
    -- this slot is a copy of the slot of the state
    pub stands : IsCopyOfSlot new origin slot state.slot

  -- a chain of steps of the program is one of the copy
  chain_ahead : (s : State) (k n : ℕ) (calls : List CounterCall) (t : State)
      → IsCopyOfSlot new origin k s.slot → Steps (with_program f old) s n calls t → ChainAhead s k n calls t
  chain_ahead s k zero calls t stands (none, e) =
      record {
        slot = k;
        chain = (none, ap (λ (v : State). moved v k) e);
        stands = subst (λ (m : ℕ). IsCopyOfSlot new origin k m) (sym (ap (λ (v : State). v.slot) e)) stands;
      }
  chain_ahead s k (suc n) calls t stands (before, c, u, chain, step, e) =
      let first = chain_ahead s k n before u stands chain in
      let last = step_ahead maps old new origin f as_many copy u first.slot c t first.stands step in
      record { slot = last.slot; chain = (before, c, moved u first.slot, first.chain, last.step, e); stands = last.stands }

  -- a chain of steps of the copy is one of the program
  chain_behind : (s : State) (k n : ℕ) (calls : List CounterCall) (t' : State)
      → IsCopyOfSlot new origin k s.slot → Steps (with_program f new) (moved s k) n calls t'
      → ChainBehind s k n calls t'
  chain_behind s k zero calls t' stands (none, e) = record { state = s; slot = k; chain = (none, refl); is = e; stands = stands }
  chain_behind s k (suc n) calls t' stands (before, c, u, chain, step, e) =
      let first = chain_behind s k n before u stands chain in
      let last =
      step_behind maps old new origin f as_many copy first.state first.slot c t' first.stands
      (subst (λ (v : State). Step (with_program f new) v c t') first.is step) in
      record {
        state = last.state;
        slot = last.slot;
        chain = (before, c, first.state, first.chain, last.step, e);
        is = last.is;
        stands = last.stands;
      }

  -- a run of the program is a run of the copy
  runs_ahead : (contents : List (List ℕ)) (n : ℕ) (calls : List CounterCall) (answer : ℕ) (after : List (List ℕ))
      → RunFrom (with_program f old) (start contents) n calls answer after
      → RunFrom (with_program f new) (start contents) n calls answer after
  runs_ahead contents n calls answer after (k, t, is, chain, ends) =
      let there = chain_ahead (start contents) 0 k calls t copy.first chain in
      (k, moved t there.slot, is, there.chain, ends_ahead maps old new origin f as_many copy t there.slot answer after there.stands ends)

  -- a run of the copy is a run of the program
  runs_behind : (contents : List (List ℕ)) (n : ℕ) (calls : List CounterCall) (answer : ℕ) (after : List (List ℕ))
      → RunFrom (with_program f new) (start contents) n calls answer after
      → RunFrom (with_program f old) (start contents) n calls answer after
  runs_behind contents n calls answer after (k, t, is, chain, ends) =
      let there = chain_behind (start contents) 0 k calls t copy.first chain in (
        k,
        there.state,
        is,
        there.chain,
        ends_behind maps old new origin f as_many copy there.state there.slot answer after there.stands
            (subst (λ (v : State). Ends (with_program f new) v answer after) there.is ends),
      )

  -- the state ends or goes on
  Rests : Setting → State → Type 0
  Rests g t = ((answer : ℕ) × Ends g t answer t.maps) ⊎ GoesOn g t

  -- a state that ends or goes on in the program ends or goes on in the copy
  on_ahead : (t : State) (slot : ℕ) → IsCopyOfSlot new origin slot t.slot → Rests (with_program f old) t → Rests (with_program f new) (moved t slot)
  unfolding Rests
  on_ahead t slot stands (inl (answer, ends)) = inl (answer, ends_ahead maps old new origin f as_many copy t slot answer t.maps stands ends)
  on_ahead t slot stands (inr (inl (u, step))) =
      let there = step_ahead maps old new origin f as_many copy t slot None u stands step in
      inr (inl (moved u there.slot, there.step))
  on_ahead t slot stands (inr (inr each)) =
      inr (inr (λ x lt.
      let e = each x lt in
      let there = step_ahead maps old new origin f as_many copy t slot (Some e.0) e.1 stands e.3 in
      (e.0, moved e.1 there.slot, e.2, there.step)))

  -- a state that ends or goes on in the copy ends or goes on in the program
  on_behind : (t : State) (slot : ℕ) → IsCopyOfSlot new origin slot t.slot → Rests (with_program f new) (moved t slot) → Rests (with_program f old) t
  unfolding Rests
  on_behind t slot stands (inl (answer, ends)) =
      inl (answer, ends_behind maps old new origin f as_many copy t slot answer t.maps stands ends)
  on_behind t slot stands (inr (inl (u, step))) =
      let there = step_behind maps old new origin f as_many copy t slot None u stands step in
      inr (inl (there.state, there.step))
  on_behind t slot stands (inr (inr each)) =
      inr (inr (λ x lt.
      let e = each x lt in
      let there = step_behind maps old new origin f as_many copy t slot (Some e.0) e.1 stands e.3 in
      (e.0, there.state, e.2, there.step)))

  -- the maps before a run, a budget, and the number of steps and the calls so far
  module _ (contents : List (List ℕ)) (budget n : ℕ) (calls : List CounterCall) where
    -- if the steps of the program go well, so do those of the copy
    well_ahead : (t' : State) → ((t : State) → Steps (with_program f old) (start contents) n calls t → GoesWell (with_program f old) budget n calls t)
        → Steps (with_program f new) (start contents) n calls t'
        → GoesWell (with_program f new) budget n calls t'
    unfolding Rests
    well_ahead t' safe chain =
        let there = chain_behind (start contents) 0 n calls t' copy.first chain in
        let well = safe there.state there.chain in
        record {
          short = well.short;
          few = well.few;
          on =
              subst (λ (v : State). Rests (with_program f new) v) (sym there.is)
              (on_ahead there.state there.slot there.stands well.on);
        }

    -- if the steps of the copy go well, so do those of the program
    well_behind : (t : State)
        → ((t' : State) → Steps (with_program f new) (start contents) n calls t' → GoesWell (with_program f new) budget n calls t')
        → Steps (with_program f old) (start contents) n calls t
        → GoesWell (with_program f old) budget n calls t
    unfolding Rests
    well_behind t safe chain =
        let there = chain_ahead (start contents) 0 n calls t copy.first chain in
        let well = safe (moved t there.slot) there.chain in
        record { short = well.short; few = well.few; on = on_behind t there.slot there.stands well.on }

-- a copy gives what its original gives, in as many steps and with the same counter calls
pub same_runs : SameRuns
same_runs maps old new origin copy f contents n calls answer after as_many = (
  runs_ahead maps old new origin copy f as_many contents n calls answer after,
  runs_behind maps old new origin copy f as_many contents n calls answer after,
)

-- a setting for one program is a setting for the other, once the other program is put in
setting_beside : (old new : List (Option Insn)) (shapes : List MapShape) (context : ℕ) (f : Setting)
    → IsSetting old shapes context f → IsSetting new shapes context (with_program f new)
setting_beside old new shapes context f p = record {
  slots_are = refl;
  shapes_are = p.shapes_are;
  context_long = p.context_long;
  context_bytes = p.context_bytes;
  now_fits = p.now_fits;
  processor_fits = p.processor_fits;
}

-- a setting stays the same when its own program is put in
its_own : (slots : List (Option Insn)) (f : Setting) → f.slots ≡ slots → f ≡ with_program f slots
its_own slots f e = ap (λ (v : List (Option Insn)). with_program f v) e

-- a copy is safe within a budget exactly when its original is
pub same_safety : SameSafety
same_safety maps old new origin copy shapes context budget as_many = (
  λ safe f contents setting have n calls t chain.
      let own = its_own new f setting.slots_are in
      subst (λ (g : Setting). GoesWell g budget n calls t) (sym own)
      (well_ahead maps old new origin copy f (ap length setting.shapes_are ∙ as_many) contents budget n calls t
      (λ u there. safe (with_program f old) contents (setting_beside new old shapes context f setting) have n calls u there)
      (subst (λ (g : Setting). Steps g (start contents) n calls t) own chain)),
  λ safe f contents setting have n calls t chain.
      let own = its_own old f setting.slots_are in
      subst (λ (g : Setting). GoesWell g budget n calls t) (sym own)
      (well_behind maps old new origin copy f (ap length setting.shapes_are ∙ as_many) contents budget n calls t
      (λ u there. safe (with_program f new) contents (setting_beside old new shapes context f setting) have n calls u there)
      (subst (λ (g : Setting). Steps g (start contents) n calls t) own chain)),
)
