-- What the pass knows before a slot contains every run that comes there.
use Rattle.std.proofs.Common.{◌≡◌, ◌≢◌, ℕ, zero, suc, ◌+◌, ◌^◌, ◌<◌, ◌≤◌, Bool, true, false, List, [], ◌∷◌, ◌++◌, Option, Some, None, Box, Global, length, refl, arith, sym, ap, ◌∙◌, subst, zero-le, ◌⊎◌, inl, inr, ℤ}
use Rattle.std.specs.Prelude.{slice_index_or}
use Rattle.std.specs.Bool.{then_some}
use Rattle.std.proofs.lemmas.Bool.Decides.{eqb_tells}
use Rattle.std.proofs.lemmas.Option.{same_Some, none-some, slice_get_past}
use Rattle.std.proofs.lemmas.Bool.{both_ways, cases_lt}
use Rattle.std.proofs.lemmas.List.{get_or_append_left, get_or_past, get_or_push, length_push}
use Rattle.std.proofs.Math.Nat.{eq-or-lt_of_le}
use Rattle.bq_insn.specs.declared.Insn.{Insn}
use Rattle.bq_insn.proofs.OptionLemmas.{some_none}
use Rattle.bq_insn.specs.declared.Insn.TheVariants.{Alu, MovSx, Neg, End, Load, StoreImm, StoreReg, Imm64, MapRef, Goto, Goto32, Branch, Call, Exit}
use Rattle.bq_bpf.specs.declared.shape.MapShape.{MapShape}
use Rattle.bq_bpf.specs.declared.board.CounterCall.{CounterCall}
use Rattle.bq_bpf.specs.Counters.{answer_of}
use Rattle.bq_bpf.specs.Memory.{Setting, State, Region, InContext, InStack, InEntry, Writes, written, HaveShapes}
use Rattle.bq_bpf.specs.Runs.{Steps, call_listed, start}
use Rattle.bq_bpf.specs.Steps.{Does, Helps, LeadsTo, Step, Takes}
use Rattle.bq_bpf.specs.Safe.{IsSetting}
use Rattle.bq_verify.specs.Edges.{IsEdge, IsStart}
use Rattle.bq_bpf.specs.Instructions.{Leaves}
use Rattle.bq_verify.specs.Passes.{IsGraphSound}
use Rattle.bq_verify.specs.Subjects.{Subject}
use Rattle.bq_states.specs.declared.abstract_state.AbstractState.{AbstractState}
use Rattle.bq_states.specs.declared.abstract_state.ValueKind.TheVariants.{Map}
use Rattle.bq_states.specs.AbstractStates.{Contains}
use Rattle.bq_verify.specs.Control.{IsKnown, LeadsOn, PassesOn}
use Rattle.bq_verify.specs.KnownAt.{AreKnown, ContainsRuns, IsNotReached, RestIsCovered}
use Rattle.bq_verify.specs.Straight.{IsStraightBefore}
use Rattle.bq_verify.proofs.OneStepLemmas.{no_step, one_step}
use Rattle.bq_verify.proofs.PassLemmas.{waits_at_slot, none_waits}

-- the state after a write has the same slot
same_slot : (s : State) (region : Region) (offset : ℕ) (bytes : List ℕ) → (written s region offset bytes).slot ≡ s.slot
same_slot s InContext offset bytes = refl
same_slot s InStack offset bytes = refl
same_slot s (InEntry m first) offset bytes = refl

-- a write leaves the slot as it is
pub write_keeps_slot : (f : Setting) (s u : State) (address : ℕ) (bytes : List ℕ) → Writes f s address bytes u → u.slot ≡ s.slot
write_keeps_slot f s u address bytes w = ap (λ (x : State). x.slot) w.after ∙ same_slot s w.region w.offset bytes

-- a helper's call goes on to the next slot
helped : (f : Setting) (h : ℤ) (s t : State) → Helps f h s t → t.slot ≡ s.slot + 1
helped f h s t (inl (e, (m, shape, k, names, is))) = ap (λ (x : State). x.slot) is
helped f h s t (inr (inl (e, (m, shape, k, from, value, names, from_is, long, reads, zero_is, inl (lt, u, writes, is))))) =
    ap (λ (x : State). x.slot) is ∙ ap (λ n. n + 1) (write_keeps_slot f s u _ value writes)
helped f h s t (inr (inl (e, (m, shape, k, from, value, names, from_is, long, reads, zero_is, inr (le, is))))) =
    ap (λ (x : State). x.slot) is
helped f h s t (inr (inr (inl (e, is)))) = ap (λ (x : State). x.slot) is
helped f h s t (inr (inr (inr (e, is)))) = ap (λ (x : State). x.slot) is

-- what an instruction does, it does along an edge of the graph
leaves_does : (f : Setting) (insn : Insn) (s t : State) → Does f insn s t → Leaves insn s.slot t.slot
leaves_does f (Alu w o dst src) s t (a, b, left, right, target, is) = inl (refl, ap (λ (x : State). x.slot) is)
leaves_does f (MovSx w bits dst src) s t (a, p, target, is) = inl (refl, ap (λ (x : State). x.slot) is)
leaves_does f (Neg w dst) s t (a, p, target, is) = inl (refl, ap (λ (x : State). x.slot) is)
leaves_does f (End order bits dst) s t (a, p, target, is) = inl (refl, ap (λ (x : State). x.slot) is)
leaves_does f (Load size signed dst src off) s t (a, bytes, p, long, reads, target, is) = inl (refl, ap (λ (x : State). x.slot) is)
leaves_does f (StoreImm size dst off imm) s t (a, u, p, writes, is) =
    inl (refl, ap (λ (x : State). x.slot) is ∙ ap (λ n. n + 1) (write_keeps_slot f s u _ _ writes))
leaves_does f (StoreReg size dst off src) s t (a, v, u, p, q, writes, is) =
    inl (refl, ap (λ (x : State). x.slot) is ∙ ap (λ n. n + 1) (write_keeps_slot f s u _ _ writes))
leaves_does f (Imm64 dst value) s t (target, is) = inl (refl, ap (λ (x : State). x.slot) is)
leaves_does f (MapRef dst index) s t (m, i, there, target, is) = inl (refl, ap (λ (x : State). x.slot) is)
leaves_does f (Goto off) s t (to, leads, is) = inr (off, refl, subst (LeadsTo s.slot off) (sym (ap (λ (x : State). x.slot) is)) leads)
leaves_does f (Goto32 imm) s t (to, leads, is) = inr (imm, refl, subst (LeadsTo s.slot imm) (sym (ap (λ (x : State). x.slot) is)) leads)
leaves_does f (Branch w c dst src off) s t (a, b, p, q, inl (is_taken, to, leads, is)) =
    inr (off, refl, subst (LeadsTo s.slot off) (sym (ap (λ (x : State). x.slot) is)) leads)
leaves_does f (Branch w c dst src off) s t (a, b, p, q, inr (is_not, is)) = inl (refl, ap (λ (x : State). x.slot) is)
leaves_does f (Call h) s t p = inl (refl, helped f h s t p)
leaves_does f Exit s t p = absurd p

-- what a step does, with or without a counter call, it does along an edge too
leaves_takes : (f : Setting) (insn : Insn) (s : State) (c : Option CounterCall) (t : State) → Takes f insn s c t → Leaves insn s.slot t.slot
leaves_takes f insn s None t p = leaves_does f insn s t p
leaves_takes f (Call h) s (Some c) t p = inl (refl, ap (λ (x : State). x.slot) p.2)
leaves_takes f insn s (Some c) t p = absurd p.0

-- a step follows an edge
edge_of : (f : Setting) (s : State) (c : Option CounterCall) (t : State) → Step f s c t → IsEdge f.slots s.slot t.slot
edge_of f s c t step = record { insn = step.insn; here = step.here; leaves = leaves_takes f step.insn s c t step.takes }

-- the first step of a chain, and the rest
first_step : (f : Setting) (s : State) (n : ℕ) (calls : List CounterCall) (t : State) → Steps f s (suc n) calls t
    → (c : Option CounterCall) × (u : State) × (rest : List CounterCall) × Step f s c u × Steps f u n rest t
first_step f s zero calls t (before, c, u, (none, same), step, e) = (c, t, [], subst (λ (x : State). Step f x c t) same step, (refl, refl))
first_step f s (suc n) calls t (before, c, u, chain, step, e) =
    let h = first_step f s n before u chain in
    (h.0, h.1, h.2 ++ call_listed c, h.3, (h.2, c, u, h.4, step, refl))

-- the state after a step from where a slot leads on
after_one : (f : Setting) (L : Setting → State → Type 0) → length f.context < 2 ^ 16
    → (s u : State) (c : Option CounterCall) → LeadsOn L f s → Step f s c u
    → IsEdge f.slots s.slot u.slot × L f u
after_one f L small s u c (inl (answer, ends)) step = absurd (no_step f small s answer c u ends step)
after_one f L small s u None (inr (inl (t, step', edge, known))) step =
    let same = one_step f small s None None t u step' step (λ x y p q. absurd (none-some x p)) in
    subst (λ (x : State). IsEdge f.slots s.slot x.slot × L f x) same.1 (edge, known)
after_one f L small s u (Some c) (inr (inl (t, step', edge, known))) step =
    let same = one_step f small s (Some c) None u t step step' (λ x y p q. absurd (none-some y q)) in
    absurd (none-some c (sym same.0))
after_one f L small s u None (inr (inr each)) step =
    let e = each 0 (omega arith) in
    let same = one_step f small s None (Some e.0) u e.1 step e.3 (λ x y p q. absurd (none-some x p)) in
    absurd (none-some e.0 same.0)
after_one f L small s u (Some c) (inr (inr each)) step =
    let e = each (answer_of c) step.takes.1 in
    let same = one_step f small s (Some e.0) (Some c) e.1 u e.3 step
    (λ x y p q. ap answer_of (sym (same_Some e.0 x p)) ∙ (e.2 ∙ ap answer_of (same_Some c y q))) in
    subst (λ (x : State). IsEdge f.slots s.slot x.slot × L f x) same.1
    (record { insn = e.4.insn; here = e.4.here; leaves = e.4.leaves }, e.5)

module _ (p : Subject) (sound : IsGraphSound p.slots) (small : p.context < 2 ^ 16) where
  -- a chain goes forward
  forward : (f : Setting) → IsSetting p.slots p.shapes p.context f
      → (s : State) (n : ℕ) (calls : List CounterCall) (t : State) → Steps f s n calls t
      → s.slot ≤ t.slot
  forward f setting s zero calls t (none, same) = let still : t.slot ≡ s.slot = ap (λ (x : State). x.slot) same in omega (arith, still)
  forward f setting s (suc n) calls t (before, c, u, chain, step, e) =
      let edge : IsEdge p.slots u.slot t.slot = rw setting.slots_are at (edge_of f u c t step) in
      omega (arith, forward f setting s n before u chain, (sound.forward u.slot t.slot edge).0)

  -- a chain with a step goes on
  farther : (f : Setting) → IsSetting p.slots p.shapes p.context f
      → (s : State) (n : ℕ) (calls : List CounterCall) (t : State) → Steps f s (suc n) calls t
      → s.slot < t.slot
  farther f setting s n calls t (before, c, u, chain, step, e) =
      let edge : IsEdge p.slots u.slot t.slot = rw setting.slots_are at (edge_of f u c t step) in
      omega (arith, forward f setting s n before u chain, (sound.forward u.slot t.slot edge).0)

  module _ (target : ℕ) (seen : AbstractState) (slot : ℕ) (K L : Setting → State → Type 0) where
    -- a chain from a known state, at this slot or later, comes to the target only in states that `seen` describes
    at_state : slot < target → PassesOn p slot K L → RestIsCovered p target seen (slot + 1) L
        → (f : Setting) (s : State) (b : Bool) → IsSetting p.slots p.shapes p.context f → slot ≤ s.slot
        → IsStart p.slots s.slot → K f s → ((b ≡ true) × (s.slot ≡ slot)) ⊎ ((b ≡ false) × (s.slot ≢ slot))
        → (n : ℕ) (calls : List CounterCall) (t : State) → Steps f s n calls t → t.slot ≡ target
        → Contains f seen t
    at_state before passes rest f s b setting le begins known (inr (e, other)) n calls t chain here =
        rest f s setting (omega arith) begins ((passes f s setting begins known).0 other) n calls t chain here
    at_state before passes rest f s b setting le begins known (inl (e, same)) zero calls t (none, is) here =
        let still : t.slot ≡ s.slot = ap (λ (x : State). x.slot) is in absurd (omega (arith, still, same, here, before))
    at_state before passes rest f s b setting le begins known (inl (e, same)) (suc n) calls t chain here =
        let first = first_step f s n calls t chain in
        let short : length f.context < 2 ^ 16 = subst (λ (n : ℕ). n < 2 ^ 16) (sym setting.context_long) small in
        let next = after_one f L short s first.1 first.0 ((passes f s setting begins known).1 same) first.3 in
        let edge : IsEdge p.slots s.slot first.1.slot =
        subst (λ (x : List (Option Insn)). IsEdge x s.slot first.1.slot) setting.slots_are next.0 in
        let later = sound.forward s.slot first.1.slot edge in
        rest f first.1 setting (omega (arith, later.0, same)) later.1 next.1 n first.2 t first.4 here

    -- if the rest is covered after the pass of a slot, it is before
    pub covered_before : slot < target → PassesOn p slot K L → RestIsCovered p target seen (slot + 1) L → RestIsCovered p target seen slot K
    covered_before before passes rest f s setting le begins known =
        at_state before passes rest f s _ setting le begins known (eqb_tells s.slot slot)

  -- at the slot itself the abstract state is what is known
  pub covered_at : (target : ℕ) (pending after : List (Option (Box AbstractState Global))) (state seen : AbstractState)
      (live arrived : Bool)
      → ((f : Setting) (s : State) → f.shapes ≡ p.shapes → IsKnown pending state live target f s → IsKnown after seen arrived target f s)
      → slice_index_or after target None ≡ None
      → RestIsCovered p target seen target (IsKnown pending state live target)
  covered_at target pending after state seen live arrived arrives empty f s setting le begins known (suc n) calls t chain here =
      absurd (omega (arith, farther f setting s n calls t chain, here, le))
  covered_at target pending after state seen live arrived arrives empty f s setting le begins known zero calls t (none, is) here =
      let there : s.slot ≡ target = ap (λ (x : State). x.slot) (sym is) ∙ here in
      subst (Contains f seen) (sym is) (is_seen (arrives f s setting.shapes_are known) there)
    where
      -- a known state at the target is one that `seen` describes
      is_seen : IsKnown after seen arrived target f s → s.slot ≡ target → Contains f seen s
      is_seen (inl waits) there =
          absurd (none_waits f s (slice_index_or after target None) empty (waits_at_slot f s after target there waits))
      is_seen (inr (e, same, contains)) there = contains

  -- where nothing is known at the slot, no chain that is left to follow comes to it
  pub covered_by_any : (target : ℕ) (pending after : List (Option (Box AbstractState Global)))
      (state seen any : AbstractState) (live arrived : Bool)
      → ((f : Setting) (s : State) → f.shapes ≡ p.shapes → IsKnown pending state live target f s → IsKnown after seen arrived target f s)
      → slice_index_or after target None ≡ None → arrived ≡ false
      → RestIsCovered p target any target (IsKnown pending state live target)
  covered_by_any target pending after state seen any live arrived arrives empty not f s setting le begins known (suc n) calls t chain here =
      absurd (omega (arith, farther f setting s n calls t chain, here, le))
  covered_by_any target pending after state seen any live arrived arrives empty not f s setting le
      begins known zero calls t (none, is) here =
      let there : s.slot ≡ target = ap (λ (x : State). x.slot) (sym is) ∙ here in
      absurd (is_none (arrives f s setting.shapes_are known) there)
    where
      -- no known state is at the target
      is_none : IsKnown after seen arrived target f s → s.slot ≡ target → ⊥
      is_none (inl waits) there = none_waits f s (slice_index_or after target None) empty (waits_at_slot f s after target there waits)
      is_none (inr (e, same, contains)) there = both_ways arrived not e

-- an abstract state of no state: its first register names a map that does not exist
pub nowhere : List MapShape → AbstractState
nowhere shapes = record {
  registers = Some (record { kind = Map (length shapes); offset = record { lo = 0; hi = 0; ordered = zero-le; fits = omega arith } }) ∷ [];
  set = [];
  kept = [];
  parts = [];
  classes = [];
  related = [];
}

-- it describes no state
contains_none : (f : Setting) (s : State) → Contains f (nowhere f.shapes) s → ⊥
unfolding nowhere
contains_none f s contains =
    let word = contains.registers 0 in
    let base = word.2.is_base in
    some_none _ _ base.alike.one (slice_get_past f.shapes (length f.shapes) (omega arith))

-- what contains the runs with the abstract state of no state says that there are none
pub not_reached : (p : Subject) (target : ℕ) → ContainsRuns p target (nowhere p.shapes) → IsNotReached p target
not_reached p target contains f maps setting have n calls t chain here =
    contains_none f t
    (subst (λ (x : List MapShape). Contains f (nowhere x) t) (sym setting.shapes_are) (contains f maps setting have n calls t chain here))

-- an abstract state that contains the rest from the start contains the runs
pub contains_runs : (p : Subject) (target : ℕ) (seen : AbstractState) (pending : List (Option (Box AbstractState Global)))
    (state : AbstractState)
    → IsStart p.slots 0 → ((f : Setting) (maps : List (List ℕ)) → HaveShapes f.shapes maps → Contains f state (start maps))
    → RestIsCovered p target seen 0 (IsKnown pending state true 0)
    → ContainsRuns p target seen
contains_runs p target seen pending state first begins rest f maps setting have n calls t chain here =
    rest f (start maps) setting zero-le first (inr (refl, refl, begins f maps (rw setting.shapes_are have))) n calls t chain here

-- what arrives at a slot covers what was known before it did
pub covered_on_arrival : (p : Subject) (target : ℕ) (seen : AbstractState) (slot : ℕ) (K L : Setting → State → Type 0)
    → ((f : Setting) (s : State) → f.shapes ≡ p.shapes → K f s → L f s) → RestIsCovered p target seen slot L
    → RestIsCovered p target seen slot K
covered_on_arrival p target seen slot K L arrives rest f s setting le begins known =
    rest f s setting le begins (arrives f s setting.shapes_are known)

-- what a pass tells of a slot: an abstract state that contains the runs that come there, or that none does
abbrev pub KnowsRuns : Subject → ℕ → Option AbstractState → Type 0
KnowsRuns p slot (Some state) = ContainsRuns p slot state
KnowsRuns p slot None = IsNotReached p slot

-- what arrives at a slot tells its runs
pub knows_arrival : (p : Subject) (sound : IsGraphSound p.slots) (small : p.context < 2 ^ 16) (slot : ℕ)
    (pending after : List (Option (Box AbstractState Global))) (state seen : AbstractState) (live arrived : Bool)
    (here : Option AbstractState)
    → ((f : Setting) (s : State) → f.shapes ≡ p.shapes → IsKnown pending state live slot f s → IsKnown after seen arrived slot f s)
    → slice_index_or after slot None ≡ None
    → ((some : AbstractState) → RestIsCovered p slot some slot (IsKnown pending state live slot) → ContainsRuns p slot some)
    → here ≡ then_some arrived seen
    → KnowsRuns p slot here
knows_arrival p sound small slot pending after state seen live true here arrives empty covers is =
    subst (KnowsRuns p slot) (sym is) (covers seen (covered_at p sound small slot pending after state seen live true arrives empty))
knows_arrival p sound small slot pending after state seen live false here arrives empty covers is =
    subst (KnowsRuns p slot) (sym is)
    (not_reached p slot (covers (nowhere p.shapes)
    (covered_by_any p sound small slot pending after state seen (nowhere p.shapes) live false arrives empty refl)))

-- it tells the runs of each slot before that one
pub record AreKnownBefore (p : Subject) (slot : ℕ) (known : List (Option AbstractState)) : Type 0 where
  pub long : length known ≡ slot
  pub knows : (k : ℕ) → k < slot → KnowsRuns p k (slice_index_or known k None)

-- an empty list has what is known before slot 0
pub none_before : (p : Subject) → AreKnownBefore p 0 []
none_before p = record { long = refl; knows = λ k below. absurd (omega (arith, below)) }

-- what is known before a slot, and what is known there, are what is known before the next
pub one_more_known : (p : Subject) (slot : ℕ) (known more : List (Option AbstractState)) (here : Option AbstractState)
    → AreKnownBefore p slot known → more ≡ known ++ here ∷ [] → KnowsRuns p slot here → AreKnownBefore p (slot + 1) more
one_more_known p slot known more here before is knows = record {
  long = ap length is ∙ (length_push known here ∙ ap (λ n. n + 1) before.long);
  knows = λ k below. each k (eq-or-lt_of_le (let least : k ≤ slot = omega (arith, below) in least));
}
  where
    each : (k : ℕ) → (k ≡ slot) ⊎ (k < slot) → KnowsRuns p k (slice_index_or more k None)
    each k (inl same) =
        let last : slice_index_or more k None ≡ here =
        ap (λ (l : List (Option AbstractState)). slice_index_or l k None) is
        ∙ get_or_push known here None k (before.long ∙ sym same) in
        subst (λ (n : ℕ). KnowsRuns p n (slice_index_or more k None)) (sym same) (subst (KnowsRuns p slot) (sym last) knows)
    each k (inr below) =
        let earlier : slice_index_or more k None ≡ slice_index_or known k None =
        ap (λ (l : List (Option AbstractState)). slice_index_or l k None) is
        ∙ get_or_append_left known (here ∷ []) None k (subst (λ (n : ℕ). k < n) (sym before.long) below) in
        subst (KnowsRuns p k) (sym earlier) (before.knows k below)

-- a pass that came to a slot knows all up to another one, if no run comes to those between them
pub known_until : (p : Subject) (slot until : ℕ) (known : List (Option AbstractState))
    → ((k : ℕ) → slot ≤ k → k ≤ until → k < length p.slots → IsStraightBefore p k → IsNotReached p k)
    → AreKnownBefore p slot known
    → AreKnown p until known
known_until p slot until known rest before = record {
  contains = λ k state is. some k state is (cases_lt k slot);
  none = λ k within inside is straight. none k within inside is straight (cases_lt k slot);
}
  where
    some : (k : ℕ) (state : AbstractState) → slice_index_or known k None ≡ Some state → (k < slot) ⊎ (slot ≤ k) → ContainsRuns p k state
    some k state is (inl below) = subst (KnowsRuns p k) is (before.knows k below)
    some k state is (inr past) =
        absurd (none-some state (sym (get_or_past known k None (subst (λ (n : ℕ). n ≤ k) (sym before.long) past)) ∙ is))

    none : (k : ℕ) → k ≤ until → k < length p.slots → slice_index_or known k None ≡ None → IsStraightBefore p k
        → (k < slot) ⊎ (slot ≤ k)
        → IsNotReached p k
    none k within inside is straight (inl below) = subst (KnowsRuns p k) is (before.knows k below)
    none k within inside is straight (inr past) = rest k past within inside straight

-- where nothing is known of any slot, no program is meant whose control graph has no fault
pub none_known : (p : Subject) (until : ℕ) (known : List (Option AbstractState))
    → known ≡ [] → ((k : ℕ) → IsStraightBefore p k → ⊥) → AreKnown p until known
none_known p until known is faulty =
    known_until p 0 until known (λ k past within inside straight. absurd (faulty k straight))
    (subst (AreKnownBefore p 0) (sym is) (none_before p))
