-- One pass over the slots makes the program safe.
use Rattle.std.proofs.Common.{◌≡◌, ◌≢◌, ℕ, zero, suc, ◌+◌, ◌^◌, ◌<◌, ◌≤◌, Bool, true, false, List, Option, Some, None, Box, Global, length, refl, arith, sym, ap, subst, zero-le, length-set, ◌⊎◌, inl, inr, ℤ}
use Rattle.std.specs.Prelude.{slice_index, slice_index_or}
use Rattle.std.proofs.lemmas.Bool.Decides.{eqb_tells}
use Rattle.std.proofs.lemmas.List.{get_or_past}
use Rattle.bq_insn.specs.declared.Insn.{Insn}
use Rattle.bq_insn.specs.declared.Insn.TheVariants.{Goto, Goto32, Branch, Call}
use Rattle.bq_insn.specs.declared.Width.{Width}
use Rattle.bq_insn.specs.declared.Condition.{Condition}
use Rattle.bq_insn.specs.declared.Source.{Source}
use Rattle.bq_insn.specs.declared.Source.TheVariants.{Reg}
use Rattle.bq_insn.specs.Slots.{slots_of}
use Rattle.bq_bpf.specs.Meaning.{taken}
use Rattle.bq_bpf.specs.declared.shape.MapShape.{MapShape}
use Rattle.bq_bpf.specs.declared.board.CounterCall.{CounterCall}
use Rattle.bq_bpf.specs.Counters.{answer_of}
use Rattle.bq_bpf.specs.Memory.{Setting, State, context_base, stack_base, stack_size, HaveShapes}
use Rattle.bq_bpf.specs.Steps.{Step, IsOperand, IsCounterCall, LeadsTo, instruction_at, called}
use Rattle.bq_bpf.specs.Runs.{Ends, start}
use Rattle.bq_bpf.specs.Safe.{IsSetting, Safe, most_calls}
use Rattle.bq_ranges.specs.Within.{Within}
use Rattle.bq_verify.specs.Edges.{IsEdge, IsStart}
use Rattle.bq_bpf.specs.Instructions.{Leaves}
use Rattle.bq_verify.specs.Passes.{IsGraphSound}
use Rattle.bq_verify.specs.Subjects.{Subject}
use Rattle.bq_states.specs.declared.abstract_state.AbstractState.{AbstractState}
use Rattle.bq_states.specs.declared.abstract_state.AbstractValue.{AbstractValue}
use Rattle.bq_states.specs.declared.abstract_state.ValueKind.TheVariants.{Context, Stack}
use Rattle.bq_states.specs.declared.relations.Relation.{Relation}
use Rattle.bq_states.specs.declared.relations.Relation.TheVariants.{Compared}
use Rattle.bq_states.specs.Relations.{IsRelated}
use Rattle.bq_states.specs.AbstractStates.{Contains, Suits, Describes, knowing}
use Rattle.bq_transfer.specs.Transfers.{Transfers, AsksFrom, IsStraight}
use Rattle.bq_transfer.specs.Sides.{KnownDescribes}
use Rattle.bq_verify.specs.Control.{IsAskingEdge, AreHeights, BoundsCalls, EndsWithin, IsDescribed, KeepsWaiting, WaitsBoxed, IsKnown, LeadsOn, LeadsOnFrom, PassesOn, RestIsSafe, IsOnSide, BranchesTo}
use Rattle.bq_insn.proofs.OptionLemmas.{some_none}
use Rattle.bq_states.proofs.LearnLemmas.{contains_learn, found_at}
use Rattle.bq_verify.proofs.OneStepLemmas.{goes_well}

-- an abstract state that is right about a state is right about it at every slot
pub Contains-at : (f : Setting) (v : AbstractState) (s : State) (slot : ℕ) → Contains f v s → Contains f v (record s { slot = slot })
Contains-at f v s slot contains = record {
  registers = contains.registers;
  set = contains.set;
  kept = contains.kept;
  parts = contains.parts;
  maps = contains.maps;
  copies = contains.copies;
}

-- a setting of the program is one that abstract states with these maps and this length of context speak of
pub setting_suits : (slots : List (Option Insn)) (shapes : List MapShape) (context_length : ℕ) (f : Setting)
    → IsSetting slots shapes context_length f → Suits shapes context_length f
setting_suits slots shapes context_length f setting = record {
  shapes_are = setting.shapes_are;
  context_long = setting.context_long;
  context_bytes = setting.context_bytes;
  now_fits = setting.now_fits;
  processor_fits = setting.processor_fits;
}

-- after a call of a counter the next instruction runs
after_call : (insn : Insn) → IsCounterCall insn → (slot : ℕ) → Leaves insn slot (slot + 1)
after_call (Call helper) counter slot = inl (refl, refl)
after_call _ counter slot = absurd counter

-- the side that the test chooses
pub test_chooses_side : (f : Setting) (state : AbstractState) (s : State) (slot dst a b : ℕ) (src : Source)
    (word : Option AbstractValue) (right : AbstractValue) (relation : Relation)
    → s.register dst ≡ Some a → IsOperand s src b → Contains f state s → KnownDescribes f.shapes word a
    → Describes f.shapes right b → IsRelated relation a b
    → IsOnSide f state dst src word right relation (record s { slot = slot })
test_chooses_side f state s slot dst a b src None right relation is operand contains fits learnt related = fits
test_chooses_side f state s slot dst a b src (Some word) right relation is operand contains fits learnt related = (
  Contains-at f state s slot contains,
  record {
    word = a;
    is = is;
    left_is = fits;
    right_is =
        λ r same.
        (b, (let at : IsOperand s (Reg r) b = subst (λ (x : Source). IsOperand s x b) same operand in at), (learnt, related));
  },
)

module _ (p : Subject) (slot : ℕ) (state : AbstractState) (K : Setting → State → Type 0) where
  -- the instruction that a state at the slot runs is the one at the slot in the program
  here_at : (insn : Insn) → instruction_at p.slots slot ≡ Some insn → (f : Setting) (s : State)
      → IsSetting p.slots p.shapes p.context f → s.slot ≡ slot
      → instruction_at f.slots s.slot ≡ Some insn
  here_at insn here f s setting same = rw (setting.slots_are, same) here

  -- the next instruction, at an abstract state of which the state is known
  pub goes_on : (insn : Insn) (after : AbstractState) → instruction_at p.slots slot ≡ Some insn
      → IsStraight insn → Transfers p.shapes p.context insn state after
      → ((f : Setting) (s : State) → f.shapes ≡ p.shapes → s.slot ≡ slot + slots_of insn → Contains f after s → K f s)
      → LeadsOnFrom p slot state K
  goes_on insn after here straight transfers added f s setting same contains =
      let on = transfers f s (setting_suits p.slots p.shapes p.context f setting) contains in
      let at = here_at insn here f s setting same in
      inr (inl (
        on.0,
        record { insn = insn; here = at; takes = on.1 },
        record { insn = insn; here = at; leaves = rw on.3 (straight s.slot) },
        added f on.0 setting.shapes_are (rw (← same) on.3) on.2,
      ))

  -- a jump by 16 bits leads on to its target
  pub goes_there : (off : ℤ) (to : ℕ) → instruction_at p.slots slot ≡ Some (Goto off) → LeadsTo slot off to
      → ((f : Setting) (s : State) → f.shapes ≡ p.shapes → s.slot ≡ to → Contains f state s → K f s)
      → LeadsOnFrom p slot state K
  goes_there off to here leads added f s setting same contains =
      let at = here_at (Goto off) here f s setting same in
      let there : LeadsTo s.slot off to = rw same leads in
      inr (inl (
        record s { slot = to },
        record { insn = Goto off; here = at; takes = (to, there, refl) },
        record { insn = Goto off; here = at; leaves = inr (off, refl, there) },
        added f (record s { slot = to }) setting.shapes_are refl (Contains-at f state s to contains),
      ))

  -- a jump by 32 bits leads on to its target
  pub goes_far : (imm : ℤ) (to : ℕ) → instruction_at p.slots slot ≡ Some (Goto32 imm) → LeadsTo slot imm to
      → ((f : Setting) (s : State) → f.shapes ≡ p.shapes → s.slot ≡ to → Contains f state s → K f s)
      → LeadsOnFrom p slot state K
  goes_far imm to here leads added f s setting same contains =
      let at = here_at (Goto32 imm) here f s setting same in
      let there : LeadsTo s.slot imm to = rw same leads in
      inr (inl (
        record s { slot = to },
        record { insn = Goto32 imm; here = at; takes = (to, there, refl) },
        record { insn = Goto32 imm; here = at; leaves = inr (imm, refl, there) },
        added f (record s { slot = to }) setting.shapes_are refl (Contains-at f state s to contains),
      ))

  -- a call of a counter leads on, whatever the counter answers
  pub goes_asking : (insn : Insn) (after : AbstractState) → instruction_at p.slots slot ≡ Some insn → IsCounterCall insn
      → AsksFrom insn state after → ((f : Setting) (s : State) → s.slot ≡ slot + 1 → Contains f after s → K f s)
      → LeadsOnFrom p slot state K
  goes_asking insn after here counter asks added f s setting same contains =
      inr (inr (λ x small.
      let on = asks f s x contains small in
      let at = here_at insn here f s setting same in (
        on.0,
        called s x,
        on.1,
        record { insn = insn; here = at; takes = (on.2, rw on.1 small, rw on.1 refl) },
        record { insn = insn; here = at; asks = counter; leaves = after_call insn counter s.slot },
        added f (called s x) (ap (λ (n : ℕ). n + 1) same) on.3,
      )))

  -- a branch leads on to a known state, whichever side its test chooses
  parted : (w : Width) (c : Condition) (dst : ℕ) (src : Source) (off : ℤ) (to : ℕ) (f : Setting) (s : State)
      → instruction_at f.slots s.slot ≡ Some (Branch w c dst src off) → LeadsTo s.slot off to
      → (parts : BranchesTo K f s w c dst src to (s.slot + 1)) (v : Bool) → taken w c parts.left parts.right ≡ v
      → LeadsOn K f s
  parted w c dst src off to f s at there parts true e =
      inr (inl (
        record s { slot = to },
        record {
          insn = Branch w c dst src off;
          here = at;
          takes = (parts.left, parts.right, parts.left_is, parts.right_is, inl (e, to, there, refl));
        },
        record { insn = Branch w c dst src off; here = at; leaves = inr (off, refl, there) },
        parts.yes (record s { slot = to }) refl e,
      ))
  parted w c dst src off to f s at there parts false e =
      inr (inl (
        record s { slot = s.slot + 1 },
        record {
          insn = Branch w c dst src off;
          here = at;
          takes = (parts.left, parts.right, parts.left_is, parts.right_is, inr (e, refl));
        },
        record { insn = Branch w c dst src off; here = at; leaves = inl (refl, refl) },
        parts.no (record s { slot = s.slot + 1 }) refl e,
      ))

  -- a branch leads on to the side that its test chooses
  pub goes_apart : (w : Width) (c : Condition) (dst : ℕ) (src : Source) (off : ℤ) (to : ℕ)
      → instruction_at p.slots slot ≡ Some (Branch w c dst src off) → LeadsTo slot off to
      → ((f : Setting) (s : State) → f.shapes ≡ p.shapes → Contains f state s → BranchesTo K f s w c dst src to (slot + 1))
      → LeadsOnFrom p slot state K
  goes_apart w c dst src off to here leads parts f s setting same contains =
      parted w c dst src off to f s (here_at (Branch w c dst src off) here f s setting same) (rw same leads)
      (subst (λ (n : ℕ). BranchesTo K f s w c dst src to (n + 1)) (sym same) (parts f s setting.shapes_are contains)) _ refl

-- the two sides of a branch
pub parts_of : (f : Setting) (s : State) (state : AbstractState) (w : Width) (c : Condition) (dst : ℕ) (src : Source)
    (to next : ℕ) (K : Setting → State → Type 0) (left right : AbstractValue) (yes_word no_word : Option AbstractValue)
    (yes_right no_right : AbstractValue)
    → Some left ≡ slice_index_or state.registers dst None → (b : ℕ) → IsOperand s src b → Describes f.shapes right b
    → ((shapes : List MapShape) (a b : ℕ) → Describes shapes left a → Describes shapes right b → taken w c a b ≡ true →
    KnownDescribes shapes yes_word a)
    → ((shapes : List MapShape) (a b : ℕ) → Describes shapes left a → Describes shapes right b → taken w c a b ≡ false →
    KnownDescribes shapes no_word a)
    → ((shapes : List MapShape) (a b : ℕ) → Describes shapes left a → Describes shapes right b → taken w c a b ≡ true →
    Describes shapes yes_right b)
    → ((shapes : List MapShape) (a b : ℕ) → Describes shapes left a → Describes shapes right b → taken w c a b ≡ false →
    Describes shapes no_right b)
    → ((t : State) → t.slot ≡ to → IsOnSide f state dst src yes_word yes_right (Compared w c true) t → K f t)
    → ((t : State) → t.slot ≡ next → IsOnSide f state dst src no_word no_right (Compared w c false) t → K f t)
    → Contains f state s
    → BranchesTo K f s w c dst src to next
parts_of f s state w c dst src to next K left right yes_word no_word yes_right no_right known b operand word yes_is no_is
    yes_learnt no_learnt add_yes add_no contains =
    let found = found_at f state s dst left known contains in
    record {
      left = found.0;
      right = b;
      left_is = found.1;
      right_is = operand;
      yes = λ t e test.
          rw e (add_yes (record s { slot = to }) refl
          (test_chooses_side f state s to dst found.0 b src yes_word yes_right (Compared w c true) found.1 operand contains
          (yes_is f.shapes found.0 b found.2 word test) (yes_learnt f.shapes found.0 b found.2 word test) test));
      no = λ t e test.
          rw e (add_no (record s { slot = next }) refl
          (test_chooses_side f state s next dst found.0 b src no_word no_right (Compared w c false) found.1 operand contains
          (no_is f.shapes found.0 b found.2 word test) (no_learnt f.shapes found.0 b found.2 word test) test));
    }

-- a run that ends within some steps also ends within more, and after fewer calls
ends_more : (f : Setting) (s : State) (n m made made' : ℕ) → n ≤ m → made' ≤ made → EndsWithin f s n made → EndsWithin f s m made'
ends_more f s zero m made made' le le' ends = absurd ends
ends_more f s (suc n) zero made made' le le' ends = absurd (omega arith)
ends_more f s (suc n) (suc m) made made' le le' (inl exit) = inl exit
ends_more f s (suc n) (suc m) made made' le le' (inr (inl (t, step, ends))) =
    inr (inl (t, step, ends_more f t n m made made' (omega arith) le' ends))
ends_more f s (suc n) (suc m) made made' le le' (inr (inr (few, each))) =
    inr (inr (
      omega arith,
      λ x small. let e = each x small in (e.0, e.1, e.2, e.3, ends_more f e.1 n m (made + 1) (made' + 1) (omega arith) (omega arith) e.4),
    ))

-- a state that ends now ends within any budget from 1 on, and a state one step before ends within a greater budget:
ends_now : (f : Setting) (s : State) (n made answer : ℕ) → 1 ≤ n → Ends f s answer s.maps → EndsWithin f s n made
ends_now f s zero made answer le ends = absurd (omega arith)
ends_now f s (suc n) made answer le ends = inl (answer, ends)

ends_after : (f : Setting) (s t : State) (n m made made' : ℕ)
    → n < m → made' ≤ made → Step f s None t → EndsWithin f t n made → EndsWithin f s m made'
ends_after f s t n zero made made' lt le step ends = absurd (omega arith)
ends_after f s t n (suc m) made made' lt le step ends = inr (inl (t, step, ends_more f t n m made made' (omega arith) le ends))

-- whatever the answer is, the rest ends
ends_asking : (f : Setting) (s : State) (m made : ℕ) → 1 ≤ m → made < most_calls
    → ((x : ℕ) → x < 2 ^ 64 →
    (c : CounterCall) × (t : State) × (n : ℕ) × (k : ℕ) × (answer_of c ≡ x) × Step f s (Some c) t × (n < m) × (made < k)
    × EndsWithin f t n k)
    → EndsWithin f s m made
ends_asking f s zero made le few each = absurd (omega arith)
ends_asking f s (suc m) made le few each =
    inr (inr (
      few,
      λ x small.
          let e = each x small in (
            e.0,
            e.1,
            e.4,
            e.5,
            ends_more f e.1 e.2 m e.3 (made + 1) (let lt = e.6 in omega arith) (let lt = e.7 in omega arith) e.8,
          ),
    ))

module _ (p : Subject) (heights : List ℕ) (made : ℕ → ℕ) (sound : IsGraphSound p.slots) (fall : AreHeights p.slots heights)
    (rise : BoundsCalls p.slots made) (slot : ℕ) (K L : Setting → State → Type 0) where
  -- a state from which the program goes on is safe where the rest is
  ends_from : RestIsSafe p heights made (slot + 1) L → (f : Setting) (s : State) → IsSetting p.slots p.shapes p.context f
      → s.slot ≡ slot → LeadsOn L f s
      → EndsWithin f s (slice_index heights s.slot) (made s.slot)
  ends_from rest f s setting same (inl (answer, ends)) =
      ends_now f s _ _ answer (fall.positive s.slot _ (rw setting.slots_are at ends.here)) ends
  ends_from rest f s setting same (inr (inl (t, step, edge, known))) =
      let edge' : IsEdge p.slots s.slot t.slot = rw setting.slots_are at edge in
      let later = sound.forward s.slot t.slot edge' in
      ends_after f s t _ _ _ _ (fall.fall s.slot t.slot edge') (rise.kept s.slot t.slot edge') step
      (rest f t setting (omega (arith, later.0)) later.1 known)
  ends_from rest f s setting same (inr (inr each)) =
      let first = each 0 (omega arith) in
      let edge : IsAskingEdge p.slots s.slot first.1.slot = rw setting.slots_are at first.4 in
      ends_asking f s _ _ (fall.positive s.slot edge.insn edge.here) (rise.few s.slot first.1.slot edge) (λ x small.
      let e = each x small in
      let asking : IsAskingEdge p.slots s.slot e.1.slot = rw setting.slots_are at e.4 in
      let edge' : IsEdge p.slots s.slot e.1.slot = record { insn = asking.insn; here = asking.here; leaves = asking.leaves } in
      let later = sound.forward s.slot e.1.slot edge' in (
        e.0,
        e.1,
        slice_index heights e.1.slot,
        made e.1.slot,
        e.2,
        e.3,
        fall.fall s.slot e.1.slot edge',
        rise.risen s.slot e.1.slot asking,
        rest f e.1 setting (omega (arith, later.0)) later.1 e.5,
      ))

  -- each known state, at this slot or later, ends within the height of its slot
  at_state : PassesOn p slot K L → RestIsSafe p heights made (slot + 1) L
      → (f : Setting) (s : State) (b : Bool) → IsSetting p.slots p.shapes p.context f → slot ≤ s.slot → IsStart p.slots s.slot
      → K f s → ((b ≡ true) × (s.slot ≡ slot)) ⊎ ((b ≡ false) × (s.slot ≢ slot))
      → EndsWithin f s (slice_index heights s.slot) (made s.slot)
  at_state passes rest f s b setting le begins known (inl (e, same)) =
      ends_from rest f s setting same ((passes f s setting begins known).1 same)
  at_state passes rest f s b setting le begins known (inr (e, other)) =
      rest f s setting (omega arith) begins ((passes f s setting begins known).0 other)

  -- if the rest is safe after the pass of a slot, it is safe before
  pub rest_before : PassesOn p slot K L → RestIsSafe p heights made (slot + 1) L → RestIsSafe p heights made slot K
  rest_before passes rest f s setting le begins known = at_state passes rest f s _ setting le begins known (eqb_tells s.slot slot)

-- where no abstract state waits, none is right about the state
pub none_waits : (f : Setting) (s : State) (waiting : Option (Box AbstractState Global)) → waiting ≡ None → IsDescribed f waiting s → ⊥
none_waits f s waiting none here = rw none at here

-- an abstract state that waits at the slot of a state waits at each slot equal to it
pub waits_at_slot : (f : Setting) (s : State) (pending : List (Option (Box AbstractState Global))) (slot : ℕ)
    → s.slot ≡ slot → WaitsBoxed f pending s → IsDescribed f (slice_index_or pending slot None) s
waits_at_slot f s pending slot same waits = subst (λ (n : ℕ). IsDescribed f (slice_index_or pending n None) s) same waits

module _ (p : Subject) (slot : ℕ) (pending : List (Option (Box AbstractState Global))) (state : AbstractState)
    (live : Bool) (K : Setting → State → Type 0) (empty : slice_index_or pending slot None ≡ None)
    (arrives : (f : Setting) (s : State) → f.shapes ≡ p.shapes → K f s → IsKnown pending state live slot f s) where
  -- the pass goes on past a slot whose instruction leads on
  pub passes_by : (new : List (Option (Box AbstractState Global))) (after : AbstractState) (on : Bool)
      → KeepsWaiting p.shapes pending new → LeadsOnFrom p slot state (IsKnown new after on (slot + 1))
      → PassesOn p slot K (IsKnown new after on (slot + 1))
  passes_by new after on kept goes f s setting begins known =
      (λ other. side (arrives f s setting.shapes_are known) other, λ same. here (arrives f s setting.shapes_are known) same)
    where
      -- a state known at another slot stays known, and one at this slot leads on to a known one:
      side : IsKnown pending state live slot f s → s.slot ≢ slot → IsKnown new after on (slot + 1) f s
      side (inl waits) other = inl (kept f s setting.shapes_are waits)
      side (inr (e, same, contains)) other = absurd (other same)

      here : IsKnown pending state live slot f s → s.slot ≡ slot → LeadsOn (IsKnown new after on (slot + 1)) f s
      here (inl waits) same = absurd (none_waits f s (slice_index_or pending slot None) empty (waits_at_slot f s pending slot same waits))
      here (inr (e, same', contains)) same = goes f s setting same contains

-- no instruction begins past the end
pub rest_at_end : (p : Subject) (heights : List ℕ) (made : ℕ → ℕ) (slot : ℕ) (K : Setting → State → Type 0)
    → length p.slots ≤ slot → RestIsSafe p heights made slot K
rest_at_end p heights made slot K end f s setting le begins known =
    absurd (some_none _ _ begins.here (get_or_past p.slots s.slot None (omega arith)))

-- a program whose start is known is safe
pub safe_from_start : (p : Subject) (heights : List ℕ) (made : ℕ → ℕ) (pending : List (Option (Box AbstractState Global)))
    (state : AbstractState)
    → p.context < 2 ^ 16 → IsStart p.slots 0
    → ((f : Setting) (maps : List (List ℕ)) → HaveShapes f.shapes maps → Contains f state (start maps))
    → RestIsSafe p heights made 0 (IsKnown pending state true 0)
    → Safe p.slots p.shapes p.context (slice_index heights 0)
safe_from_start p heights made pending state small first begins rest f maps setting have n calls t chain =
    goes_well f (rw setting.context_long small) (start maps) (slice_index heights 0)
    (ends_more f (start maps) _ _ _ 0 (let same : slice_index heights 0 ≤ slice_index heights 0 = omega arith in same) zero-le
    (rest f (start maps) setting zero-le first (inr (refl, refl, begins f maps (rw setting.shapes_are have))))) n calls t chain

-- a register of a start state
pub start_is : (f : Setting) (maps : List (List ℕ)) (v : AbstractState) (k m : AbstractValue)
    → 10 < length v.registers → k.kind ≡ Context → Within k.offset 0 → m.kind ≡ Stack → Within m.offset 512
    → Contains f v (start maps)
    → Contains f (knowing (knowing v 1 k) 10 m) (start maps)
start_is f maps v k m long kind within kind' within' contains =
    contains_learn f (knowing v 1 k) (start maps) 10 (stack_base + stack_size) m (rw length-set long) refl
    (contains_learn f v (start maps) 1 context_base k (omega arith) refl contains
    (record { base = context_base; offset = 0; is_base = rw kind refl; within = within; word_is = refl }))
    (record { base = stack_base; offset = 512; is_base = rw kind' refl; within = within'; word_is = refl })
