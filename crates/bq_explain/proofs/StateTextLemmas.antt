-- What is printed of an abstract state holds of each state that it contains.
use Rattle.std.proofs.Common.{◌≡◌, ℕ, suc, zero, Bool, true, false, List, [], ◌∷◌, ◌++◌, Option, Some, None, slice_index_or, append-nil, sym, subst, inl, inr}
use Rattle.std.specs.Prelude.{codes}
use Rattle.bq_bpf.specs.declared.shape.MapShape.{MapShape}
use Rattle.bq_bpf.specs.Memory.{Setting, State}
use Rattle.bq_states.specs.AbstractStates.{Contains, RegisterIsAsKnown, StackIsAsKnown}
use Rattle.bq_states.specs.declared.abstract_state.AbstractValue.{AbstractValue}
use Rattle.bq_states.specs.declared.abstract_state.AbstractState.{AbstractState}
use Rattle.bq_explain.specs.DescribedStates.{DescribesRegisters, no_register, one_register, DescribesRuns, no_described_run, one_described_run, DescribesStack, DescribesKept, no_kept, one_kept, DescribesState}
use Rattle.bq_explain.specs.Texts.{known_register_text, registers_below, kept_text, kept_below, AreByteRuns, no_byte, unset_byte, one_run, IsStackText, IsStateText, written_stack_text, unknown_registers_text}
use Rattle.bq_explain.proofs.UnknownLemmas.{names_unknown}
use Rattle.bq_needs.specs.Texts.{known_text}
use Rattle.bq_needs.proofs.DescribedWordLemmas.{describes_known}

-- a text that describes the first registers and one more describes them all
pub describes_register : (f : Setting) (s : State) (before : List ℕ) (r : ℕ) (known : Option AbstractValue)
    → RegisterIsAsKnown f.shapes known (s.register r) → DescribesRegisters f s before
    → DescribesRegisters f s (before ++ known_register_text f.shapes r known)
describes_register f s before r None holds described = subst (λ (t : List ℕ). DescribesRegisters f s t) (sym (append-nil before)) described
describes_register f s before r (Some k) (n, is, describes) described =
    one_register f s before (known_text f.shapes k) r n described is (describes_known f.shapes k n describes)

-- the text of the first registers describes them in each state that is contained
pub describes_registers : (f : Setting) (s : State) (v : AbstractState)
    → Contains f v s → (n : ℕ) → DescribesRegisters f s (registers_below f.shapes n v.registers)
describes_registers f s v contains zero = no_register f s
describes_registers f s v contains (suc n) =
    describes_register f s (registers_below f.shapes n v.registers) n (slice_index_or v.registers n None)
    (contains.registers n) (describes_registers f s v contains n)

-- a text that describes the first words that are kept, and one more, describes them all
pub describes_slot : (f : Setting) (s : State) (before : List ℕ) (j : ℕ) (known : Option AbstractValue)
    → StackIsAsKnown f.shapes known s.stack j → DescribesKept f s before
    → DescribesKept f s (before ++ kept_text f.shapes j known)
describes_slot f s before j None holds described = subst (λ (t : List ℕ). DescribesKept f s t) (sym (append-nil before)) described
describes_slot f s before j (Some k) (n, describes, bytes) described =
    one_kept f s before (known_text f.shapes k) j n described bytes (describes_known f.shapes k n describes)

-- the lines of the words that an abstract state keeps tell what the stack of each state of it has
pub describes_kept : (f : Setting) (s : State) (v : AbstractState)
    → Contains f v s → (n : ℕ) → DescribesKept f s (kept_below f.shapes n v.kept)
describes_kept f s v contains zero = no_kept f s
describes_kept f s v contains (suc n) =
    describes_slot f s (kept_below f.shapes n v.kept) n (slice_index_or v.kept n None) (contains.kept n) (describes_kept f s v contains n)

-- runs of bytes that the abstract state knows to be set are set
pub describes_runs : (s : State) {set : List Bool} {past : ℕ} {text : List ℕ}
    → ((i : ℕ) → slice_index_or set i false ≡ true → (b : ℕ) × (s.stack i ≡ Some b)) → AreByteRuns set past text
    → DescribesRuns s text
describes_runs s is (no_byte set) = no_described_run s
describes_runs s is (unset_byte set before byte rest unset) = describes_runs s is rest
describes_runs s is (one_run set before first past rest some inside all ends) =
    one_described_run s before first past (describes_runs s is rest) some inside (λ i from to. is i (all i from to))

-- runs that are reported, or none
describes_line : (s : State) (runs text : List ℕ) → text ≡ written_stack_text runs → DescribesRuns s runs → DescribesStack s text
describes_line s [] text is described = inl is
describes_line s (first ∷ rest) text is described = inr (first ∷ rest, is, described)

-- the line of the bytes that an abstract state knows to be set tells bytes that are set in each state of it
pub describes_stack : (f : Setting) (s : State) (v : AbstractState) (text : List ℕ)
    → Contains f v s → IsStackText v.set text → DescribesStack s text
describes_stack f s v text contains (runs, are, is) =
    describes_line s runs text is (describes_runs s (λ i set. let described = contains.set i set in (described.0, described.1)) are)

-- the parts of the text make it whole
pub is_state_text : (shapes : List MapShape) (v : AbstractState) (registers unset stack kept text : List ℕ)
    → registers ≡ registers_below shapes 11 v.registers → unset ≡ unknown_registers_text v.registers → IsStackText v.set stack
    → kept ≡ kept_below shapes 64 v.kept → text ≡ codes " " ++ (registers ++ (unset ++ (stack ++ kept)))
    → IsStateText shapes v text
is_state_text shapes v registers unset stack kept text registers_are unset_are is_stack kept_are is =
    record { stack = stack; text_is = rw registers_are at rw unset_are at rw kept_are at is; is_stack = is_stack }

-- the text of an abstract state describes each state that it contains
pub describes_state : (shapes : List MapShape) (v : AbstractState) (text : List ℕ)
    → IsStateText shapes v text → (f : Setting) (s : State) → f.shapes ≡ shapes → Contains f v s
    → DescribesState f s text
describes_state shapes v text described f s of contains =
    let is : IsStateText f.shapes v text = rw of described in
    record {
      registers = registers_below f.shapes 11 v.registers;
      unknown = unknown_registers_text v.registers;
      stack = is.stack;
      kept = kept_below f.shapes 64 v.kept;
      text_is = is.text_is;
      registers_described = describes_registers f s v contains 11;
      unknown_named = names_unknown v.registers;
      stack_described = describes_stack f s v is.stack contains is.is_stack;
      kept_described = describes_kept f s v contains 64;
    }
