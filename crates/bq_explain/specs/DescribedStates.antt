-- What a text says of registers and stack, as it is read.
use Rattle.std.specs.Prelude.{◌≡◌, ℕ, ◌+◌, ◌-◌, ◌*◌, ◌<◌, ◌≤◌, ◌⊎◌, List, [], ◌++◌, Some, codes}
use Rattle.std.specs.Int.{byte_at}
use Rattle.std.specs.Fmt.{decimal}
use Rattle.bq_bpf.specs.Memory.{Setting, State, stack_size}
use Rattle.bq_explain.specs.Texts.{byte_run_text}
use Rattle.bq_needs.specs.DescribedWords.{DescribesWord}

-- a register, and what is said of its word
abbrev pub register_piece : ℕ → List ℕ → List ℕ
register_piece register text = codes " r" ++ (decimal register ++ (codes " " ++ (text ++ codes "  ")))

-- pieces of a line, each of which names a register of the state and tells its word
pub data DescribesRegisters : Setting → State → List ℕ → Type 0 where
  no_register : (f : Setting) (s : State) → DescribesRegisters f s []
  one_register : (f : Setting) (s : State) (before text : List ℕ) (register word : ℕ) → DescribesRegisters f s before
      → s.register register ≡ Some word → DescribesWord f.shapes text word → DescribesRegisters f s (before ++ register_piece register text)

-- registers by only their names
pub data AreRegisterNames : List ℕ → Type 0 where
  no_name : AreRegisterNames []
  one_name : (before : List ℕ) (register : ℕ) → AreRegisterNames before → AreRegisterNames (before ++ (codes " r" ++ decimal register))

-- nothing, or registers by their names, and that they are unknown: no word of any is reported
abbrev pub NamesUnknown : List ℕ → Type 0
NamesUnknown text = (text ≡ []) ⊎ ((names : List ℕ) × (text ≡ names ++ codes " unknown  ") × AreRegisterNames names)

-- the state has each byte of the stack from the first up to the one past the last
abbrev pub HasEachByte : State → ℕ → ℕ → Type 0
HasEachByte s first past = (i : ℕ) → first ≤ i → i < past → (b : ℕ) × (s.stack i ≡ Some b)

-- the text names runs of stack bytes, each of which is set in the state
pub data DescribesRuns : State → List ℕ → Type 0 where
  no_described_run : (s : State) → DescribesRuns s []
  one_described_run : (s : State) (before : List ℕ) (first past : ℕ) → DescribesRuns s before
      → first < past → past ≤ stack_size → HasEachByte s first past → DescribesRuns s (before ++ byte_run_text first past)

-- the text on the stack holds of a state
abbrev pub DescribesStack : State → List ℕ → Type 0
DescribesStack s text =
    (text ≡ codes " stack: nothing known to be written\n") ⊎ ((runs : List ℕ) × (text ≡ codes " stack:" ++ (runs ++ codes " written\n")) × DescribesRuns s runs)

-- the eight bytes at a slot of the state's stack are those of a word
abbrev pub StackHolds : State → ℕ → ℕ → Type 0
StackHolds s slot word = (i : ℕ) → i < 8 → s.stack (8 * slot + i) ≡ Some (byte_at i word)

-- the line on a slot of the stack, with what is said of its word
abbrev pub kept_line : ℕ → List ℕ → List ℕ
kept_line slot text = codes "  the 8 bytes at stack end - " ++ (decimal (stack_size - slot * 8) ++ (codes ": " ++ (text ++ codes "\n")))

-- lines, each of which tells the word in eight bytes of the state's stack
pub data DescribesKept : Setting → State → List ℕ → Type 0 where
  no_kept : (f : Setting) (s : State) → DescribesKept f s []
  one_kept : (f : Setting) (s : State) (before text : List ℕ) (slot word : ℕ) → DescribesKept f s before
      → StackHolds s slot word → DescribesWord f.shapes text word → DescribesKept f s (before ++ kept_line slot text)

-- What is printed holds of the state: the words of registers that are printed, the bytes of the stack, and the words in it. All
-- other registers are only named
pub record DescribesState (f : Setting) (s : State) (text : List ℕ) : Type 0 where
  pub registers : List ℕ
  pub unknown : List ℕ
  pub stack : List ℕ
  pub kept : List ℕ
  pub text_is : text ≡ codes " " ++ (registers ++ (unknown ++ (stack ++ kept)))
  pub registers_described : DescribesRegisters f s registers
  pub unknown_named : NamesUnknown unknown
  pub stack_described : DescribesStack s stack
  pub kept_described : DescribesKept f s kept
