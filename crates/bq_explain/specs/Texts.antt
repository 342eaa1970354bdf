-- The words that say what is known of registers and stack.
use Rattle.std.specs.Prelude.{◌≡◌, ℕ, zero, suc, ◌+◌, ◌-◌, ◌*◌, ◌<◌, ◌≤◌, ◌==◌, Bool, false, List, [], ◌∷◌, ◌++◌, ◌⊎◌, Option, Some, None, codes, slice_index_or, if◌then◌else◌}
use Rattle.std.specs.Fmt.{decimal}
use Rattle.bq_bpf.specs.Memory.{stack_size}
use Rattle.bq_bpf.specs.declared.shape.MapShape.{MapShape}
use Rattle.bq_states.specs.declared.abstract_state.AbstractValue.{AbstractValue}
use Rattle.bq_states.specs.declared.abstract_state.AbstractState.{AbstractState}
use Rattle.bq_needs.specs.Accesses.{AreBytesSet}
use Rattle.bq_needs.specs.Texts.{known_text}

-- a register and what is known of it; nothing is printed if nothing is known
abbrev pub known_register_text : List MapShape → ℕ → Option AbstractValue → List ℕ
known_register_text shapes register None = []
known_register_text shapes register (Some k) = codes " r" ++ (decimal register ++ (codes " " ++ (known_text shapes k ++ codes "  ")))

-- the first registers, this many of them
abbrev pub registers_below : List MapShape → ℕ → List (Option AbstractValue) → List ℕ
registers_below shapes zero registers = []
registers_below shapes (suc n) registers = registers_below shapes n registers ++ known_register_text shapes n (slice_index_or registers n None)

-- the name of a register of which nothing is known; nothing is printed of others
abbrev pub unknown_name : ℕ → Option AbstractValue → List ℕ
unknown_name register None = codes " r" ++ decimal register
unknown_name register (Some k) = []

-- the names of the unknown registers among the first ones, this many
abbrev pub unknown_below : ℕ → List (Option AbstractValue) → List ℕ
unknown_below zero registers = []
unknown_below (suc n) registers = unknown_below n registers ++ unknown_name n (slice_index_or registers n None)

-- names of registers, and that they are unknown; nothing is printed if there is no name
abbrev pub called_unknown : List ℕ → List ℕ
called_unknown [] = []
called_unknown (first ∷ rest) = (first ∷ rest) ++ codes " unknown  "

-- the registers of which nothing is known
abbrev pub unknown_registers_text : List (Option AbstractValue) → List ℕ
unknown_registers_text registers = called_unknown (unknown_below 11 registers)

-- a word that is kept whole on the stack, by how far its first byte is below the end
abbrev pub kept_text : List MapShape → ℕ → Option AbstractValue → List ℕ
kept_text shapes slot None = []
kept_text shapes slot (Some k) = codes "  the 8 bytes at stack end - " ++ (decimal (stack_size - slot * 8) ++ (codes ": " ++ (known_text shapes k ++ codes "\n")))

-- what is known of the first slots of the stack, this many
abbrev pub kept_below : List MapShape → ℕ → List (Option AbstractValue) → List ℕ
kept_below shapes zero slots = []
kept_below shapes (suc n) slots = kept_below shapes n slots ++ kept_text shapes n (slice_index_or slots n None)

-- bytes of the stack from the first up to the one past the last, by how far they are below the end
abbrev pub byte_run_text : ℕ → ℕ → List ℕ
byte_run_text first past =
    if stack_size - first == stack_size + 1 - past then codes " -" ++ decimal (stack_size - first)
    else codes " -" ++ (decimal (stack_size - first) ++ (codes "..-" ++ decimal (stack_size + 1 - past)))

-- a run of bytes that are set ends before that one: there is no byte, or it is not set
abbrev pub EndsAt : List Bool → ℕ → Type 0
EndsAt set past = (past ≡ stack_size) ⊎ (slice_index_or set past false ≡ false)

-- the runs of bytes that are set, in order, as long as each is: all of them among the first bytes, this many
pub data AreByteRuns : List Bool → ℕ → List ℕ → Type 0 where
  no_byte : (set : List Bool) → AreByteRuns set 0 []
  unset_byte : (set : List Bool) (before : List ℕ) (byte : ℕ) → AreByteRuns set byte before → slice_index_or set byte false ≡ false → AreByteRuns set (byte + 1) before
  one_run : (set : List Bool) (before : List ℕ) (first past : ℕ) → AreByteRuns set first before → first < past → past ≤ stack_size
      → AreBytesSet set first past → EndsAt set past → AreByteRuns set past (before ++ byte_run_text first past)

-- the line on the stack: the runs of written bytes; or, if there are none, that nothing is known to be written
abbrev pub written_stack_text : List ℕ → List ℕ
written_stack_text [] = codes " stack: nothing known to be written\n"
written_stack_text (first ∷ rest) = codes " stack:" ++ ((first ∷ rest) ++ codes " written\n")

-- the bytes of the stack that are set: all runs of them, or that none is
abbrev pub IsStackText : List Bool → List ℕ → Type 0
IsStackText set text = (runs : List ℕ) × AreByteRuns set stack_size runs × (text ≡ written_stack_text runs)

-- what is known: each register that is known, those that are not, the stack's bytes that are set, and the words that are kept there
pub record IsStateText (shapes : List MapShape) (v : AbstractState) (text : List ℕ) : Type 0 where
  pub stack : List ℕ
  pub text_is : text ≡ codes " " ++ (registers_below shapes 11 v.registers ++ (unknown_registers_text v.registers ++ (stack ++ kept_below shapes 64 v.kept)))
  pub is_stack : IsStackText v.set stack
