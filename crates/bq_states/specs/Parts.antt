-- Numbers that are stored in a few bytes of the stack.
use Rattle.std.specs.Prelude.{◌≡◌, ℕ, ◌+◌, ◌^◌, ◌<◌, ◌≤◌, List, Option, Some, None, length, slice_index, slice_index_or}
use Rattle.bq_insn.specs.Slots.{byte_count}
use Rattle.bq_insn.specs.declared.Size.{Size}
use Rattle.bq_bpf.specs.Memory.{number_of, stack_with}
use Rattle.bq_bpf.specs.Steps.{low_bytes}
use Rattle.bq_ranges.specs.declared.range.Range.{Range}
use Rattle.bq_ranges.specs.Within.{Within}
use Rattle.bq_states.specs.declared.abstract_state.StackPart.{StackPart}

-- the `count` bytes of the stack from `first` on are these
abbrev pub HasBytes : (ℕ → Option ℕ) → ℕ → ℕ → List ℕ → Type 0
HasBytes stack first count bytes = (length bytes ≡ count) × ((i : ℕ) → i < count → stack (first + i) ≡ Some (slice_index bytes i))

-- if a part is known, its bytes are set, and the number that they spell, the low byte first, is in its range
abbrev pub HasStackPart : (ℕ → Option ℕ) → Option StackPart → Type 0
HasStackPart stack None = Unit {0}
HasStackPart stack (Some p) = (bytes : List ℕ) × HasBytes stack p.first (byte_count p.size) bytes × Within p.range (number_of bytes)

-- the stack is as each known part says
abbrev pub HaveParts : (ℕ → Option ℕ) → List (Option StackPart) → Type 0
HaveParts stack parts = (j : ℕ) → HasStackPart stack (slice_index_or parts j None)

-- the stack has the low bytes of the word from `first` on
abbrev pub HasLowBytes : (ℕ → Option ℕ) → ℕ → Size → ℕ → Type 0
HasLowBytes stack first size word = HasBytes stack first (byte_count size) (low_bytes size word)

-- on a stack with these parts, a read of `count` bytes at an offset of the range `at` gives a number of the range `read`
abbrev pub ReadsWithin : List (Option StackPart) → Range → ℕ → Range → Type 0
ReadsWithin parts at count read =
    (stack : ℕ → Option ℕ) (o : ℕ) (bytes : List ℕ) → HaveParts stack parts → Within at o → HasBytes stack o count bytes → number_of bytes < 256 ^ count → Within read (number_of bytes)

-- every stack that has the old part has the new one
pub record AllowsPart (old new : Option StackPart) : Type 0 where
  pub has : (stack : ℕ → Option ℕ) → HasStackPart stack old → HasStackPart stack new

-- if a stack has the old part, it has the new part after any write to bytes from `from` up to `to`
pub record Outlives (from to : ℕ) (old new : Option StackPart) : Type 0 where
  pub has : (stack : ℕ → Option ℕ) (at : ℕ) (bytes : List ℕ) → from ≤ at → at + length bytes ≤ to → HasStackPart stack old → HasStackPart (stack_with stack at bytes) new
