-- The machine states that an abstract state describes.
use Rattle.std.specs.Prelude.{Bool, ◌≡◌, ℕ, ◌+◌, ◌*◌, ◌%◌, ◌^◌, ◌<◌, ◌≤◌, true, false, List, Option, Some, None, length, slice_get, slice_set, slice_index, slice_index_or, IsTrue, ◌⊎◌}
use Rattle.std.specs.Int.{byte_at}
use Rattle.bq_bpf.specs.declared.shape.MapShape.{MapShape}
use Rattle.bq_bpf.specs.Memory.{Setting, State, Region, Reads, InContext, InStack, InEntry, Spans, IsEntry, reference, values_base, context_base, stack_base, HaveShapes, stack_size, written}
use Rattle.bq_bpf.specs.Steps.{IsOperand, next}
use Rattle.bq_insn.specs.declared.Source.{Source}
use Rattle.bq_ranges.specs.declared.range.Range.{Range}
use Rattle.bq_ranges.specs.Within.{Within}
use Rattle.bq_states.specs.Certainty.{Pointer, CertaintyHoldsAt}
use Rattle.bq_states.specs.Copies.{AreCopies}
use Rattle.bq_states.specs.Parts.{HaveParts}
use Rattle.bq_states.specs.declared.abstract_state.ValueKind.{ValueKind}
use Rattle.bq_states.specs.declared.abstract_state.ValueKind.TheVariants.{Number, Context, Stack, Entry, EntryOrNull, Map}
use Rattle.bq_states.specs.declared.abstract_state.AbstractValue.{AbstractValue}
use Rattle.bq_states.specs.declared.abstract_state.AbstractState.{AbstractState}

-- maps `m` and `n` have the same shape; the number of the second fits a byte, as a `ValueKind` needs
pub record AreAlike (shapes : List MapShape) (m n : ℕ) : Type 0 where
  pub shape : MapShape
  pub one : slice_get shapes m ≡ Some shape
  pub other : slice_get shapes n ≡ Some shape
  pub low : n < 256

-- the base is the first address of some entry of map `m`, or of a map with the same shape as `m`
pub record IsEntryBase (shapes : List MapShape) (m base : ℕ) : Type 0 where
  pub map : ℕ
  pub alike : AreAlike shapes m map
  pub first : ℕ
  pub size : ℕ
  pub entry : IsEntry shapes map first size
  pub base_is : base ≡ values_base map + first

-- the base is the reference of map `m`, or of a map with the same shape as `m`
pub record IsReferenceBase (shapes : List MapShape) (m base : ℕ) : Type 0 where
  pub map : ℕ
  pub alike : AreAlike shapes m map
  pub base_is : base ≡ reference map

-- the base is one from which a word of this kind may count
abbrev pub IsBase : List MapShape → ValueKind → ℕ → Type 0
IsBase shapes Number base = base ≡ 0
IsBase shapes Context base = base ≡ context_base
IsBase shapes Stack base = base ≡ stack_base
IsBase shapes (Entry m) base = IsEntryBase shapes m base
IsBase shapes (EntryOrNull m) base = (base ≡ 0) ⊎ IsEntryBase shapes m base
IsBase shapes (Map m) base = IsReferenceBase shapes m base

-- the word is one that the abstract value describes: a base of its kind plus an offset of its range
pub record Describes (shapes : List MapShape) (k : AbstractValue) (word : ℕ) : Type 0 where
  pub base : ℕ
  pub offset : ℕ
  pub is_base : IsBase shapes k.kind base
  pub within : Within k.offset offset
  pub word_is : word ≡ (base + offset) % 2 ^ 64

-- if something is known of a register, the register is set to a word that the abstract value describes
abbrev pub RegisterIsAsKnown : List MapShape → Option AbstractValue → Option ℕ → Type 0
RegisterIsAsKnown shapes None v = Unit {0}
RegisterIsAsKnown shapes (Some k) v = (n : ℕ) × (v ≡ Some n) × Describes shapes k n

-- if something is known of eight bytes of the stack, they hold a word that the abstract value describes, stored whole
abbrev pub StackIsAsKnown : List MapShape → Option AbstractValue → (ℕ → Option ℕ) → ℕ → Type 0
StackIsAsKnown shapes None stack j = Unit {0}
StackIsAsKnown shapes (Some k) stack j = (n : ℕ) × Describes shapes k n × ((i : ℕ) → i < 8 → stack (8 * j + i) ≡ Some (byte_at i n))

-- each number of the list is below 256
abbrev pub AreBelow256 : List ℕ → Type 0
AreBelow256 bytes = (k : ℕ) → k < length bytes → slice_index bytes k < 256

-- the abstract state describes this machine state: all that it says is true of the state
pub record Contains (f : Setting) (v : AbstractState) (s : State) : Type 0 where
  pub registers : (r : ℕ) → RegisterIsAsKnown f.shapes (slice_index_or v.registers r None) (s.register r)
  pub set : (i : ℕ) → slice_index_or v.set i false ≡ true → (b : ℕ) × (s.stack i ≡ Some b) × (b < 256)
  pub kept : (j : ℕ) → StackIsAsKnown f.shapes (slice_index_or v.kept j None) s.stack j
  pub parts : HaveParts s.stack v.parts
  pub maps : HaveShapes f.shapes s.maps
  pub copies : AreCopies v.classes v.related s

-- the setting suits a program with these shapes and this length of context
pub record Suits (shapes : List MapShape) (context_length : ℕ) (f : Setting) : Type 0 where
  pub shapes_are : f.shapes ≡ shapes
  pub context_long : length f.context ≡ context_length
  pub context_bytes : (i b : ℕ) → slice_get f.context i ≡ Some b → b < 256
  pub now_fits : f.now < 2 ^ 64
  pub processor_fits : f.processor < 2 ^ 32

-- in every state that the abstract state describes, the operand is set to a word of `k`
abbrev pub FindsOperand : AbstractState → Source → AbstractValue → Type 0
FindsOperand v src k = (f : Setting) (s : State) → Contains f v s → (b : ℕ) × IsOperand s src b × Describes f.shapes k b

-- the abstract state after register `dst` got a word of `k`; the register is no longer a copy of another place
abbrev pub knowing : AbstractState → ℕ → AbstractValue → AbstractState
knowing v dst k = record v { registers = slice_set v.registers dst (Some k); classes = slice_set v.classes dst 0 }

-- in a program with these maps, every word of the old abstract value is a word of the new one
abbrev pub Allows : List MapShape → Option AbstractValue → Option AbstractValue → Type 0
Allows shapes old None = Unit {0}
Allows shapes None (Some new) = ⊥
Allows shapes (Some old) (Some new) = (word : ℕ) → Describes shapes old word → Describes shapes new word

-- a pointer of this kind points into this region
abbrev pub IsRegionOfKind : ValueKind → Region → Type 0
IsRegionOfKind Context region = region ≡ InContext
IsRegionOfKind Stack region = region ≡ InStack
IsRegionOfKind (Entry m) region = (map : ℕ) × (first : ℕ) × (region ≡ InEntry map first)
IsRegionOfKind _ region = ⊥

-- each base from which a pointer of this kind counts is the start of a region of this size
abbrev pub Bounds : List MapShape → ℕ → ValueKind → ℕ → Type 0
Bounds shapes context_length kind size =
    (f : Setting) (base : ℕ) → Suits shapes context_length f → IsBase f.shapes kind base → (region : Region) × Spans f region base size × IsRegionOfKind kind region × (base < 2 ^ 63)

-- registers 1 to 5 are forgotten, and no other register changes
pub record Clears (old new : List (Option AbstractValue)) : Type 0 where
  pub forgotten : (r : ℕ) → 1 ≤ r → r < 6 → slice_index_or new r None ≡ None
  pub first : slice_index_or new 0 None ≡ slice_index_or old 0 None
  pub others : (r : ℕ) → 6 ≤ r → slice_index_or new r None ≡ slice_index_or old r None

-- register `r` points to `count` bytes that may be read
abbrev pub PointsToBytes : Setting → State → ℕ → ℕ → Type 0
PointsToBytes f s r count = (word : ℕ) × (bytes : List ℕ) × (s.register r ≡ Some word) × (length bytes ≡ count) × Reads f s word bytes × ((i : ℕ) → slice_index bytes i < 256)

-- in every state that the abstract state describes, register `r` points to `count` bytes that may be read
abbrev pub FindsBytes : List MapShape → ℕ → AbstractState → ℕ → ℕ → Type 0
FindsBytes shapes context_length state r count = (f : Setting) (s : State) → Suits shapes context_length f → Contains f state s → PointsToBytes f s r count

-- all stack bytes from `from` up to but not including `to` are set
abbrev pub AreSet : List Bool → ℕ → ℕ → Type 0
AreSet set from to = (i : ℕ) → from ≤ i → i < to → slice_index_or set i false ≡ true

-- the answer is true if the register surely points to `count` bytes of the stack that are all set
abbrev pub AcceptsSetBytes : AbstractState → ℕ → ℕ → Bool → Type 0
AcceptsSetBytes v r count answer =
    (at : ℕ) → CertaintyHoldsAt (Pointer Stack at) v r → at + count ≤ stack_size → AreSet v.set at (at + count) → IsTrue answer

-- only stack bytes from `from` up to but not including `to` were newly set
abbrev pub Marks : List Bool → List Bool → ℕ → ℕ → Type 0
Marks old new from to = (i : ℕ) → slice_index_or new i false ≡ true → ((from ≤ i) × (i < to)) ⊎ (slice_index_or old i false ≡ true)

-- each slot of eight bytes is forgotten, or is as it was and has no byte from `from` up to `to`
abbrev pub Forgets : List (Option AbstractValue) → List (Option AbstractValue) → ℕ → ℕ → Type 0
Forgets old new from to = (j : ℕ) → (slice_index_or new j None ≡ None) ⊎ ((slice_index_or new j None ≡ slice_index_or old j None) × ((8 * j + 8 ≤ from) ⊎ (to ≤ 8 * j)))

-- a write of `count` bytes to the stack, at an offset of the range, leads from every state of the old abstract state to
-- a state of the new one
abbrev pub Overwrites : AbstractState → AbstractState → Range → ℕ → Type 0
Overwrites old new at count =
    (f : Setting) (s : State) (o : ℕ) (bytes : List ℕ) → Contains f old s → Within at o → length bytes ≡ count → AreBelow256 bytes → Contains f new (next (written s InStack o bytes))

-- the abstract state after a word of `k` was kept in a slot of eight bytes
abbrev pub keeping : AbstractState → ℕ → AbstractValue → AbstractState
keeping v slot k = record v { kept = slice_set v.kept slot (Some k) }

-- how many bytes a value of this shape has; none if there is no shape
abbrev pub size_of_shape : Option MapShape → Option ℕ
size_of_shape None = None
size_of_shape (Some shape) = Some shape.value_size

-- how many bytes the region has into which a pointer of this kind points; none if it may not be followed
abbrev pub bound_of : List MapShape → ℕ → ValueKind → Option ℕ
bound_of shapes context Context = Some context
bound_of shapes context Stack = Some stack_size
bound_of shapes context (Entry m) = size_of_shape (slice_get shapes m)
bound_of shapes context _ = None
