-- Writes on the stack: the bytes inside and outside a write, and the abstract state after it.
use Rattle.std.proofs.Common.{◌≡◌, ℕ, zero, suc, ◌+◌, ◌-◌, ◌*◌, ◌<◌, ◌≤◌, Bool, true, false, ◌&&◌, List, Option, Some, None, length, refl, arith, ap, cond, ◌∙◌, ◌⊎◌, inl, inr}
use Rattle.std.specs.Prelude.{slice_index, slice_index_or}
use Rattle.std.specs.Int.{byte_at as byte_of, bytes_low_first}
use Rattle.std.proofs.lemmas.Bool.Decides.{leb_tells}
use Rattle.bq_bpf.specs.declared.shape.MapShape.{MapShape}
use Rattle.bq_bpf.specs.Memory.{Setting, State, InStack, stack_with, written}
use Rattle.bq_bpf.specs.Steps.{next}
use Rattle.bq_states.specs.declared.abstract_state.AbstractState.{AbstractState}
use Rattle.bq_states.specs.declared.abstract_state.AbstractValue.{AbstractValue}
use Rattle.bq_states.specs.Copies.{AreCopies}
use Rattle.bq_states.specs.Parts.{Outlives}
use Rattle.bq_states.specs.AbstractStates.{Describes, StackIsAsKnown, Contains, Marks, Forgets}

-- a byte of the stack after a write is a written one or the old one, by how two tests of its place come out
stack_tests : (stack : ℕ → Option ℕ) (at : ℕ) (bytes : List ℕ) (i : ℕ) (b c : Bool)
    → ((b ≡ true) × (at ≤ i)) ⊎ ((b ≡ false) × (i < at))
    → ((c ≡ true) × (suc i ≤ at + length bytes)) ⊎ ((c ≡ false) × (at + length bytes < suc i))
    → ((at ≤ i) × (i < at + length bytes)
    × (cond (b && c) (Some (slice_index bytes (i - at))) (stack i) ≡ Some (slice_index bytes (i - at))))
    ⊎ (((i < at) ⊎ (at + length bytes ≤ i)) × (cond (b && c) (Some (slice_index bytes (i - at))) (stack i) ≡ stack i))
stack_tests stack at bytes i b c (inl (e, le)) (inl (e', lt)) = inl (le, lt, rw (e, e') refl)
stack_tests stack at bytes i b c (inl (e, le)) (inr (e', past)) = inr (inr (omega arith), rw (e, e') refl)
stack_tests stack at bytes i b c (inr (e, below)) q = inr (inl below, rw e refl)

-- a byte of the stack after a write: one that was written, or the old one
pub stack_cases : (stack : ℕ → Option ℕ) (at : ℕ) (bytes : List ℕ) (i : ℕ)
    → ((at ≤ i) × (i < at + length bytes) × (stack_with stack at bytes i ≡ Some (slice_index bytes (i - at))))
    ⊎ (((i < at) ⊎ (at + length bytes ≤ i)) × (stack_with stack at bytes i ≡ stack i))
stack_cases stack at bytes i = stack_tests stack at bytes i _ _ (leb_tells at i) (leb_tells (suc i) (at + length bytes))

-- a byte that is marked as set after a write is set, and below 256
set_after : (v : AbstractState) (s : State) (at i : ℕ) (bytes : List ℕ) (stack : Option ℕ)
    → ((k : ℕ) → k < length bytes → slice_index bytes k < 256)
    → (slice_index_or v.set i false ≡ true → (b : ℕ) × (s.stack i ≡ Some b) × (b < 256))
    → ((at ≤ i) × (i < at + length bytes)) ⊎ (slice_index_or v.set i false ≡ true)
    → ((at ≤ i) × (i < at + length bytes) × (stack ≡ Some (slice_index bytes (i - at))))
    ⊎ (((i < at) ⊎ (at + length bytes ≤ i)) × (stack ≡ s.stack i))
    → (b : ℕ) × (stack ≡ Some b) × (b < 256)
set_after v s at i bytes stack small old marked (inl (le, lt, e)) = (slice_index bytes (i - at), e, small (i - at) (omega arith))
set_after v s at i bytes stack small old (inl (le, lt)) (inr (inl below, e)) = absurd (omega arith)
set_after v s at i bytes stack small old (inl (le, lt)) (inr (inr past, e)) = absurd (omega arith)
set_after v s at i bytes stack small old (inr was) (inr (apart, e)) = let known = old was in (known.0, rw e known.1, known.2)

-- a byte that the write does not touch is as it was
pub byte_outside_write : (stack : ℕ → Option ℕ) (at : ℕ) (bytes : List ℕ) (i : ℕ)
    → (i < at) ⊎ (at + length bytes ≤ i)
    → ((at ≤ i) × (i < at + length bytes) × (stack_with stack at bytes i ≡ Some (slice_index bytes (i - at))))
    ⊎ (((i < at) ⊎ (at + length bytes ≤ i)) × (stack_with stack at bytes i ≡ stack i))
    → stack_with stack at bytes i ≡ stack i
byte_outside_write stack at bytes i (inl below) (inl (le, lt, e)) = absurd (omega arith)
byte_outside_write stack at bytes i (inr past) (inl (le, lt, e)) = absurd (omega arith)
byte_outside_write stack at bytes i apart (inr (apart', e)) = e

-- a byte of a slot that the write does not touch is as it was
pub apart_byte : (stack : ℕ → Option ℕ) (at : ℕ) (bytes : List ℕ) (j i : ℕ)
    → (8 * j + 8 ≤ at) ⊎ (at + length bytes ≤ 8 * j) → i < 8
    → stack_with stack at bytes (8 * j + i) ≡ stack (8 * j + i)
apart_byte stack at bytes j i (inl below) lt =
    byte_outside_write stack at bytes (8 * j + i) (inl (omega arith)) (stack_cases stack at bytes (8 * j + i))
apart_byte stack at bytes j i (inr past) lt =
    byte_outside_write stack at bytes (8 * j + i) (inr (omega arith)) (stack_cases stack at bytes (8 * j + i))

-- a slot that the write does not touch keeps its word
pub StackIsAsKnown-apart : (shapes : List MapShape) (k : Option AbstractValue) (stack : ℕ → Option ℕ) (at : ℕ)
    (bytes : List ℕ) (j : ℕ)
    → (8 * j + 8 ≤ at) ⊎ (at + length bytes ≤ 8 * j) → StackIsAsKnown shapes k stack j
    → StackIsAsKnown shapes k (stack_with stack at bytes) j
StackIsAsKnown-apart shapes None stack at bytes j apart h = tt
StackIsAsKnown-apart shapes (Some k) stack at bytes j (inl below) h = (
  h.0,
  h.1,
  λ i lt.
      byte_outside_write stack at bytes (8 * j + i) (inl (omega arith)) (stack_cases stack at bytes (8 * j + i)) ∙ h.2 i lt,
)
StackIsAsKnown-apart shapes (Some k) stack at bytes j (inr past) h = (
  h.0,
  h.1,
  λ i lt.
      byte_outside_write stack at bytes (8 * j + i) (inr (omega arith)) (stack_cases stack at bytes (8 * j + i)) ∙ h.2 i lt,
)

-- after a write, a slot that is forgotten, or kept and not touched by the write, is as known
kept_after : (shapes : List MapShape) (old new : Option AbstractValue) (stack : ℕ → Option ℕ) (at : ℕ)
    (bytes : List ℕ) (j : ℕ)
    → StackIsAsKnown shapes old stack j → (new ≡ None) ⊎ ((new ≡ old) × ((8 * j + 8 ≤ at) ⊎ (at + length bytes ≤ 8 * j)))
    → StackIsAsKnown shapes new (stack_with stack at bytes) j
kept_after shapes old new stack at bytes j h (inl e) = rw e tt
kept_after shapes old new stack at bytes j h (inr (e, apart)) = rw e (StackIsAsKnown-apart shapes old stack at bytes j apart h)

-- an abstract state that marks and forgets the bytes of a write on the stack describes the state after it
pub contains_written : (f : Setting) (v w : AbstractState) (s : State) (at : ℕ) (bytes : List ℕ)
    → ((k : ℕ) → k < length bytes → slice_index bytes k < 256) → w.registers ≡ v.registers
    → Marks v.set w.set at (at + length bytes) → Forgets v.kept w.kept at (at + length bytes)
    → ((j : ℕ) → Outlives at (at + length bytes) (slice_index_or v.parts j None) (slice_index_or w.parts j None))
    → AreCopies w.classes w.related (next (written s InStack at bytes)) → Contains f v s
    → Contains f w (next (written s InStack at bytes))
contains_written f v w s at bytes small same marks forgets parts copies contains = record {
  registers = λ r. rw same (contains.registers r);
  set = λ i h. set_after v s at i bytes _ small (contains.set i) (marks i h) (stack_cases s.stack at bytes i);
  kept = λ j. kept_after f.shapes _ _ s.stack at bytes j (contains.kept j) (forgets j);
  parts = λ j. (parts j).has s.stack at bytes (omega arith) (omega arith) (contains.parts j);
  maps = contains.maps;
  copies = copies;
}

-- the bytes of a number, the low one first, are each the byte of that place
pub low_first_byte : (a n v i : ℕ) → i < n → slice_index (bytes_low_first a n v) i ≡ byte_of (a + i) v
low_first_byte a zero v i lt = absurd (omega arith)
low_first_byte a (suc n) v zero lt = ap (λ (x : ℕ). byte_of x v) (omega arith)
low_first_byte a (suc n) v (suc i) lt = low_first_byte (suc a) n v i (omega arith) ∙ ap (λ (x : ℕ). byte_of x v) (omega arith)

-- a byte inside a write is the written one
pub byte_inside_write : (stack : ℕ → Option ℕ) (at : ℕ) (bytes : List ℕ) (i : ℕ)
    → i < length bytes
    → ((at ≤ at + i) × (at + i < at + length bytes) × (stack_with stack at bytes (at + i) ≡ Some (slice_index bytes (at + i - at))))
    ⊎ (((at + i < at) ⊎ (at + length bytes ≤ at + i)) × (stack_with stack at bytes (at + i) ≡ stack (at + i)))
    → stack_with stack at bytes (at + i) ≡ Some (slice_index bytes i)
byte_inside_write stack at bytes i lt (inl (le, lt', e)) = e ∙ ap (λ (x : ℕ). Some (slice_index bytes x)) (omega arith)
byte_inside_write stack at bytes i lt (inr (inl below, e)) = absurd (omega arith)
byte_inside_write stack at bytes i lt (inr (inr past, e)) = absurd (omega arith)

-- a slot in which a word was stored whole has the bytes of the word
pub stored_bytes : (stack : ℕ → Option ℕ) (j v : ℕ) (bytes : List ℕ)
    → bytes ≡ bytes_low_first 0 8 v → length bytes ≡ 8 → (i : ℕ) → i < 8
    → stack_with stack (8 * j) bytes (8 * j + i) ≡ Some (byte_of i v)
stored_bytes stack j v bytes is long i lt =
    byte_inside_write stack (8 * j) bytes i (omega arith) (stack_cases stack (8 * j) bytes (8 * j + i))
    ∙ ap Some (ap (λ (x : List ℕ). slice_index x i) is ∙ (low_first_byte 0 8 v i lt ∙ ap (λ (x : ℕ). byte_of x v) (omega arith)))

-- a slot in which a described word was stored whole is as known
pub StackIsAsKnown-stored : (shapes : List MapShape) (k : AbstractValue) (stack : ℕ → Option ℕ) (j v : ℕ) (bytes : List ℕ)
    → bytes ≡ bytes_low_first 0 8 v → length bytes ≡ 8 → Describes shapes k v
    → StackIsAsKnown shapes (Some k) (stack_with stack (8 * j) bytes) j
StackIsAsKnown-stored shapes k stack j v bytes is long d = (v, d, stored_bytes stack j v bytes is long)
