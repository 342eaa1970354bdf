-- Where an access lies: the sum of a known offset and the distance of the instruction.
use Rattle.std.proofs.Common.{◌≡◌, ℕ, ◌+◌, ◌%◌, ◌^◌, ◌<◌, ◌≤◌, ℤ, pos, List, Option, Some, None, arith, refl, sym, subst, ap, ◌∙◌}
use Rattle.std.specs.Prelude.{slice_index_or, ◌+ℤ◌}
use Rattle.std.proofs.lemmas.Int.{ints}
use mir.Syntax.{w16}
use mir.Val.{SFits}
use Rattle.bq_insn.specs.declared.Size.{Size}
use Rattle.bq_insn.specs.declared.Width.TheVariants.{W64}
use Rattle.bq_insn.specs.declared.Operation.TheVariants.{Add}
use Rattle.bq_bpf.specs.Meaning.{alu_result, operate, word_of}
use Rattle.bq_insn.specs.Slots.{byte_count}
use Rattle.bq_bpf.specs.declared.shape.MapShape.{MapShape}
use Rattle.bq_ranges.specs.declared.range.Range.{Range}
use Rattle.bq_states.specs.declared.abstract_state.ValueKind.{ValueKind}
use Rattle.bq_states.specs.declared.abstract_state.ValueKind.TheVariants.{Entry, Stack}
use Rattle.bq_states.specs.declared.abstract_state.AbstractValue.{AbstractValue}
use Rattle.bq_states.specs.declared.abstract_state.AbstractState.{AbstractState}
use Rattle.bq_states.specs.Certainty.{Pointer, CertaintyHolds}
use Rattle.bq_transfer.specs.Ready.{IsAccessPlaced}
use Rattle.bq_states.specs.AbstractStates.{bound_of}

-- the 64-bit sum of two words is the remainder of their sum by 2 ^ 64
pub sum_is : (x y : ℕ) → alu_result W64 Add x y ≡ (x + y) % 2 ^ 64
unfolding operate
sum_is x y = let e : alu_result W64 Add x y ≡ (x % 2 ^ 64 + y % 2 ^ 64) % 2 ^ 64 = refl in omega (arith, e)

-- the sum of an offset into the stack and a distance that leads into it is the place
pub sum_on_stack : (base at : ℕ) (off : ℤ) → base ≤ 512 → at ≤ 512 → pos at ≡ (pos base +ℤ off) → alu_result W64 Add base (word_of off) ≡ at
sum_on_stack base at off low high is = let e : (base + word_of off) % 2 ^ 64 ≡ at = omega (arith, ints) in sum_is base (word_of off) ∙ e

-- the sum of an offset and an instruction's own, which fits 16 bits, is the place
pub sum_with_short_offset : (base at : ℕ) (off : ℤ) → SFits w16 off → at < 2 ^ 64 → pos at ≡ (pos base +ℤ off)
    → alu_result W64 Add base (word_of off) ≡ at
sum_with_short_offset base at off fits small is =
    let e : (base + word_of off) % 2 ^ 64 ≡ at = omega (arith, ints) in sum_is base (word_of off) ∙ e

-- an option that holds two numbers holds the same number twice
option_same : (a b : ℕ) (v : Option ℕ) → Some a ≡ v → v ≡ Some b → a ≡ b
option_same a b v p q = let e : Some a ≡ Some b = p ∙ q in cc

-- an access that is placed is found there, and stays inside
pub placed_in : (shapes : List MapShape) (context : ℕ) (state : AbstractState) (size : Size) (r : ℕ) (off : ℤ)
    (kind : ValueKind) (at : ℕ)
    → SFits w16 off → IsAccessPlaced shapes context state size r off kind at
    → (known : AbstractValue) → Some known ≡ slice_index_or state.registers r None → (bound : ℕ)
    → Some bound ≡ bound_of shapes context known.kind → bound ≤ 65536 → (sum : Range) (word : ℕ) → word ≡ word_of off
    → (known.offset.lo ≡ known.offset.hi → sum.lo ≡ alu_result W64 Add known.offset.lo word)
    → (known.offset.lo ≡ known.offset.hi → sum.hi ≡ alu_result W64 Add known.offset.lo word)
    → (known.kind ≡ kind) × (sum.lo ≡ at) × (sum.hi ≡ at) × (at + byte_count size ≤ bound)
placed_in shapes context state size r off kind at short placed known is bound bound_is small sum word word_is low high =
    let stands : CertaintyHolds (Pointer kind placed.base) (Some known) =
    subst (λ (v : Option AbstractValue). CertaintyHolds (Pointer kind placed.base) v) (sym is) placed.stands in
    let single : known.offset.lo ≡ known.offset.hi = stands.2 ∙ sym stands.3 in
    let same : bound ≡ placed.bound =
    option_same bound placed.bound _ (bound_is ∙ ap (λ (k : ValueKind). bound_of shapes context k) stands.0)
    placed.bound_is in
    let fits : at < 2 ^ 64 = omega (arith, placed.inside) in
    let sums : alu_result W64 Add known.offset.lo word ≡ at =
    ap (λ (n : ℕ). alu_result W64 Add n word) stands.2 ∙ ap (λ (n : ℕ). alu_result W64 Add placed.base n) word_is
    ∙ sum_with_short_offset placed.base at off short fits placed.at_is in
    (stands.0, low single ∙ sums, high single ∙ sums, omega (arith, placed.inside))

-- on the stack an access stays below 512
pub stack_inside : (shapes : List MapShape) (context : ℕ) (state : AbstractState) (size : Size)
    (r : ℕ) (off : ℤ) (kind : ValueKind) (at : ℕ)
    → kind ≡ Stack → IsAccessPlaced shapes context state size r off kind at → at + byte_count size ≤ 512
stack_inside shapes context state size r off kind at stack placed =
    let same : 512 ≡ placed.bound =
    option_same 512 placed.bound _ (ap (λ (k : ValueKind). bound_of shapes context k) (sym stack)) placed.bound_is in
    omega (arith, placed.inside)

-- the stack is no entry
pub stack_or_entry : (kind : ValueKind) (m : ℕ) → kind ≡ Stack → kind ≡ Entry m → ⊥
stack_or_entry kind m stack entry = cc
