-- Words that are known.
use Rattle.std.proofs.Common.{◌≡◌, ℕ, ◌^◌, ◌<◌, List, refl, arith}
use Rattle.bq_bpf.specs.declared.shape.MapShape.{MapShape}
use Rattle.bq_ranges.specs.Within.{Within}
use Rattle.bq_ranges.specs.declared.range.Range.{Range}
use Rattle.bq_states.specs.declared.abstract_state.ValueKind.{ValueKind}
use Rattle.bq_states.specs.declared.abstract_state.ValueKind.TheVariants.{Number}
use Rattle.bq_states.specs.declared.abstract_state.AbstractValue.{AbstractValue}
use Rattle.bq_states.specs.AbstractStates.{Describes, IsBase}

-- a number is itself in the range
pub number_within : (shapes : List MapShape) (k : AbstractValue) (word : ℕ)
    → k.kind ≡ Number → Describes shapes k word → Within k.offset word
number_within shapes k word e d =
    let zero_base : d.base ≡ 0 = rw e at d.is_base in
    let fits = k.offset.fits in
    let same : word ≡ d.offset = omega (arith, d.within, d.word_is) in
    rw same d.within

-- a number of a range is a word that is known as a number of that range
pub describes_number : (shapes : List MapShape) (r : Range) (word : ℕ)
    → Within r word → Describes shapes (record { kind = Number; offset = r }) word
describes_number shapes r word w =
    let fits = r.fits in
    record { base = 0; offset = word; is_base = refl; within = w; word_is = omega (arith, w) }

-- a number that is within what is known of it
pub describes_as_number : (shapes : List MapShape) (k : AbstractValue) (word : ℕ)
    → k.kind ≡ Number → Within k.offset word → Describes shapes k word
describes_as_number shapes k word e w =
    let fits = k.offset.fits in
    record { base = 0; offset = word; is_base = rw e refl; within = w; word_is = omega (arith, w) }

-- a word that is known is known of a kind that counts from no less, in a wider range
pub describes_more : (shapes : List MapShape) (kind : ValueKind) (k : AbstractValue) (r : Range) (word : ℕ)
    → ((base : ℕ) → IsBase shapes k.kind base → IsBase shapes kind base) → ((x : ℕ) → Within k.offset x → Within r x)
    → Describes shapes k word
    → Describes shapes (record { kind = kind; offset = r }) word
describes_more shapes kind k r word bases more d =
    record { base = d.base; offset = d.offset; is_base = bases d.base d.is_base; within = more d.offset d.within; word_is = d.word_is }

-- a word that is described has at most 64 bits
pub word_fits : (shapes : List MapShape) (k : AbstractValue) (a : ℕ) → Describes shapes k a → a < 2 ^ 64
word_fits shapes k a d = omega (arith, d.word_is)
