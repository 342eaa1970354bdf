-- When an access is shown to be good, and when it is not.
use Rattle.std.proofs.Common.{◌≡◌, ℕ, ℤ, ◌+◌, ◌-◌, ◌%◌, ◌^◌, ◌<◌, ◌≤◌, ◌⊎◌, true, false, List, Option, Some, None, inl, inr, SFits, slice_get, sym, subst, refl, arith}
use Rattle.std.specs.Prelude.{IfNone, MatchOption}
use Rattle.std.specs.Int.{w16}
use Rattle.std.proofs.lemmas.Int.{ints}
use Rattle.bq_bpf.specs.declared.shape.MapShape.{MapShape}
use Rattle.bq_bpf.specs.Meaning.{word_of}
use Rattle.bq_bpf.specs.Steps.{address_of}
use Rattle.bq_ranges.specs.Within.{Within}
use Rattle.bq_ranges.specs.declared.range.Range.{Range}
use Rattle.bq_states.specs.AbstractStates.{size_of_shape}
use Rattle.bq_states.specs.declared.abstract_state.ValueKind.TheVariants as kind
use Rattle.bq_states.specs.declared.abstract_state.AbstractValue.{AbstractValue}
use Rattle.bq_states.specs.declared.abstract_state.AbstractState.{AbstractState}
use Rattle.bq_policy_file.specs.declared.policy_source.PolicySource.{PolicySource}
use Rattle.bq_verify.specs.Subjects.{context_size_of}
use Rattle.bq_needs.specs.Accesses.{AreBytesSet, MayBeFollowed, GoesBeyond, IsMoved, IsAccessShown, ReachesLast, StaysBelow, DescribesBegin, Wraps, across, across_text, access_begin, counted, by_register, pointer_register_text}
use Rattle.bq_needs.specs.Texts.{kind_text}
use Rattle.bq_needs.specs.declared.memory_access.MemoryAccess.{MemoryAccess}

-- where the moved ends are turned round, one of the words between them becomes the greatest
last_between : (lo hi d : ℕ) → lo ≤ hi → hi < 2 ^ 64 → d < 2 ^ 64 → (hi + d) % 2 ^ 64 < (lo + d) % 2 ^ 64
    → (lo ≤ 2 ^ 64 - 1 - d) × (2 ^ 64 - 1 - d ≤ hi) × ((2 ^ 64 - 1 - d + d) % 2 ^ 64 ≡ 2 ^ 64 - 1)
last_between lo hi d ordered fits small wraps = omega arith

-- an offset of 16 bits, as a word, is below 2^64
small_distance : (off : ℤ) → SFits w16 off → word_of off < 2 ^ 64
small_distance off fits = omega (arith, ints)

-- where the ends of a range are turned round, one of its words comes to the greatest that there is
pub reaches_last : (off : ℤ) (offsets : Range) → SFits w16 off → address_of offsets.hi off < address_of offsets.lo off
    → ReachesLast off offsets
reaches_last off offsets fits wraps =
    let last = last_between offsets.lo offsets.hi (word_of off) offsets.ordered offsets.fits (small_distance off fits) wraps in
    (2 ^ 64 - 1 - word_of off, (last.0, last.1), last.2)

-- where the ends of a range are turned round, no range is so far on from it
pub turned_range_wraps : (off : ℤ) (offsets : Range) → address_of offsets.hi off < address_of offsets.lo off → Wraps off offsets
turned_range_wraps off offsets turned new moved =
    let lo : new.lo ≡ address_of offsets.lo off = moved.lo in
    let hi : new.hi ≡ address_of offsets.hi off = moved.hi in
    let ordered = new.ordered in
    omega (arith, lo, hi, ordered, turned)

-- with the greatest offset all bytes lie below the bound, and so with each
pub all_below : (a : MemoryAccess) (offsets at : Range) (bound : ℕ) → IsMoved a.off offsets at → at.hi + a.bytes ≤ bound → StaysBelow a offsets bound
all_below a offsets at bound moved below o within =
    let in_range : Within at (address_of o a.off) = moved.each o within in
    omega (arith, in_range.1)

-- with the greatest offset they do not
pub last_beyond : (a : MemoryAccess) (offsets at : Range) (bound : ℕ)
    → IsMoved a.off offsets at → bound < at.hi + a.bytes → GoesBeyond a offsets bound
last_beyond a offsets at bound moved beyond =
    let last : at.hi ≡ address_of offsets.hi a.off = moved.hi in
    (offsets.hi, (offsets.ordered, omega arith), subst (λ (n : ℕ). bound < n + a.bytes) last beyond)

-- the greatest word is beyond all bounds
pub greatest_beyond : (a : MemoryAccess) (offsets : Range) (bound : ℕ) → ReachesLast a.off offsets → bound < 65536 → GoesBeyond a offsets bound
greatest_beyond a offsets bound (o, within, greatest) small =
    (o, within, subst (λ (n : ℕ). bound < n + a.bytes) (sym greatest) (omega arith))

-- of a pointer that may be followed a range says where the access begins, unless none is so far on
pub range_of_followed : (off : ℤ) (offsets : Range) (F : Type 0)
    → F → (v : Option Range) → MatchOption v (ReachesLast off offsets) (IsMoved off offsets) → IfNone v (Wraps off offsets)
    → MatchOption v ((F → ⊥) ⊎ Wraps off offsets) (λ at. F × IsMoved off offsets at)
range_of_followed off offsets F follows None range wraps = inr wraps
range_of_followed off offsets F follows (Some at) range wraps = (follows, range)

-- the range says where the access begins
pub describes_counted : (shapes : List MapShape) (a : MemoryAccess) (k : AbstractValue) (at : Range) (text : List ℕ)
    → MayBeFollowed k.kind × IsMoved a.off k.offset at → text ≡ kind_text shapes k.kind at
    → DescribesBegin shapes a k text
describes_counted shapes a k at text (follows, moved) is =
    subst (λ (t : List ℕ). DescribesBegin shapes a k t) (sym is) (counted at follows moved)

-- the access begins from below to above, where no range has it
pub describes_across : (shapes : List MapShape) (a : MemoryAccess) (k : AbstractValue) (text : List ℕ)
    → MayBeFollowed k.kind → (MayBeFollowed k.kind → ⊥) ⊎ Wraps a.off k.offset → text ≡ across_text shapes a k
    → DescribesBegin shapes a k text
describes_across shapes a k text follows (inl not) is = absurd (not follows)
describes_across shapes a k text follows (inr wraps) is =
    subst (λ (t : List ℕ). DescribesBegin shapes a k t) (sym is) (across follows wraps)

-- the text names the register of the access, where nothing says where it begins
pub describes_register : (shapes : List MapShape) (a : MemoryAccess) (k : AbstractValue) (text : List ℕ)
    → (MayBeFollowed k.kind → ⊥) → text ≡ pointer_register_text shapes a.register k → DescribesBegin shapes a k text
describes_register shapes a k text not is = subst (λ (t : List ℕ). DescribesBegin shapes a k t) (sym is) (by_register not)

-- a read of the context within its length
pub shown_in_context : (p : PolicySource) (state : AbstractState) (a : MemoryAccess) (k : AbstractValue)
    → k.kind ≡ kind.Context → a.writes ≡ false → StaysBelow a k.offset (context_size_of p.form) → IsAccessShown p state a k
shown_in_context p state a k of read stays =
    record {
      bound = context_size_of p.form;
      bound_is = rw of refl;
      stays = stays;
      writable = λ writes. cc;
      set = λ _ on. cc;
    }

-- a write of the stack within its bytes
pub written_on_stack : (p : PolicySource) (state : AbstractState) (a : MemoryAccess) (k : AbstractValue)
    → k.kind ≡ kind.Stack → a.writes ≡ true → StaysBelow a k.offset 512 → IsAccessShown p state a k
written_on_stack p state a k of written stays =
    record {
      bound = 512;
      bound_is = rw of refl;
      stays = stays;
      writable = λ _ on. cc;
      set = λ read _. cc;
    }

-- a read of bytes of it that are set
pub read_from_stack : (p : PolicySource) (state : AbstractState) (a : MemoryAccess) (k : AbstractValue)
    → k.kind ≡ kind.Stack → a.writes ≡ false → StaysBelow a k.offset 512
    → AreBytesSet state.set (access_begin a k.offset.lo) (access_begin a k.offset.hi + a.bytes)
    → IsAccessShown p state a k
read_from_stack p state a k of read stays set =
    record {
      bound = 512;
      bound_is = rw of refl;
      stays = stays;
      writable = λ writes. cc;
      set = λ _ _. set;
    }

-- an access within a value of the map
pub shown_in_value : (p : PolicySource) (state : AbstractState) (a : MemoryAccess) (k : AbstractValue) (map size : ℕ)
    → k.kind ≡ kind.Entry map → size_of_shape (slice_get p.form.shapes.items map) ≡ Some size → StaysBelow a k.offset size
    → IsAccessShown p state a k
shown_in_value p state a k map size of is stays =
    record {
      bound = size;
      bound_is = rw of is;
      stays = stays;
      writable = λ _ on. cc;
      set = λ _ on. cc;
    }
