-- When the abstract state shows an access to be good, and what a text tells of one that it does not.
use Rattle.std.specs.Prelude.{◌≡◌, ◌≢◌, ℕ, ℤ, ◌+◌, ◌-◌, ◌%◌, ◌^◌, ◌<◌, ◌≤◌, ◌==◌, Bool, true, false, List, ◌++◌, Option, Some, None, MatchOption, ◌⊎◌, codes, if◌then◌else◌, slice_get, slice_index_or}
use Rattle.std.specs.Fmt.{decimal}
use Rattle.bq_bpf.specs.declared.shape.MapShape.{MapShape}
use Rattle.bq_bpf.specs.Steps.{address_of}
use Rattle.bq_ranges.specs.Within.{Within}
use Rattle.bq_ranges.specs.declared.range.Range.{Range}
use Rattle.bq_hooks.specs.Hooks.{hook_word, version_number}
use Rattle.bq_verify.specs.Subjects.{context_size_of}
use Rattle.bq_verify.specs.declared.policy_form.PolicyForm.{PolicyForm}
use Rattle.bq_bpf.specs.Memory.{stack_size}
use Rattle.bq_states.specs.AbstractStates.{bound_of, size_of_shape}
use Rattle.bq_states.specs.declared.abstract_state.ValueKind.{ValueKind}
use Rattle.bq_states.specs.declared.abstract_state.ValueKind.TheVariants as kind
use Rattle.bq_states.specs.declared.abstract_state.AbstractValue.{AbstractValue}
use Rattle.bq_states.specs.declared.abstract_state.AbstractState.{AbstractState}
use Rattle.bq_policy_file.specs.declared.policy_source.PolicySource.{PolicySource}
use Rattle.bq_needs.specs.declared.accesses.Lack.TheVariants as lack
use Rattle.bq_needs.specs.declared.accesses.Lack.{Lack}
use Rattle.bq_needs.specs.declared.memory_access.MemoryAccess.{MemoryAccess}
use Rattle.bq_needs.specs.Texts.{kind_text, known_text, map_name}

-- the place where the access begins, as an offset, if its pointer has this offset
abbrev pub access_begin : MemoryAccess → ℕ → ℕ
access_begin a offset = address_of offset a.off

-- the bytes from the first up to the one past the last are set
abbrev pub AreBytesSet : List Bool → ℕ → ℕ → Type 0
AreBytesSet set first past = (i : ℕ) → first ≤ i → i < past → slice_index_or set i false ≡ true

-- with each offset that the pointer may have all bytes lie below the bound
abbrev pub StaysBelow : MemoryAccess → Range → ℕ → Type 0
StaysBelow a offsets bound = (o : ℕ) → Within offsets o → access_begin a o + a.bytes ≤ bound

-- with one of the offsets that the pointer may have, some byte does not lie below the bound
abbrev pub GoesBeyond : MemoryAccess → Range → ℕ → Type 0
GoesBeyond a offsets bound = (o : ℕ) × Within offsets o × (bound < access_begin a o + a.bytes)

-- one of the bytes that the access may touch is not known to be set
abbrev pub TouchesUnset : AbstractState → MemoryAccess → Range → Type 0
TouchesUnset state a offsets = (i : ℕ) × (access_begin a offsets.lo ≤ i) × (i < access_begin a offsets.hi + a.bytes) × (slice_index_or state.set i false ≡ false)

-- each word of the range, so far on, is in the other one, and so are its ends
pub record IsMoved (off : ℤ) (old new : Range) : Type 0 where
  pub lo : new.lo ≡ address_of old.lo off
  pub hi : new.hi ≡ address_of old.hi off
  pub each : (o : ℕ) → Within old o → Within new (address_of o off)

-- with one of the offsets in the range, the access begins at the greatest word that there is
abbrev pub ReachesLast : ℤ → Range → Type 0
ReachesLast off offsets = (o : ℕ) × Within offsets o × (address_of o off ≡ 2 ^ 64 - 1)

-- no range is so far on from the range: on the way its words begin again from 0
abbrev pub Wraps : ℤ → Range → Type 0
Wraps off old = (new : Range) → IsMoved off old new → ⊥

-- a pointer of the kind may be followed: into the context, the stack or a value of a map
abbrev pub MayBeFollowed : ValueKind → Type 0
MayBeFollowed kind.Context = Unit {0}
MayBeFollowed kind.Stack = Unit {0}
MayBeFollowed (kind.Entry map) = Unit {0}
MayBeFollowed _ = ⊥

-- the pointer may be followed, and the range says at what offsets the access begins; there is no range only if the pointer may not
-- be followed or none is so far on
abbrev pub BeginsIn : MemoryAccess → AbstractValue → Option Range → Type 0
BeginsIn a k range = MatchOption range ((MayBeFollowed k.kind → ⊥) ⊎ Wraps a.off k.offset) (λ at. MayBeFollowed k.kind × IsMoved a.off k.offset at)

-- by what is known of its pointer the access is good: it stays in what the pointer points to, it does not write the context, and what it reads of the stack is set
pub record IsAccessShown (p : PolicySource) (state : AbstractState) (a : MemoryAccess) (k : AbstractValue) : Type 0 where
  pub bound : ℕ
  pub bound_is : bound_of p.form.shapes.items (context_size_of p.form) k.kind ≡ Some bound
  pub stays : StaysBelow a k.offset bound
  pub writable : a.writes ≡ true → k.kind ≢ kind.Context
  pub set : a.writes ≡ false → k.kind ≡ kind.Stack → AreBytesSet state.set (access_begin a k.offset.lo) (access_begin a k.offset.hi + a.bytes)

-- what is not so of the access
abbrev pub Lacks : PolicySource → AbstractState → MemoryAccess → AbstractValue → Lack → Type 0
Lacks p state a k lack.Number = k.kind ≡ kind.Number
Lacks p state a k lack.Answer = (map : ℕ) × (k.kind ≡ kind.EntryOrNull map)
Lacks p state a k lack.MovedAnswer = ((map : ℕ) × (k.kind ≡ kind.EntryOrNull map)) × (0 < k.offset.hi)
Lacks p state a k lack.Reference = (map : ℕ) × (k.kind ≡ kind.Map map)
Lacks p state a k lack.WritesContext = (k.kind ≡ kind.Context) × (a.writes ≡ true)
Lacks p state a k lack.BeyondContext = (k.kind ≡ kind.Context) × (a.writes ≡ false) × GoesBeyond a k.offset (context_size_of p.form)
Lacks p state a k lack.BeyondStack = (k.kind ≡ kind.Stack) × GoesBeyond a k.offset stack_size
Lacks p state a k lack.ReadsUnset = (k.kind ≡ kind.Stack) × (a.writes ≡ false) × StaysBelow a k.offset stack_size × TouchesUnset state a k.offset
Lacks p state a k (lack.BeyondValue map size) = (k.kind ≡ kind.Entry map) × (size_of_shape (slice_get p.form.shapes.items map) ≡ Some size) × GoesBeyond a k.offset size
Lacks p state a k lack.InNoMap = (map : ℕ) × (k.kind ≡ kind.Entry map) × (size_of_shape (slice_get p.form.shapes.items map) ≡ None)

-- how many bytes the context has
abbrev pub length_text : PolicyForm → List ℕ
length_text form = codes ", has " ++ (decimal (context_size_of form) ++ codes " bytes")

-- what is said of an access that lacks that
abbrev pub lack_text : PolicySource → Lack → List ℕ
lack_text p lack.Number = codes "a number is no address"
lack_text p lack.Answer = codes "test it first"
lack_text p lack.MovedAnswer = codes "an answer to which a number was added can't be tested"
lack_text p lack.Reference = codes "the reference of a map is no address of its values"
lack_text p lack.WritesContext = codes "the context is only read"
lack_text p lack.BeyondContext = codes "the context of " ++ (hook_word p.form.hook ++ (codes ", version " ++ (decimal (version_number p.form.version) ++ length_text p.form)))
lack_text p lack.BeyondStack = codes "the stack has the 512 bytes below r10"
lack_text p lack.ReadsUnset = codes "on some path that leads here not all of these bytes are known to be written"
lack_text p (lack.BeyondValue map size) = codes "a value of map " ++ (decimal map ++ (codes " has " ++ (decimal size ++ codes " bytes, and an access stays in one")))
lack_text p lack.InNoMap = codes "an access stays in one value"

-- the answer of a look-up, before its test
abbrev pub may_be_null : ValueKind → Bool
may_be_null (kind.EntryOrNull map) = true
may_be_null _ = false

-- the register and what is known of it; if it is the answer of a look-up, that it may be null
abbrev pub pointer_register_text : List MapShape → ℕ → AbstractValue → List ℕ
pointer_register_text shapes r k =
    if may_be_null k.kind then codes "r" ++ (decimal r ++ codes ", which may be null") else codes "r" ++ (decimal r ++ (codes ", which is " ++ known_text shapes k))

-- what a pointer that may be followed counts from
abbrev pub pointed_place_text : List MapShape → ValueKind → List ℕ
pointed_place_text shapes (kind.Entry map) = codes "entry of " ++ map_name shapes map
pointed_place_text shapes kind.Stack = codes "stack begin"
pointed_place_text shapes _ = codes "context"

-- the place of an access that may begin below or above what its pointer counts from: the distance below and the distance above
abbrev pub across_text : List MapShape → MemoryAccess → AbstractValue → List ℕ
across_text shapes a k =
    pointed_place_text shapes k.kind ++ (codes " -" ++ (decimal ((2 ^ 64 - address_of k.offset.lo a.off) % 2 ^ 64) ++ (codes ".." ++ decimal (address_of k.offset.hi a.off))))

-- The text says where the access begins. If its pointer may be followed, it says the offset as a range of words, or, if the
-- words begin again from 0 on the way, the distance below and the distance above. If not, it says the register and what is known
-- of it.
pub data DescribesBegin (shapes : List MapShape) (a : MemoryAccess) (k : AbstractValue) : List ℕ → Type 0 where
  counted : (at : Range) → MayBeFollowed k.kind → IsMoved a.off k.offset at → DescribesBegin shapes a k (kind_text shapes k.kind at)
  across : MayBeFollowed k.kind → Wraps a.off k.offset → DescribesBegin shapes a k (across_text shapes a k)
  by_register : (MayBeFollowed k.kind → ⊥) → DescribesBegin shapes a k (pointer_register_text shapes a.register k)

-- the verb of an access
abbrev pub verb : Bool → List ℕ
verb true = codes "writes"
verb false = codes "reads"

-- one byte, or several
abbrev pub noun : ℕ → List ℕ
noun bytes = if bytes == 1 then codes "byte" else codes "bytes"

-- the number of bytes that are read or written, and where they begin
abbrev pub access_text : MemoryAccess → List ℕ → List ℕ
access_text a begin = verb a.writes ++ (codes " " ++ (decimal a.bytes ++ (codes " " ++ (noun a.bytes ++ (codes " at " ++ begin)))))
