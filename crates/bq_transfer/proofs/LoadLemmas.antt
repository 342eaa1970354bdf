-- Where an access goes, and what a load gives.
use Rattle.std.proofs.Common.{◌≡◌, ℕ, ◌+◌, ◌*◌, ◌%◌, ◌^◌, ◌<◌, ◌≤◌, true, false, Bool, List, Option, Some, None, length, refl, arith, sym, ap, subst, ◌∙◌, ℤ}
use Rattle.std.specs.Prelude.{slice_index_or}
use Rattle.bq_insn.specs.declared.Insn.TheVariants.{Load}
use Rattle.bq_insn.specs.declared.Size.{Size}
use Rattle.bq_insn.specs.declared.Size.TheVariants.{Double}
use Rattle.std.specs.Int.{byte_at as byte_of, bytes_low_first}
use Rattle.bq_states.proofs.StoreLemmas.{low_first_byte}
use Rattle.bq_insn.specs.Slots.{byte_count}
use Rattle.bq_bpf.specs.Meaning.{word_of}
use Rattle.bq_bpf.specs.declared.shape.MapShape.{MapShape}
use Rattle.bq_bpf.specs.Memory.{Setting, State, Region, InStack, IsGood, Reads, byte_at, number_of}
use Rattle.bq_bpf.specs.Steps.{loaded, Does, address_of, put}
use Rattle.bq_ranges.specs.Within.{Within}
use Rattle.bq_ranges.specs.declared.range.Range.{Range}
use Rattle.bq_states.specs.Copies.{HasWord}
use Rattle.bq_states.specs.declared.abstract_state.AbstractState.{AbstractState}
use Rattle.bq_states.specs.declared.abstract_state.AbstractValue.{AbstractValue}
use Rattle.bq_states.specs.declared.abstract_state.ValueKind.{ValueKind}
use Rattle.bq_states.specs.declared.abstract_state.ValueKind.TheVariants.{Number, Stack}
use Rattle.bq_states.specs.AbstractStates.{Describes, Contains, StackIsAsKnown, Suits, IsRegionOfKind, Bounds}
use Rattle.bq_transfer.specs.Transfers.{FindsPlace}
use Rattle.bq_states.proofs.WordLemmas.{describes_number}
use Rattle.bq_states.proofs.AccessLemmas.{good_at, read_bytes, region_byte}
use Rattle.bq_states.proofs.LearnLemmas.{found_at}
use Rattle.bq_states.proofs.CopyLemmas.{number_of_word}

-- where an access by a pointer that stays inside its region goes
pub place_gives : (shapes : List MapShape) (context_length : ℕ) (state : AbstractState) (size : Size) (src : ℕ) (off : ℤ)
    (base : AbstractValue) (bound : ℕ) (at : Range)
    → Some base ≡ slice_index_or state.registers src None → Bounds shapes context_length base.kind bound → bound ≤ 65536
    → ((u : ℕ) → Within base.offset u → Within at ((u + word_of off) % 2 ^ 64)) → at.hi + byte_count size ≤ bound
    → FindsPlace shapes context_length state src off size base.kind at
place_gives shapes context_length state size src off base bound at known bounds small moved inside f s suits contains =
    let found = found_at f state s src base known contains in
    let d = found.2 in
    let region = bounds f d.base suits d.is_base in
    let o : ℕ = (d.offset + word_of off) % 2 ^ 64 in
    let within = moved d.offset d.within in
    let stays : o + byte_count size ≤ bound = omega (arith, within, inside) in
    let good = good_at f region.0 d.base bound found.0 d.offset (byte_count size) o off region.1 region.3 d.word_is refl small stays in
    (found.0, region.0, o, found.1, good, region.2, within)

-- a read of a place whose bytes are set
pub reads_place : (shapes : List MapShape) (context_length : ℕ) (state : AbstractState) (size : Size) (src : ℕ)
    (off : ℤ) (kind : ValueKind) (at : Range)
    → FindsPlace shapes context_length state src off size kind at
    → (kind ≡ Stack → (o i : ℕ) → Within at o → i < byte_count size → slice_index_or state.set (o + i) false ≡ true)
    → (f : Setting) (s : State) → Suits shapes context_length f → Contains f state s
    → (word : ℕ) × (bytes : List ℕ) × (s.register src ≡ Some word) × (length bytes ≡ byte_count size)
    × (r : Reads f s (address_of word off) bytes) × (number_of bytes < 256 ^ byte_count size) × IsRegionOfKind kind r.region
    × Within at r.offset
reads_place shapes context_length state size src off kind at finds set f s suits contains =
    let found = finds f s suits contains in
    let good = found.4 in
    let bytes =
    read_bytes (λ i. byte_at f s found.1 (found.2 + i)) (byte_count size) (λ i h.
    region_byte shapes context_length f state s kind found.1 good.base good.size (found.2 + i) suits contains found.5
    good.spans (omega (arith, good.inside)) (λ stack. set stack found.2 i found.6 h)) in (
      found.0,
      bytes.0,
      found.3,
      bytes.1,
      record { region = found.1; offset = found.2; good = rw bytes.1 good; set = λ i h. bytes.2 i (rw bytes.1 at h) },
      bytes.3,
      found.5,
      found.6,
    )

-- a load of a place whose bytes are set
pub load_gives : (shapes : List MapShape) (context_length : ℕ) (state : AbstractState) (size : Size) (signed : Bool)
    (dst src : ℕ) (off : ℤ) (kind : ValueKind) (at numbers : Range)
    → FindsPlace shapes context_length state src off size kind at
    → (kind ≡ Stack → (o i : ℕ) → Within at o → i < byte_count size → slice_index_or state.set (o + i) false ≡ true)
    → ((f : Setting) (s : State) (word : ℕ) (bytes : List ℕ) (r : Reads f s (address_of word off) bytes) →
    Contains f state s → length bytes ≡ byte_count size → number_of bytes < 256 ^ byte_count size → IsRegionOfKind kind r.region →
    Within at r.offset → Within numbers (loaded size signed (number_of bytes)))
    → dst < 10 → (f : Setting) (s : State) → Suits shapes context_length f → Contains f state s
    → (n : ℕ) × Does f (Load size signed dst src off) s (put s 1 dst n)
    × Describes f.shapes (record { kind = Number; offset = numbers }) n
load_gives shapes context_length state size signed dst src off kind at numbers finds set fits target f s suits contains =
    let read = reads_place shapes context_length state size src off kind at finds set f s suits contains in (
      loaded size signed (number_of read.1),
      (read.0, read.1, read.2, read.3, read.4, target, refl),
      describes_number f.shapes numbers _ (fits f s read.0 read.1 read.4 contains read.3 read.5 read.6 read.7),
    )

-- a word that is kept in a slot is there
kept_word : (shapes : List MapShape) (k : AbstractValue) (s : State) (slot : ℕ)
    → (keeps : StackIsAsKnown shapes (Some k) s.stack slot) → HasWord s (11 + slot) keeps.0
kept_word shapes k s slot keeps = (
  λ lt. absurd (let no : ⊥ = omega (arith, lt) in no),
  λ j is.
      let same : slot ≡ j = omega (arith, is) in
      let d = keeps.1 in (
        omega (arith, d.word_is),
        subst (λ (m : ℕ). (i : ℕ) → i < 8 → s.stack (8 * m + i) ≡ Some (byte_of i keeps.0)) same keeps.2,
      ),
)

-- a load of a word that was stored whole
pub kept_gives : (shapes : List MapShape) (context_length : ℕ) (state : AbstractState) (dst src : ℕ) (off : ℤ)
    (at : Range) (slot : ℕ) (k : AbstractValue)
    → FindsPlace shapes context_length state src off Double Stack at → at.lo ≡ at.hi → at.lo ≡ 8 * slot
    → slice_index_or state.kept slot None ≡ Some k → dst < 10 → (f : Setting) (s : State) → Suits shapes context_length f
    → Contains f state s
    → (n : ℕ) × Does f (Load Double false dst src off) s (put s 1 dst n) × Describes f.shapes k n × HasWord s (11 + slot) n
kept_gives shapes context_length state dst src off at slot k finds single here there target f s suits contains =
    let found = finds f s suits contains in
    let same : found.2 ≡ 8 * slot = omega (arith, found.6) in
    let keeps = subst (λ (v : Option AbstractValue). StackIsAsKnown f.shapes v s.stack slot) there (contains.kept slot) in
    let n : ℕ = keeps.0 in
    let small : n < 2 ^ 64 = let d = keeps.1 in omega (arith, d.word_is) in
    let bytes : List ℕ = bytes_low_first 0 8 n in
    let stack = subst (λ (r : Region). IsGood f (address_of found.0 off) 8 r found.2) found.5 found.4 in
    let is = number_of_word n small in (
      n,
      (
        found.0,
        bytes,
        found.3,
        refl,
        record {
          region = InStack;
          offset = found.2;
          good = stack;
          set =
              λ i h.
              rw same (keeps.2 i h ∙ ap Some (sym (low_first_byte 0 8 n i h ∙ ap (λ (x : ℕ). byte_of x n) (omega arith))));
        },
        target,
        rw is refl,
      ),
      keeps.1,
      kept_word f.shapes k s slot keeps,
    )

-- a load of a slot whose word is known gives a word as known, the one that stands there
pub kept_load : (shapes : List MapShape) (context_length : ℕ) (state : AbstractState) (size : Size) (signed : Bool)
    (dst src : ℕ) (off : ℤ) (kind : ValueKind) (at : Range) (k : AbstractValue)
    → FindsPlace shapes context_length state src off size kind at
    → (kind ≡ Stack) × (size ≡ Double) × (signed ≡ false) × (at.lo ≡ at.hi) × (slot : ℕ) × (slot < 64) × (at.lo ≡ 8 * slot)
    × (slice_index_or state.kept slot None ≡ Some k)
    → dst < 10 → (f : Setting) (s : State) → Suits shapes context_length f → Contains f state s
    → (n : ℕ) × Does f (Load size signed dst src off) s (put s 1 dst n) × Describes f.shapes k n
    × ((place : ℕ) → at.lo ≡ 8 * place → HasWord s (11 + place) n)
kept_load shapes context_length state size signed dst src off kind at k finds
    (stack, double, plain, single, slot, inside, here, there) target f s suits contains =
    let finds' : FindsPlace shapes context_length state src off Double Stack at =
    subst (λ (z : Size). FindsPlace shapes context_length state src off z Stack at) double
    (subst (λ (x : ValueKind). FindsPlace shapes context_length state src off size x at) stack finds) in
    let given = kept_gives shapes context_length state dst src off at slot k finds' single here there target f s suits contains in (
      given.0,
      subst (λ (z : Size). Does f (Load z signed dst src off) s (put s 1 dst given.0)) (sym double)
          (subst (λ (b : Bool). Does f (Load Double b dst src off) s (put s 1 dst given.0)) (sym plain) given.1),
      given.2,
      λ place is. let same : slot ≡ place = omega (arith, here, is) in subst (λ (p : ℕ). HasWord s (11 + p) given.0) same given.3,
    )
