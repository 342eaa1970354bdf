-- Accesses by pointers that are known: the bytes that they reach are there, and are set.
use Rattle.std.proofs.Common.{◌≡◌, ℕ, zero, suc, ◌+◌, ◌*◌, ◌%◌, ◌^◌, ◌<◌, ◌≤◌, true, false, List, [], ◌∷◌, Option, Some, None, length, get_or, refl, arith, sym, ap, subst, ◌∙◌, ℤ, set, pos}
use Rattle.std.specs.Prelude.{slice_get, slice_index, slice_index_or}
use Rattle.std.proofs.lemmas.Option.{slice_get-get_or}
use Rattle.std.proofs.Math.Nat.{mul-le-mul_left, mul-le-mul, pow-suc}
use Rattle.bq_bpf.specs.Meaning.{word_of}
use Rattle.bq_bpf.specs.declared.shape.MapShape.{MapShape}
use Rattle.bq_bpf.specs.Memory.{Setting, State, Region, InContext, InEntry, Spans, IsEntry, IsGood, Reads, byte_at, number_of, HaveShapes}
use Rattle.bq_bpf.specs.Steps.{address_of}
use Rattle.bq_ranges.specs.Within.{Within}
use Rattle.bq_ranges.specs.declared.range.Range.{Range}
use Rattle.bq_states.specs.declared.abstract_state.AbstractState.{AbstractState}
use Rattle.bq_states.specs.declared.abstract_state.AbstractValue.{AbstractValue}
use Rattle.bq_states.specs.declared.abstract_state.ValueKind.{ValueKind}
use Rattle.bq_states.specs.declared.abstract_state.ValueKind.TheVariants.{Number, Context, Stack, Entry, EntryOrNull, Map}
use Rattle.bq_states.specs.AbstractStates.{Contains, Suits, IsEntryBase, IsRegionOfKind, Bounds, FindsBytes}
use Rattle.bq_insn.proofs.OptionLemmas.{some_same}
use Rattle.bq_states.proofs.LearnLemmas.{found_at}

-- bytes that are set make a list of bytes, and a number that this many bytes can hold
pub read_bytes : (at : ℕ → Option ℕ) (n : ℕ) → ((i : ℕ) → i < n → (b : ℕ) × (at i ≡ Some b) × (b < 256))
    → (bytes : List ℕ) × (length bytes ≡ n) × ((i : ℕ) → i < n → at i ≡ Some (slice_index bytes i))
    × (number_of bytes < 256 ^ n) × ((i : ℕ) → slice_index bytes i < 256)
read_bytes at zero each = ([], refl, λ i h. absurd (omega arith), omega arith, λ i. omega arith)
read_bytes at (suc n) each =
    let first = each 0 (omega arith) in
    let rest = read_bytes (λ i. at (suc i)) n (λ i h. each (suc i) (omega arith)) in (
      first.0 ∷ rest.0,
      ap suc rest.1,
      byte_in at first.0 rest.0 n first.1 rest.2,
      whole first.0 (number_of rest.0) n first.2 rest.3,
      λ i. small_in first.0 rest.0 first.2 rest.4 i,
    )
  where
    whole : (b m k : ℕ) → b < 256 → m < 256 ^ k → b + 256 * m < 256 ^ suc k
    whole b m k p q = rw pow-suc (omega arith)

    small_in : (b : ℕ) (bs : List ℕ) → b < 256 → ((i : ℕ) → slice_index bs i < 256) → (i : ℕ) → slice_index (b ∷ bs) i < 256
    small_in b bs p q zero = p
    small_in b bs p q (suc i) = q i

    byte_in : (at : ℕ → Option ℕ) (b : ℕ) (bs : List ℕ) (n : ℕ)
        → at 0 ≡ Some b → ((i : ℕ) → i < n → at (suc i) ≡ Some (slice_index bs i)) → (i : ℕ) → i < suc n
        → at i ≡ Some (slice_index (b ∷ bs) i)
    byte_in at b bs n p q zero h = p
    byte_in at b bs n p q (suc i) h = q i (omega arith)

-- an access of a known offset and distance that stays inside the size of the region is good
pub good_at : (f : Setting) (region : Region) (base size word offset count at : ℕ) (off : ℤ)
    → Spans f region base size → base < 2 ^ 63 → word ≡ (base + offset) % 2 ^ 64 → at ≡ (offset + word_of off) % 2 ^ 64
    → size ≤ 65536 → at + count ≤ size
    → IsGood f (address_of word off) count region at
good_at f region base size word offset count at off spans low word_is at_is small inside =
    record { base = base; size = size; spans = spans; address_is = omega (arith, word_is, at_is); inside = inside }

-- each byte inside the context is there, and is below 256
pub context_byte : (shapes : List MapShape) (context_length : ℕ) (f : Setting) (s : State) (i : ℕ)
    → Suits shapes context_length f → i < length f.context
    → (b : ℕ) × (byte_at f s InContext i ≡ Some b) × (b < 256)
context_byte shapes context_length f s i suits lt =
    let e = slice_get-get_or f.context i 0 lt in (get_or f.context i 0, e, suits.context_bytes i _ e)

-- each byte of an entry inside its map is there, and is below 256
pub entry_byte : (shapes : List MapShape) (s : State) (f : Setting) (m first i : ℕ)
    → HaveShapes shapes s.maps → first + i < length (slice_index_or s.maps m [])
    → (b : ℕ) × (byte_at f s (InEntry m first) i ≡ Some b) × (b < 256)
entry_byte shapes s f m first i have lt =
    let e = slice_get-get_or (slice_index_or s.maps m []) (first + i) 0 lt in
    (get_or (slice_index_or s.maps m []) (first + i) 0, e, have.bytes m (first + i) _ e)

-- an entry lies inside its map
pub entry_inside : (shapes : List MapShape) (maps : List (List ℕ)) (m first size : ℕ)
    → HaveShapes shapes maps → IsEntry shapes m first size → first + size ≤ length (slice_index_or maps m [])
entry_inside shapes maps m first size have entry =
    let more = mul-le-mul_left entry.shape.value_size (let p : entry.number + 1 ≤ entry.shape.entries = omega (arith, entry.there) in p) in
    omega (arith, entry.first_is, entry.size_is, have.sizes m entry.shape entry.known, more)

-- an entry begins within the first 65536 bytes of its map
pub entry_low : (shapes : List MapShape) (m first size : ℕ) → IsEntry shapes m first size → first ≤ 65536
entry_low shapes m first size entry =
    let number : entry.number ≤ 256 = omega (arith, entry.there, entry.shape.greatest_entries) in
    let product : entry.number * entry.shape.value_size ≤ 256 * 256 = mul-le-mul number entry.shape.greatest_size in
    omega (arith, entry.first_is, product)

-- a pointer to an entry of a map may reach over one value
pub entry_bounds : (shapes : List MapShape) (context_length m size : ℕ) (shape : MapShape) (kind : ValueKind)
    → kind ≡ Entry m → Some shape ≡ slice_get shapes m → size ≡ shape.value_size
    → Bounds shapes context_length kind size
entry_bounds shapes context_length m size shape kind kind_is known size_is f base suits is =
    let entry : IsEntryBase f.shapes m base = rw kind_is at is in
    let e = entry.entry in
    let alike = entry.alike in
    let one : alike.shape ≡ shape = some_same _ _ _ (rw suits.shapes_are at alike.one) (sym known) in
    let other : e.shape ≡ alike.shape = some_same _ _ _ e.known alike.other in
    let below = entry_low f.shapes entry.map entry.first entry.size e in (
      InEntry entry.map entry.first,
      (
        entry.base_is,
        record {
          shape = e.shape;
          known = e.known;
          number = e.number;
          there = e.there;
          first_is = e.first_is;
          size_is = size_is ∙ ap (λ (x : MapShape). x.value_size) (sym (other ∙ one));
        },
      ),
      rw kind_is (entry.map, entry.first, refl),
      omega (arith, entry.base_is, below, alike.low),
    )

-- each byte of the region that a pointer of the kind points into is there, if on the stack it is known to be set
pub region_byte : (shapes : List MapShape) (context_length : ℕ) (f : Setting) (v : AbstractState) (s : State)
    (kind : ValueKind) (region : Region) (base size i : ℕ)
    → Suits shapes context_length f → Contains f v s → IsRegionOfKind kind region → Spans f region base size → i < size
    → (kind ≡ Stack → slice_index_or v.set i false ≡ true)
    → (b : ℕ) × (byte_at f s region i ≡ Some b) × (b < 256)
region_byte shapes context_length f v s Number region base size i suits contains is spans lt set = absurd is
region_byte shapes context_length f v s Context region base size i suits contains is spans lt set =
    let spans' : Spans f InContext base size = rw is at spans in
    rw is (context_byte shapes context_length f s i suits (omega (arith, spans'.1)))
region_byte shapes context_length f v s Stack region base size i suits contains is spans lt set = rw is (contains.set i (set refl))
region_byte shapes context_length f v s (Entry m) region base size i suits contains is spans lt set =
    let spans' : Spans f (InEntry is.0 is.1) base size = rw is.2 at spans in
    let inside = entry_inside f.shapes s.maps is.0 is.1 size contains.maps spans'.1 in
    rw is.2 (entry_byte f.shapes s f is.0 is.1 i contains.maps (omega (arith, inside)))
region_byte shapes context_length f v s (EntryOrNull m) region base size i suits contains is spans lt set = absurd is
region_byte shapes context_length f v s (Map m) region base size i suits contains is spans lt set = absurd is

-- a read by a known pointer that stays inside its region, and on the stack hits bytes that are set, finds bytes
pub reads_gives : (shapes : List MapShape) (context_length : ℕ) (state : AbstractState) (count : ℕ) (src : ℕ) (off : ℤ)
    (base : AbstractValue) (bound : ℕ) (at : Range)
    → Some base ≡ slice_index_or state.registers src None → Bounds shapes context_length base.kind bound
    → bound ≤ 65536 → ((u : ℕ) → Within base.offset u → Within at ((u + word_of off) % 2 ^ 64)) → at.hi + count ≤ bound
    → (base.kind ≡ Stack → (o i : ℕ) → Within at o → i < count → slice_index_or state.set (o + i) false ≡ true)
    → (f : Setting) (s : State) → Suits shapes context_length f → Contains f state s
    → (word : ℕ) × (bytes : List ℕ) × (s.register src ≡ Some word) × (length bytes ≡ count)
    × Reads f s (address_of word off) bytes × (number_of bytes < 256 ^ count) × (word < 2 ^ 64)
    × ((i : ℕ) → slice_index bytes i < 256)
reads_gives shapes context_length state count src off base bound at known bounds small moved inside set f s suits contains =
    let found = found_at f state s src base known contains in
    let d = found.2 in
    let region = bounds f d.base suits d.is_base in
    let o : ℕ = (d.offset + word_of off) % 2 ^ 64 in
    let within = moved d.offset d.within in
    let stays : o + count ≤ bound = omega (arith, within, inside) in
    let good = good_at f region.0 d.base bound found.0 d.offset (count) o off region.1 region.3 d.word_is refl small stays in
    let bytes =
    read_bytes (λ i. byte_at f s region.0 (o + i)) (count) (λ i h.
    region_byte shapes context_length f state s base.kind region.0 d.base bound (o + i) suits contains region.2 region.1
    (omega arith) (λ stack. set stack o i within h)) in (
      found.0,
      bytes.0,
      found.1,
      bytes.1,
      record { region = region.0; offset = o; good = rw bytes.1 good; set = λ i h. bytes.2 i (rw bytes.1 at h) },
      bytes.3,
      omega (arith, d.word_is),
      bytes.4,
    )

-- a read at a word plus the distance 0 is a read at the word
word_at : (f : Setting) (s : State) (word : ℕ) (bytes : List ℕ)
    → word < 2 ^ 64 → Reads f s (address_of word (pos 0)) bytes → Reads f s word bytes
word_at f s word bytes small reads =
    let same : (word + word_of (pos 0)) % 2 ^ 64 ≡ word = omega arith in subst (λ (a : ℕ). Reads f s a bytes) same reads

-- a register with a known pointer that stays inside its region points to bytes that may be read
pub finds_bytes : (shapes : List MapShape) (context_length : ℕ) (state : AbstractState) (count : ℕ)
    (src : ℕ) (base : AbstractValue) (bound : ℕ)
    → Some base ≡ slice_index_or state.registers src None
    → Bounds shapes context_length base.kind bound → bound ≤ 65536 → base.offset.hi + count ≤ bound
    → (base.kind ≡ Stack → (o i : ℕ) → Within base.offset o → i < count → slice_index_or state.set (o + i) false ≡ true)
    → FindsBytes shapes context_length state src count
finds_bytes shapes context_length state count src base bound known bounds small inside set f s suits contains =
    let fits = base.offset.fits in
    let read = reads_gives shapes context_length state count src (pos 0) base bound base.offset known bounds small
    (λ u w. let same : (u + word_of (pos 0)) % 2 ^ 64 ≡ u = omega (arith, w) in rw same w) inside set f s suits contains in
    (read.0, read.1, read.2, read.3, word_at f s read.0 read.1 read.6 read.4, read.7)
