-- What is printed of a word is right about each word that it may be.
use Rattle.std.proofs.Common.{◌≡◌, ℕ, zero, suc, ◌+◌, ◌-◌, ◌%◌, ◌^◌, ◌<◌, ◌≤◌, ◌==◌, ◌&&◌, nat_lt, Bool, true, false, cond, List, [], ◌∷◌, ◌++◌, Some, inl, inr, slice_get, if◌then◌else◌, refl, sym, subst, ◌∙◌, ap, arith}
use Rattle.std.specs.Prelude.{codes, count_by}
use Rattle.std.specs.Fmt.{decimal}
use Rattle.std.proofs.lemmas.Bool.{cases_lt}
use Rattle.std.proofs.lemmas.List.Sums.{sum_by-cons}
use Rattle.std.proofs.lemmas.Option.{same_Some, slice_get_within}
use Rattle.std.proofs.Math.Nat.{mod-add-mod, add-mod_right}
use Rattle.bq_bpf.specs.declared.shape.MapShape.{MapShape}
use Rattle.bq_bpf.specs.Memory.{reference, context_base, stack_base}
use Rattle.bq_ranges.specs.Within.{Within}
use Rattle.bq_ranges.specs.declared.range.Range.{Range}
use Rattle.bq_states.specs.AbstractStates.{AreAlike, Describes, IsBase, IsEntryBase}
use Rattle.bq_states.specs.declared.abstract_state.ValueKind.{ValueKind}
use Rattle.bq_states.specs.declared.abstract_state.ValueKind.TheVariants.{Number, Context, Stack, Entry, EntryOrNull, Map}
use Rattle.bq_states.specs.declared.abstract_state.AbstractValue.{AbstractValue}
use Rattle.bq_needs.specs.DescribedWords.{DescribesWord, any_number, number, number_below, context, stack_begin, stack_end, entry, entry_or_null, map_reference, IsEntryOf, DescribesMap, itself, alike, DescribesPlace, there, above, under}
use Rattle.bq_needs.specs.Texts.{below_text, is_shared, map_name, minus_text, range_text, number_text, offset_text, same_shape, stack_pointer_text, kind_text, known_text}

-- with what made the sum wrap taken away, the address is the place itself
pub wrap_taken_away : (place o n : ℕ) → o + n ≡ 2 ^ 64 → ((place + o) % 2 ^ 64 + n) % 2 ^ 64 ≡ place % 2 ^ 64
wrap_taken_away place o n whole =
    let joined : (place + o) + n ≡ place + 2 ^ 64 = omega (arith, whole) in
    mod-add-mod (place + o) (2 ^ 64) n ∙ ap (λ (m : ℕ). m % 2 ^ 64) joined ∙ add-mod_right place (2 ^ 64)

-- an offset of the range is said
pub describes_offset : (r : Range) (o place word : ℕ) → Within r o → word ≡ (place + o) % 2 ^ 64 → DescribesPlace (offset_text r) place word
describes_offset r o place word within is =
    let fits = r.fits in
    elim (r.hi == 0) as (λ b.
    (r.hi == 0) ≡ b →
    DescribesPlace
    (if b then [] else if nat_lt r.lo (2 ^ 63) then codes " + " ++ range_text r else below_text (2 ^ 64 - r.lo) (2 ^ 64 - r.hi))
    place word) [
      | true ↦ λ none.
          let zero_hi : r.hi ≡ 0 = grind (arith, none) in
          let zero_offset : place + o ≡ place = omega (arith, zero_hi, within) in
          there place word (is ∙ ap (λ (m : ℕ). m % 2 ^ 64) zero_offset)
      | false ↦ λ some.
          elim (nat_lt r.lo (2 ^ 63)) as (λ b.
          nat_lt r.lo (2 ^ 63) ≡ b →
          DescribesPlace (if b then codes " + " ++ range_text r else below_text (2 ^ 64 - r.lo) (2 ^ 64 - r.hi)) place word) [
            | true ↦ λ near. above r.lo r.hi o place word within.0 within.1 is
            | false ↦ λ far.
                let beyond : 2 ^ 63 ≤ r.lo = grind (arith, far) in
                let whole : o + (2 ^ 64 - o) ≡ 2 ^ 64 = omega (arith, within, fits) in
                let least : 2 ^ 64 - r.hi ≤ 2 ^ 64 - o = omega (arith, within) in
                let most : 2 ^ 64 - o ≤ 2 ^ 64 - r.lo = omega (arith, within) in
                under (2 ^ 64 - r.lo) (2 ^ 64 - r.hi) (2 ^ 64 - o) place word least most
                (ap (λ (w : ℕ). (w + (2 ^ 64 - o)) % 2 ^ 64) is ∙ wrap_taken_away place o (2 ^ 64 - o) whole)
          ] refl
    ] refl

-- a pointer into the stack is said
pub describes_stack : (shapes : List MapShape) (r : Range) (o word : ℕ)
    → Within r o → word ≡ (stack_base + o) % 2 ^ 64 → DescribesWord shapes (stack_pointer_text r) word
describes_stack shapes r o word within is =
    elim (nat_lt 512 r.hi) as (λ b.
    nat_lt 512 r.hi ≡ b →
    DescribesWord shapes (if b
    then codes "stack begin" ++ offset_text r
    else if r.lo == 512
    then codes "stack end"
    else codes "stack end" ++ below_text (512 - r.lo) (512 - r.hi)) word) [
      | true ↦ λ beyond. stack_begin shapes (offset_text r) word (describes_offset r o stack_base word within is)
      | false ↦ λ inside.
          let most : r.hi ≤ 512 = grind (arith, inside) in
          elim (r.lo == 512) as (λ b.
          (r.lo == 512) ≡ b →
          DescribesWord shapes (if b then codes "stack end" else codes "stack end" ++ below_text (512 - r.lo) (512 - r.hi)) word) [
            | true ↦ λ at.
                let lo_is : r.lo ≡ 512 = grind (arith, at) in
                let end : stack_base + o ≡ stack_base + 512 = omega (arith, within, most, lo_is) in
                stack_end shapes [] word (there (stack_base + 512) word (is ∙ ap (λ (m : ℕ). m % 2 ^ 64) end))
            | false ↦ λ before.
                let least : 512 - r.hi ≤ 512 - o = omega (arith, within) in
                let greatest : 512 - o ≤ 512 - r.lo = omega (arith, within) in
                let joined : (stack_base + o) + (512 - o) ≡ stack_base + 512 = omega (arith, within, most) in
                stack_end shapes (below_text (512 - r.lo) (512 - r.hi)) word
                (under (512 - r.lo) (512 - r.hi) (512 - o) (stack_base + 512) word least greatest
                (ap (λ (w : ℕ). (w + (512 - o)) % 2 ^ 64) is ∙ mod-add-mod (stack_base + o) (2 ^ 64) (512 - o)
                ∙ ap (λ (m : ℕ). m % 2 ^ 64) joined))
          ] refl
    ] refl

-- a number of the range is said
pub describes_number : (shapes : List MapShape) (r : Range) (word : ℕ) → Within r word → DescribesWord shapes (number_text r) word
describes_number shapes r word within =
    let fits = r.fits in
    elim ((r.lo == 0) && (r.hi == 2 ^ 64 - 1)) as (λ b.
    DescribesWord shapes
    (if b then codes "any number" else if nat_lt r.lo (2 ^ 63) then range_text r else minus_text (2 ^ 64 - r.lo) (2 ^ 64 - r.hi)) word) [
      | true ↦ any_number shapes word
      | false ↦
          elim (nat_lt r.lo (2 ^ 63))
          as (λ b. DescribesWord shapes (if b then range_text r else minus_text (2 ^ 64 - r.lo) (2 ^ 64 - r.hi)) word) [
            | true ↦ number shapes r.lo r.hi word within.0 within.1
            | false ↦
                let least : 2 ^ 64 - r.hi ≤ 2 ^ 64 - word = omega (arith, within) in
                let most : 2 ^ 64 - word ≤ 2 ^ 64 - r.lo = omega (arith, within) in
                let whole : word + (2 ^ 64 - word) ≡ 2 ^ 64 = omega (arith, within, fits) in
                number_below shapes (2 ^ 64 - r.lo) (2 ^ 64 - r.hi) (2 ^ 64 - word) word least most whole
          ]
    ]

-- a map whose shape counts adds one to the count, and other maps take nothing from it:
count_first : (p : MapShape → Bool) (shape : MapShape) (rest : List MapShape)
    → p shape ≡ true → count_by p (shape ∷ rest) ≡ 1 + count_by p rest
count_first p shape rest counts = sum_by-cons (λ s. cond (p s) 1 0) shape rest ∙ ap (λ (b : Bool). cond b 1 0 + count_by p rest) counts

count_rest : (p : MapShape → Bool) (first : MapShape) (rest : List MapShape) → count_by p rest ≤ count_by p (first ∷ rest)
count_rest p first rest = let sum = sum_by-cons (λ s. cond (p s) 1 0) first rest in omega (arith, sum)

-- where the shape of a map counts, the count is at least one
one_counted : (p : MapShape → Bool) (shapes : List MapShape) (m : ℕ) (shape : MapShape)
    → slice_get shapes m ≡ Some shape → p shape ≡ true → 1 ≤ count_by p shapes
one_counted p [] m shape is counts = absurd cc
one_counted p (x ∷ rest) zero shape is counts =
    let first = count_first p x rest (ap p (same_Some x shape is) ∙ counts) in
    omega (arith, first)
one_counted p (x ∷ rest) (suc m) shape is counts =
    let later = one_counted p rest m shape is counts in
    let more = count_rest p x rest in
    omega (arith, later, more)

-- where two maps have the shape, more than one is counted
two_counted : (p : MapShape → Bool) (shapes : List MapShape) (m n : ℕ) (shape : MapShape)
    → slice_get shapes m ≡ Some shape → slice_get shapes n ≡ Some shape → p shape ≡ true → m < n
    → 1 < count_by p shapes
two_counted p [] m n shape is also counts less = absurd cc
two_counted p (x ∷ rest) m zero shape is also counts less = absurd (omega (arith, less))
two_counted p (x ∷ rest) zero (suc n) shape is also counts less =
    let first = count_first p x rest (ap p (same_Some x shape is) ∙ counts) in
    let later = one_counted p rest n shape also counts in
    omega (arith, first, later)
two_counted p (x ∷ rest) (suc m) (suc n) shape is also counts less =
    let later = two_counted p rest m n shape is also counts (omega (arith, less)) in
    let more = count_rest p x rest in
    omega (arith, later, more)

-- a shape is the same as itself
same_itself : (shape : MapShape) → same_shape shape shape ≡ true
same_itself shape = grind arith

-- where two maps have one shape, and not more than one has it, they are one
one_alone : (shapes : List MapShape) (m n : ℕ) → AreAlike shapes m n → is_shared shapes (slice_get shapes m) ≡ false → m ≡ n
one_alone shapes m n both alone =
    let few : nat_lt 1 (count_by (same_shape both.shape) shapes) ≡ false = rw both.one at alone in
    let most : count_by (same_shape both.shape) shapes ≤ 1 = grind (arith, few) in
    elim (cases_lt m n) [
      | inl less ↦
          let more = two_counted (same_shape both.shape) shapes m n both.shape both.one both.other (same_itself both.shape) less in
          absurd (omega (arith, most, more))
      | inr least ↦
          elim (cases_lt n m) [
            | inl less ↦
                let more = two_counted (same_shape both.shape) shapes n m both.shape both.other both.one (same_itself both.shape) less in
                absurd (omega (arith, most, more))
            | inr greatest ↦ omega (arith, least, greatest)
          ]
    ]

-- the name that is printed tells each map of that shape
describes_map : (shapes : List MapShape) (m n : ℕ) → AreAlike shapes m n → DescribesMap shapes (map_name shapes m) n
describes_map shapes m n both =
    elim (is_shared shapes (slice_get shapes m)) as (λ b.
    is_shared shapes (slice_get shapes m) ≡ b →
    DescribesMap shapes (if b then codes "map " ++ (decimal m ++ codes " or a map like it") else codes "map " ++ decimal m) n) [
      | true ↦ λ shared. alike m n (both.other ∙ sym both.one)
      | false ↦ λ alone. subst (λ (k : ℕ). DescribesMap shapes (codes "map " ++ decimal m) k) (one_alone shapes m n both alone) (itself m)
    ] refl

-- the name that is printed tells the map itself
describes_itself : (shapes : List MapShape) (m : ℕ) → DescribesMap shapes (map_name shapes m) m
describes_itself shapes m =
    elim (is_shared shapes (slice_get shapes m))
    as (λ b. DescribesMap shapes (if b then codes "map " ++ (decimal m ++ codes " or a map like it") else codes "map " ++ decimal m) m) [
      | true ↦ alike m m refl
      | false ↦ itself m
    ]

-- the base of an entry of a map, or of one with the same shape, is the first address of an entry of that very map
entry_of : (shapes : List MapShape) (m base : ℕ) → (from : IsEntryBase shapes m base) → IsEntryOf shapes from.map base
entry_of shapes m base from = record { first = from.first; size = from.size; entry = from.entry; base_is = from.base_is }

-- a word of each kind is said
pub describes_kind : (shapes : List MapShape) (kind : ValueKind) (r : Range) (base o word : ℕ)
    → IsBase shapes kind base → Within r o → word ≡ (base + o) % 2 ^ 64
    → DescribesWord shapes (kind_text shapes kind r) word
describes_kind shapes Number r base o word from within is =
    let fits = r.fits in
    let same : word ≡ o = omega (arith, from, within, is, fits) in
    describes_number shapes r word (rw same within)
describes_kind shapes Context r base o word from within is =
    context shapes (offset_text r) word (describes_offset r o context_base word within (is ∙ ap (λ (b : ℕ). (b + o) % 2 ^ 64) from))
describes_kind shapes Stack r base o word from within is =
    describes_stack shapes r o word within (is ∙ ap (λ (b : ℕ). (b + o) % 2 ^ 64) from)
describes_kind shapes (Entry map) r base o word from within is =
    entry shapes (map_name shapes map) (offset_text r) from.map base word (describes_map shapes map from.map from.alike)
    (entry_of shapes map base from) (describes_offset r o base word within is)
describes_kind shapes (EntryOrNull map) r base o word (inl null) within is =
    entry_or_null shapes (map_name shapes map) (offset_text r) map base word (describes_itself shapes map) (inl null)
    (describes_offset r o base word within is)
describes_kind shapes (EntryOrNull map) r base o word (inr from) within is =
    entry_or_null shapes (map_name shapes map) (offset_text r) from.map base word
    (describes_map shapes map from.map from.alike) (inr (entry_of shapes map base from))
    (describes_offset r o base word within is)
describes_kind shapes (Map map) r base o word from within is =
    map_reference shapes (map_name shapes map) (offset_text r) from.map word
    (describes_map shapes map from.map from.alike) (slice_get_within shapes from.map from.alike.shape from.alike.other)
    (describes_offset r o (reference from.map) word within (is ∙ ap (λ (b : ℕ). (b + o) % 2 ^ 64) from.base_is))

-- what is printed of a word says of each word that it may be what it is
pub describes_known : (shapes : List MapShape) (k : AbstractValue) (word : ℕ)
    → Describes shapes k word → DescribesWord shapes (known_text shapes k) word
describes_known shapes k word d = describes_kind shapes k.kind k.offset d.base d.offset word d.is_base d.within d.word_is
