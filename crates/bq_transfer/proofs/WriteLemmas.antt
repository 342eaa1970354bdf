-- What a store leaves known: on the stack, and in an entry.
use Rattle.bq_states.specs.Certainty.{NoPointer, CertaintyHolds}
use Rattle.std.proofs.Common.{◌≡◌, ◌≢◌, ℕ, zero, suc, ◌+◌, ◌*◌, ◌^◌, ◌<◌, ◌≤◌, Bool, true, false, List, Option, Some, None, length, get_or, set, refl, sym, ap, subst, arith, ◌⊎◌, inl, inr, ℤ, get_or-set_same, get_or-set_other, [], ◌∷◌}
use Rattle.std.specs.Prelude.{slice_index, IfSome, IfOk, OnOk, Ok, Err, slice_index_or, slice_set}
use Rattle.std.specs.declared.result.Result.{Result}
use Rattle.bq_transfer.specs.declared.obligation.Obligation.{Obligation}
use Rattle.std.specs.Int.{byte_at as byte_of, bytes_low_first}
use Rattle.std.proofs.lemmas.Bool.{cases_lt}
use Rattle.std.proofs.lemmas.Bool.Decides.{eqb_tells}
use Rattle.std.proofs.lemmas.List.{get_or_past}
use Rattle.std.proofs.lemmas.Option.{slice_get_within}
use Rattle.bq_insn.specs.declared.Size.{Size}
use Rattle.bq_insn.specs.declared.Size.TheVariants.{Byte, Half, Word, Double}
use Rattle.bq_insn.specs.declared.Insn.TheVariants.{StoreImm, StoreReg}
use Rattle.bq_insn.specs.Slots.{byte_count}
use Rattle.bq_bpf.specs.Meaning.{word_of}
use Rattle.bq_bpf.specs.declared.shape.MapShape.{MapShape}
use Rattle.bq_bpf.specs.Memory.{Setting, State, Region, InStack, InEntry, IsGood, stack_with, written}
use Rattle.bq_bpf.specs.Steps.{address_of, low_bytes, next}
use Rattle.bq_bpf.proofs.MapLemmas.{have_overwritten}
use Rattle.bq_ranges.specs.declared.range.Range.{Range}
use Rattle.bq_ranges.specs.Within.{Within}
use Rattle.bq_states.specs.declared.abstract_state.ValueKind.{ValueKind}
use Rattle.bq_states.specs.declared.abstract_state.ValueKind.TheVariants.{Stack, Entry, Number}
use Rattle.bq_states.specs.declared.abstract_state.AbstractState.{AbstractState}
use Rattle.bq_states.specs.declared.relations.Related.{Related}
use Rattle.bq_states.specs.declared.abstract_state.AbstractValue.{AbstractValue}
use Rattle.bq_states.specs.AbstractStates.{Contains, Describes, StackIsAsKnown, IsRegionOfKind, keeping}
use Rattle.bq_transfer.specs.Transfers.{FindsPlace, IsWholeSlot, Stores, Transfers}
use Rattle.bq_states.proofs.StoreLemmas.{low_first_byte, stored_bytes}
use Rattle.bq_states.specs.Copies.{AreCopies, HasWord}
use Rattle.bq_states.proofs.AccessLemmas.{entry_inside}
use Rattle.bq_states.proofs.LearntLemmas.{contains_copies}

-- as many bytes as the store has
pub low_long : (size : Size) (v : ℕ) → length (low_bytes size v) ≡ byte_count size
low_long Byte v = refl
low_long Half v = refl
low_long Word v = refl
low_long Double v = refl

-- each byte of a word is below 256
byte_small : (i v : ℕ) → byte_of i v < 256
byte_small zero v = omega arith
byte_small (suc i) v = omega arith

-- each of the low bytes of a word is below 256
pub low_small : (size : Size) (v k : ℕ) → slice_index (low_bytes size v) k < 256
low_small size v k = at (cases_lt k (byte_count size))
  where
    at : (k < byte_count size) ⊎ (byte_count size ≤ k) → slice_index (low_bytes size v) k < 256
    at (inl lt) = let e = low_first_byte 0 (byte_count size) v k lt in rw e (byte_small (0 + k) v)
    at (inr past) =
        let beyond : length (low_bytes size v) ≤ k = omega (arith, low_long size v) in
        rw (get_or_past (low_bytes size v) k 0 beyond) (omega arith)

-- each slot is as known once slot j is known to keep a word that it holds, by whether it is slot j
keeps_at : (f : Setting) (w : AbstractState) (t : State) (j i : ℕ) (k : AbstractValue) (b : Bool)
    → j < length w.kept → StackIsAsKnown f.shapes (Some k) t.stack j → Contains f w t
    → ((b ≡ true) × (i ≡ j)) ⊎ ((b ≡ false) × (i ≢ j))
    → StackIsAsKnown f.shapes (get_or (set w.kept j (Some k)) i None) t.stack i
keeps_at f w t j i k b there keeps contains (inl (_, same)) =
    rw (same, get_or-set_same w.kept j (Some k) None there) keeps
keeps_at f w t j i k b there keeps contains (inr (_, other)) =
    subst (λ (v : Option AbstractValue). StackIsAsKnown f.shapes v t.stack i)
    (sym (get_or-set_other w.kept j i (Some k) None other)) (contains.kept i)

-- an abstract state that keeps a word in a slot describes a state in which the slot holds a word so known
pub contains_keeping : (f : Setting) (w : AbstractState) (t : State) (j : ℕ) (k : AbstractValue)
    → j < length w.kept → StackIsAsKnown f.shapes (Some k) t.stack j → Contains f w t
    → Contains f (keeping w j k) t
contains_keeping f w t j k there keeps contains = record {
  registers = contains.registers;
  set = contains.set;
  kept = λ i. keeps_at f w t j i k _ there keeps contains (eqb_tells i j);
  parts = contains.parts;
  maps = contains.maps;
  copies = contains.copies;
}

-- bytes written into an entry
pub contains_entry : (f : Setting) (v : AbstractState) (s : State) (m first address n o : ℕ) (bytes : List ℕ)
    → IsGood f address n (InEntry m first) o → length bytes ≡ n → ((k : ℕ) → slice_index bytes k < 256) → Contains f v s
    → Contains f v (next (written s (InEntry m first) o bytes))
contains_entry f v s m first address n o bytes good long small contains =
    let entry = good.spans.1 in
    let inside = entry_inside f.shapes s.maps m first good.size contains.maps entry in
    let there : m < length f.shapes = slice_get_within f.shapes m entry.shape entry.known in
    record {
      registers = contains.registers;
      set = contains.set;
      kept = contains.kept;
      parts = contains.parts;
      copies = contains.copies;
      maps = have_overwritten f.shapes s.maps m (first + o) bytes contains.maps there (omega (arith, good.inside, long, inside)) small;
    }

-- the word in a slot that was written whole
slot_word : (shapes : List MapShape) (s : State) (k : AbstractValue) (at : Range) (size : Size) (o v n : ℕ)
    → IsWholeSlot at size n → Within at o → Describes shapes k v
    → HasWord (written s InStack o (low_bytes size v)) (11 + n) v
slot_word shapes s k at size o v n (there, double, low, high) within d =
    let place : 8 * n ≡ o = omega (arith, within) in
    let is : low_bytes size v ≡ bytes_low_first 0 8 v = ap (λ (z : Size). low_bytes z v) double in
    let whole = stored_bytes s.stack n v (low_bytes size v) is (ap length is) in
    let small : v < 2 ^ 64 = omega (arith, d.word_is) in
    let bytes =
    subst (λ (p : ℕ). (i : ℕ) → i < 8 → stack_with s.stack p (low_bytes size v) (8 * n + i) ≡ Some (byte_of i v)) place
    whole in (
      λ lt. absurd (let no : ⊥ = omega (arith, lt) in no),
      λ j is.
          let same : n ≡ j = omega (arith, is) in (
            small,
            subst (λ (m : ℕ). (i : ℕ) → i < 8 → stack_with s.stack o (low_bytes size v) (8 * m + i) ≡ Some (byte_of i v)) same
                bytes,
          ),
    )

-- what holds of a slot, if there is one, holds of the slot that is there
some_slot : (slot : Option ℕ) (n : ℕ) (P : ℕ → Type 0) → IfSome slot P → slot ≡ Some n → P n
some_slot None n P h e = absurd (let no : ⊥ = cc in no)
some_slot (Some m) n P h e = let same : m ≡ n = cc in subst P same h

-- a store on the stack
stores_on_stack : (shapes : List MapShape) (context_length dst : ℕ) (off : ℤ) (size : Size) (k : AbstractValue) (at : Range)
    (kind : ValueKind) (old new : AbstractState) (slot : Option ℕ)
    → IfSome slot (IsWholeSlot at size) → kind ≡ Stack → FindsPlace shapes context_length old dst off size kind at
    → ((f : Setting) (s : State) (o v : ℕ) → Contains f old s → Within at o → Describes f.shapes k v →
    Contains f new (next (written s InStack o (low_bytes size v))))
    → Stores shapes context_length dst off size k old new slot
stores_on_stack shapes context_length dst off size k at kind old new slot whole stack finds after f s v suits contains d =
    let found = finds f s suits contains in
    let region : found.1 ≡ InStack = subst (λ (x : ValueKind). IsRegionOfKind x found.1) stack found.5 in
    let good = subst (λ (r : Region). IsGood f (address_of found.0 off) (byte_count size) r found.2) region found.4 in (
      found.0,
      written s InStack found.2 (low_bytes size v),
      found.3,
      record { region = InStack; offset = found.2; writable = tt; good = rw (low_long size v) good; after = refl },
      after f s found.2 v contains found.6 d,
      refl,
      refl,
      λ n is. slot_word f.shapes s k at size found.2 v n (some_slot slot n (IsWholeSlot at size) whole is) found.6 d,
    )

-- a store on the stack that answers its slot
pub stores_if_ok : (shapes : List MapShape) (context_length dst : ℕ) (off : ℤ) (size : Size) (k : AbstractValue) (at : Range)
    (kind : ValueKind) (old new : AbstractState) (r : Result (Option ℕ) Obligation)
    → IfOk r (λ slot. IfSome slot (IsWholeSlot at size)) → kind ≡ Stack
    → FindsPlace shapes context_length old dst off size kind at
    → OnOk r ((f : Setting) (s : State) (o v : ℕ) → Contains f old s → Within at o → Describes f.shapes k v →
    Contains f new (next (written s InStack o (low_bytes size v))))
    → IfOk r (Stores shapes context_length dst off size k old new)
stores_if_ok shapes context_length dst off size k at kind old new (Ok slot) whole stack finds after =
    stores_on_stack shapes context_length dst off size k at kind old new slot whole stack finds after
stores_if_ok shapes context_length dst off size k at kind old new (Err obligation) whole stack finds after = tt

-- a store into an entry
pub stores_in_entry : (shapes : List MapShape) (context_length dst : ℕ) (off : ℤ) (size : Size) (k : AbstractValue)
    (at : Range) (kind : ValueKind) (m : ℕ) (state : AbstractState)
    → kind ≡ Entry m → FindsPlace shapes context_length state dst off size kind at
    → Stores shapes context_length dst off size k state state None
stores_in_entry shapes context_length dst off size k at kind m state entry finds f s v suits contains d =
    let found = finds f s suits contains in
    let into : (map : ℕ) × (first : ℕ) × (found.1 ≡ InEntry map first) = subst (λ (x : ValueKind). IsRegionOfKind x found.1) entry found.5 in
    let good = subst (λ (r : Region). IsGood f (address_of found.0 off) (byte_count size) r found.2) into.2 found.4 in (
      found.0,
      written s (InEntry into.0 into.1) found.2 (low_bytes size v),
      found.3,
      record { region = InEntry into.0 into.1; offset = found.2; writable = tt; good = rw (low_long size v) good; after = refl },
      contains_entry f state s into.0 into.1 (address_of found.0 off) (byte_count size) found.2 (low_bytes size v) good
          (low_long size v) (low_small size v) contains,
      refl,
      refl,
      λ n is. absurd (let no : ⊥ = cc in no),
    )

-- where an immediate can be stored, the instruction that stores it leads to the abstract state after it
pub carries_imm : (shapes : List MapShape) (context_length dst : ℕ) (off imm : ℤ) (size : Size) (k : AbstractValue)
    (old new : AbstractState) (slot : Option ℕ)
    → ((f : Setting) → Describes f.shapes k (word_of imm)) → Stores shapes context_length dst off size k old new slot
    → Transfers shapes context_length (StoreImm size dst off imm) old new
carries_imm shapes context_length dst off imm size k old new slot word stores f s suits contains =
    let on = stores f s (word_of imm) suits contains (word f) in
    (next on.1, (on.0, on.1, on.2, on.3, refl), on.4, ap (λ (n : ℕ). n + 1) on.5)

-- where a register can be stored, the instruction leads to the abstract state after it, with right classes and relations
pub carries_reg : (shapes : List MapShape) (context_length dst src : ℕ) (off : ℤ) (size : Size) (k : AbstractValue)
    (old new : AbstractState) (slot : Option ℕ) (classes : List ℕ) (related : List (Option Related))
    → ((f : Setting) (s : State) → Contains f old s → (v : ℕ) × (s.register src ≡ Some v) × Describes f.shapes k v)
    → Stores shapes context_length dst off size k old new slot
    → ((t : State) (v : ℕ) → AreCopies new.classes new.related t → t.register src ≡ Some v →
    ((n : ℕ) → slot ≡ Some n → HasWord t (11 + n) v) → AreCopies classes related t)
    → Transfers shapes context_length (StoreReg size dst off src) old (record new { classes = classes; related = related })
carries_reg shapes context_length dst src off size k old new slot classes related word stores linked f s suits contains =
    let v = word f s contains in
    let on = stores f s v.0 suits contains v.2 in
    let same : on.1.register ≡ s.register = on.6 in
    let is : on.1.register src ≡ Some v.0 = rw same v.1 in
    let after = on.4 in (
      next on.1,
      (on.0, v.0, on.1, on.2, v.1, on.3, refl),
      contains_copies f new (next on.1) classes related (linked (next on.1) v.0 after.copies is on.7) after,
      ap (λ (n : ℕ). n + 1) on.5,
    )

-- a slot in which a number is kept, and each that had no pointer, has none
pub plain_kept : (kept : List (Option AbstractValue)) (slot j : ℕ) (k : AbstractValue)
    → k.kind ≡ Number → CertaintyHolds NoPointer (slice_index_or kept j None)
    → CertaintyHolds NoPointer (slice_index_or (slice_set kept slot (Some k)) j None)
plain_kept [] slot j k number plain = plain
plain_kept (x ∷ xs) zero zero k number plain = number
plain_kept (x ∷ xs) zero (suc j) k number plain = plain
plain_kept (x ∷ xs) (suc slot) zero k number plain = plain
plain_kept (x ∷ xs) (suc slot) (suc j) k number plain = plain_kept xs slot j k number plain
