-- Numbers in a few bytes of the stack, and lists of parts that are related one by one.
use Rattle.std.proofs.Common.{◌≡◌, ◌≢◌, ℕ, zero, suc, ◌+◌, ◌^◌, ◌<◌, ◌≤◌, Bool, true, false, List, [], ◌∷◌, Option, Some, None, length, get_or, set, refl, sym, ap, subst, arith, ◌∙◌, ◌⊎◌, inl, inr, get_or-set_same, get_or-set_other}
use Rattle.std.specs.Prelude.{slice_index}
use Rattle.std.proofs.lemmas.Bool.{cases_lt}
use Rattle.std.proofs.lemmas.Bool.Decides.{eqb_tells}
use Rattle.std.proofs.lemmas.List.{get_or_past, get_or_read}
use Rattle.bq_insn.specs.declared.Size.{Size}
use Rattle.bq_insn.specs.Slots.{byte_count}
use Rattle.bq_bpf.specs.Memory.{Setting, State, Region, Reads, byte_at, number_of, stack_with}
use Rattle.bq_ranges.specs.declared.range.Range.{Range}
use Rattle.bq_ranges.specs.Within.{Within}
use Rattle.bq_states.specs.declared.abstract_state.ValueKind.{ValueKind}
use Rattle.bq_states.specs.declared.abstract_state.ValueKind.TheVariants.{Stack}
use Rattle.bq_states.specs.declared.abstract_state.StackPart.{StackPart}
use Rattle.bq_states.specs.declared.abstract_state.AbstractState.{AbstractState}
use Rattle.bq_states.specs.Parts.{AllowsPart, HasBytes, HasStackPart, HaveParts, Outlives}
use Rattle.bq_states.specs.AbstractStates.{Contains, IsRegionOfKind}
use Rattle.bq_states.proofs.StoreLemmas.{byte_inside_write, stack_cases}
use Rattle.bq_insn.proofs.OptionLemmas.{some_same}

-- after a write, the stack has the bytes that were written where they were written
pub has_written : (stack : ℕ → Option ℕ) (at count : ℕ) (bytes : List ℕ)
    → length bytes ≡ count → HasBytes (stack_with stack at bytes) at count bytes
has_written stack at count bytes long =
    (long, λ i lt. byte_inside_write stack at bytes i (omega (arith, long)) (stack_cases stack at bytes (at + i)))

-- two lists of the same number of bytes that the stack has from one place on are equal
pub same_bytes : (stack : ℕ → Option ℕ) (first count : ℕ) (a b : List ℕ)
    → HasBytes stack first count a → HasBytes stack first count b → a ≡ b
same_bytes stack first count [] [] p q = refl
same_bytes stack first count [] (b ∷ bs) p q = absurd (let no : ⊥ = omega (arith, p.0, q.0) in no)
same_bytes stack first count (a ∷ as') [] p q = absurd (let no : ⊥ = omega (arith, p.0, q.0) in no)
same_bytes stack first zero (a ∷ as') (b ∷ bs) p q = absurd (let no : ⊥ = omega (arith, p.0) in no)
same_bytes stack first (suc count) (a ∷ as') (b ∷ bs) p q =
    let head : a ≡ b = some_same _ _ _ (p.1 0 (omega arith)) (q.1 0 (omega arith)) in
    let tail : as' ≡ bs = same_bytes stack (suc first) count as' bs (rest a as' p) (rest b bs q) in
    ap (λ (x : ℕ). x ∷ as') head ∙ ap (λ (xs : List ℕ). b ∷ xs) tail
  where
    rest : (x : ℕ) (xs : List ℕ) → HasBytes stack first (suc count) (x ∷ xs) → HasBytes stack (suc first) count xs
    rest x xs h = (
      omega (arith, h.0),
      λ i lt.
          subst (λ (n : ℕ). stack n ≡ Some (slice_index xs i)) (let e : first + suc i ≡ suc first + i = omega arith in e)
          (h.1 (suc i) (omega arith)),
    )

-- the number that the bytes of a known part spell is in the range of the part
pub part_number : (stack : ℕ → Option ℕ) (p : StackPart) (o : ℕ) (size : Size) (bytes : List ℕ)
    → p.first ≡ o → p.size ≡ size → HasStackPart stack (Some p) → HasBytes stack o (byte_count size) bytes
    → Within p.range (number_of bytes)
part_number stack p o size bytes place same h has =
    let own =
    subst (λ (n : ℕ). HasBytes stack n (byte_count size) h.0) place
    (subst (λ (z : Size). HasBytes stack p.first (byte_count z) h.0) same h.1) in
    subst (λ (xs : List ℕ). Within p.range (number_of xs)) (same_bytes stack o (byte_count size) h.0 bytes own has) h.2

-- if the elements before place i are related, they and the one written at i are, by whether a place is i
related_at : {X : Type 0} (R : Option X → Option X → Type 0) (old now : List (Option X)) (i : ℕ) (x a : Option X)
    → i < length now → get_or old i None ≡ a → R a x → ((k : ℕ) → k < i → R (get_or old k None) (get_or now k None))
    → (k : ℕ) (b : Bool) → k < i + 1 → ((b ≡ true) × (k ≡ i)) ⊎ ((b ≡ false) × (k ≢ i))
    → R (get_or old k None) (get_or (set now i x) k None)
related_at R old now i x a lt read r before k b le (inr (_, other)) =
    subst (λ v. R (get_or old k None) v) (sym (get_or-set_other now i k x None other)) (before k (omega arith))
related_at R old now i x a lt read r before k b le (inl (_, same)) =
    let there : get_or (set now i x) k None ≡ x = rw same (get_or-set_same now i x None lt) in
    let was : get_or old k None ≡ a = rw same read in
    subst (λ v. R (get_or old k None) v) (sym there) (subst (λ v. R v x) (sym was) r)

-- if the elements before place i are related, and the old one at i to the one written there, those up to i are
pub related_more : {X : Type 0} (R : Option X → Option X → Type 0) (old now : List (Option X)) (i : ℕ) (x a : Option X)
    → i < length now → get_or old i None ≡ a → R a x → ((k : ℕ) → k < i → R (get_or old k None) (get_or now k None))
    → (k : ℕ) → k < i + 1
    → R (get_or old k None) (get_or (set now i x) k None)
related_more R old now i x a lt read r before k le = related_at R old now i x a lt read r before k _ le (eqb_tells k i)

-- if the elements before place i are related and both lists end by i, the elements at any place are, by its side of i
related_by : {X : Type 0} (R : Option X → Option X → Type 0) (old now : List (Option X)) (i : ℕ)
    → R None None → length old ≤ i → length now ≤ i → ((k : ℕ) → k < i → R (get_or old k None) (get_or now k None))
    → (k : ℕ) → (k < i) ⊎ (i ≤ k)
    → R (get_or old k None) (get_or now k None)
related_by R old now i none long long' before k (inl lt) = before k lt
related_by R old now i none long long' before k (inr le) =
    subst (λ v. R (get_or old k None) v) (sym (get_or_past now k None (omega arith)))
    (subst (λ v. R v None) (sym (get_or_past old k None (omega arith))) none)

-- if the elements before place i are related and both lists end by i, the elements at every place are
pub related_all : {X : Type 0} (R : Option X → Option X → Type 0) (old now : List (Option X)) (i : ℕ)
    → R None None → length old ≤ i → length now ≤ i → ((k : ℕ) → k < i → R (get_or old k None) (get_or now k None))
    → (k : ℕ) → R (get_or old k None) (get_or now k None)
related_all R old now i none long long' before k = related_by R old now i none long long' before k (cases_lt k i)

-- an element inside the list that was read with itself as default is read also with the default None
pub part_read : {X : Type 0} (now : List (Option X)) (i : ℕ) (a : Option X) → i < length now → a ≡ get_or now i a → get_or now i None ≡ a
part_read now i a lt is = sym (get_or_read now i a lt is None)

-- where nothing is known of a part, nothing need be known of it
pub allows_none : AllowsPart None None
allows_none = record { has = λ stack h. h }

-- a part of which nothing is known outlives each write
pub outlives_none : (from to : ℕ) → Outlives from to None None
outlives_none from to = record { has = λ stack at bytes low high h. h }

-- a number that is read is in the range that has every number of the size, or, on the stack, those of the parts
pub read_numbers : (kind : ValueKind) (at numbers : Range) (size : Size) (f : Setting) (s : State) (address : ℕ)
    (bytes : List ℕ) (parts : List (Option StackPart)) (r : Reads f s address bytes)
    → ((x : ℕ) → kind ≢ Stack → x < 256 ^ byte_count size → Within numbers x)
    → ((stack : ℕ → Option ℕ) (o : ℕ) (own : List ℕ) → kind ≡ Stack → HaveParts stack parts → Within at o →
    HasBytes stack o (byte_count size) own → number_of own < 256 ^ byte_count size → Within numbers (number_of own))
    → HaveParts s.stack parts → length bytes ≡ byte_count size → number_of bytes < 256 ^ byte_count size
    → IsRegionOfKind kind r.region → Within at r.offset
    → Within numbers (number_of bytes)
read_numbers Stack at numbers size f s address bytes parts r any on have long small is within =
    on s.stack r.offset bytes refl have within
    (long, λ i lt. subst (λ (region : Region). byte_at f s region (r.offset + i) ≡ Some (slice_index bytes i)) is (r.set i (rw long lt)))
    small
read_numbers kind at numbers size f s address bytes parts r any on have long small is within =
    any (number_of bytes) (λ e. let no : ⊥ = cc in no) small

-- an abstract state with other parts describes a state if the stack has these parts
pub contains_parts : (f : Setting) (v : AbstractState) (t : State) (parts : List (Option StackPart))
    → HaveParts t.stack parts → Contains f v t → Contains f (record v { parts = parts }) t
contains_parts f v t parts have contains = record {
  registers = contains.registers;
  set = contains.set;
  kept = contains.kept;
  parts = have;
  maps = contains.maps;
  copies = contains.copies;
}

-- an element that is there is read the same whatever stands for one that is not
pub part_known : (parts : List (Option StackPart)) (i : ℕ) (other : Option StackPart) (p : StackPart)
    → i < length parts → get_or parts i other ≡ Some p → get_or parts i None ≡ Some p
part_known [] i other p there is = absurd (omega arith)
part_known (x ∷ xs) zero other p there is = is
part_known (x ∷ xs) (suc i) other p there is = part_known xs i other p (omega arith) is
