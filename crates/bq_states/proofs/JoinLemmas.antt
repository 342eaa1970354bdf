-- Joins of abstract states: what allows more contains no less, and what is sure of both sides is sure of the join.
use Rattle.std.proofs.Common.{◌≡◌, ◌≢◌, ℕ, ◌<◌, Bool, true, false, List, Option, Some, None, length, get_or, set, ◌+◌, ◌≤◌, sym, subst, arith, ◌∙◌, get_or-set_same, get_or-set_other, ◌⊎◌, inl, inr}
use Rattle.std.specs.Prelude.{slice_index_or}
use Rattle.std.proofs.lemmas.Bool.Decides.{eqb_tells}
use Rattle.bq_bpf.specs.declared.shape.MapShape.{MapShape}
use Rattle.bq_bpf.specs.Memory.{Setting, State}
use Rattle.bq_states.specs.declared.abstract_state.AbstractValue.{AbstractValue}
use Rattle.bq_states.specs.declared.abstract_state.AbstractState.{AbstractState}
use Rattle.std.proofs.lemmas.Bool.{cases_lt}
use Rattle.std.proofs.lemmas.List.{get_or_read}
use Rattle.bq_states.specs.Certainty.{Certainty, NoPointer, CertaintyHolds, Fact, Never, AtRegister, IsSetAt, IsPlainAt, Has}
use Rattle.bq_states.specs.Copies.{KeepsClasses}
use Rattle.bq_states.specs.Relations.{AreRelated}
use Rattle.bq_states.specs.Parts.{AllowsPart}
use Rattle.bq_states.proofs.CopyLemmas.{words_moved}
use Rattle.bq_states.specs.AbstractStates.{RegisterIsAsKnown, StackIsAsKnown, Contains, Allows}

-- what is known of a register is true too where more words are allowed
pub RegisterIsAsKnown-more : (shapes : List MapShape) (a b : Option AbstractValue) (v : Option ℕ)
    → Allows shapes a b → RegisterIsAsKnown shapes a v → RegisterIsAsKnown shapes b v
RegisterIsAsKnown-more shapes a None v more h = tt
RegisterIsAsKnown-more shapes None (Some b) v more h = absurd more
RegisterIsAsKnown-more shapes (Some a) (Some b) v more h = (h.0, h.1, more h.0 h.2)

-- what is known of eight bytes of the stack is true too where more words are allowed
pub StackIsAsKnown-more : (shapes : List MapShape) (a b : Option AbstractValue) (stack : ℕ → Option ℕ) (j : ℕ)
    → Allows shapes a b → StackIsAsKnown shapes a stack j → StackIsAsKnown shapes b stack j
StackIsAsKnown-more shapes a None stack j more h = tt
StackIsAsKnown-more shapes None (Some b) stack j more h = absurd more
StackIsAsKnown-more shapes (Some a) (Some b) stack j more h = (h.0, more h.0 h.1, h.2)

-- an abstract state that allows more contains no less
pub Contains-more : (f : Setting) (s : State) (v w : AbstractState)
    → ((k : ℕ) → Allows f.shapes (slice_index_or v.registers k None) (slice_index_or w.registers k None))
    → ((k : ℕ) → slice_index_or w.set k false ≡ true → slice_index_or v.set k false ≡ true)
    → ((k : ℕ) → Allows f.shapes (slice_index_or v.kept k None) (slice_index_or w.kept k None))
    → ((k : ℕ) → AllowsPart (slice_index_or v.parts k None) (slice_index_or w.parts k None))
    → KeepsClasses v.classes w.classes → ((word : ℕ → ℕ) → AreRelated word v.related → AreRelated word w.related)
    → Contains f v s
    → Contains f w s
Contains-more f s v w registers set kept parts classes related contains = record {
  registers = λ r. RegisterIsAsKnown-more f.shapes _ _ (s.register r) (registers r) (contains.registers r);
  set = λ i h. contains.set i (set i h);
  kept = λ j. StackIsAsKnown-more f.shapes _ _ s.stack j (kept j) (contains.kept j);
  parts = λ k. (parts k).has s.stack (contains.parts k);
  maps = contains.maps;
  copies = (
    contains.copies.0,
    words_moved v.classes w.classes s s contains.copies.0 (λ p some. (classes p some, λ n h. h)) contains.copies.1,
    related contains.copies.0 contains.copies.2,
  );
}

-- if a certainty that both sides have lasts at the places joined so far, it lasts with place i joined, by whether a place is i
stands_by : (s : Certainty) (old now other : List (Option AbstractValue)) (i : ℕ) (x a b : Option AbstractValue)
    → i < length now → i < length other → a ≡ get_or now i a → b ≡ get_or other i b → get_or now i None ≡ get_or old i None
    → (CertaintyHolds s a → CertaintyHolds s b → CertaintyHolds s x)
    → ((k : ℕ) → k < i → CertaintyHolds s (get_or old k None) → CertaintyHolds s (get_or other k None) →
    CertaintyHolds s (get_or now k None))
    → (k : ℕ) (t : Bool) → k < i + 1 → ((t ≡ true) × (k ≡ i)) ⊎ ((t ≡ false) × (k ≢ i)) → CertaintyHolds s (get_or old k None)
    → CertaintyHolds s (get_or other k None)
    → CertaintyHolds s (get_or (set now i x) k None)
stands_by s old now other i x a b lt lt' is_a is_b same both before k t le (inr (_, other_k)) p q =
    subst (λ (v : Option AbstractValue). CertaintyHolds s v) (sym (get_or-set_other now i k x None other_k)) (before k (omega arith) p q)
stands_by s old now other i x a b lt lt' is_a is_b same both before k t le (inl (_, e)) p q =
    let read_a : get_or old k None ≡ a = rw e (sym same ∙ sym (get_or_read now i a lt is_a None)) in
    let read_b : get_or other k None ≡ b = rw e (sym (get_or_read other i b lt' is_b None)) in
    let there : get_or (set now i x) k None ≡ x = rw e (get_or-set_same now i x None lt) in
    subst (λ (v : Option AbstractValue). CertaintyHolds s v) (sym there)
    (both (subst (λ (v : Option AbstractValue). CertaintyHolds s v) read_a p)
    (subst (λ (v : Option AbstractValue). CertaintyHolds s v) read_b q))

-- if a certainty that both sides have lasts at the places before i, it lasts at those up to i when place i is joined
pub stands_more : (s : Certainty) (old now other : List (Option AbstractValue)) (i : ℕ) (x a b : Option AbstractValue)
    → i < length now → i < length other → a ≡ get_or now i a → b ≡ get_or other i b → get_or now i None ≡ get_or old i None
    → (CertaintyHolds s a → CertaintyHolds s b → CertaintyHolds s x)
    → ((k : ℕ) → k < i → CertaintyHolds s (get_or old k None) → CertaintyHolds s (get_or other k None) →
    CertaintyHolds s (get_or now k None))
    → (k : ℕ) → k < i + 1 → CertaintyHolds s (get_or old k None) → CertaintyHolds s (get_or other k None)
    → CertaintyHolds s (get_or (set now i x) k None)
stands_more s old now other i x a b lt lt' is_a is_b same both before k le p q =
    stands_by s old now other i x a b lt lt' is_a is_b same both before k _ le (eqb_tells k i) p q

-- if a certainty that both sides have lasts at the places before i and the rest is unchanged, it lasts at any place
stands_all_by : (s : Certainty) (old now other : List (Option AbstractValue)) (i : ℕ)
    → ((k : ℕ) → i ≤ k → get_or now k None ≡ get_or old k None)
    → ((k : ℕ) → k < i → CertaintyHolds s (get_or old k None) → CertaintyHolds s (get_or other k None) →
    CertaintyHolds s (get_or now k None))
    → (k : ℕ) → (k < i) ⊎ (i ≤ k) → CertaintyHolds s (get_or old k None) → CertaintyHolds s (get_or other k None)
    → CertaintyHolds s (get_or now k None)
stands_all_by s old now other i rest before k (inl lt) p q = before k lt p q
stands_all_by s old now other i rest before k (inr le) p q = subst (λ (v : Option AbstractValue). CertaintyHolds s v) (sym (rest k le)) p

-- if a certainty that both sides have lasts at the places before i and the rest is unchanged, it lasts at all places
pub stands_all : (s : Certainty) (old now other : List (Option AbstractValue)) (i : ℕ)
    → ((k : ℕ) → i ≤ k → get_or now k None ≡ get_or old k None)
    → ((k : ℕ) → k < i → CertaintyHolds s (get_or old k None) → CertaintyHolds s (get_or other k None) →
    CertaintyHolds s (get_or now k None))
    → (k : ℕ) → CertaintyHolds s (get_or old k None) → CertaintyHolds s (get_or other k None)
    → CertaintyHolds s (get_or now k None)
stands_all s old now other i rest before k p q = stands_all_by s old now other i rest before k (cases_lt k i) p q

-- what is sure of both abstract states is sure of one that has what both have
pub Has-both : (x : Fact) (a b v : AbstractState)
    → ((s : Certainty) (k : ℕ) → CertaintyHolds s (slice_index_or a.registers k None) →
    CertaintyHolds s (slice_index_or b.registers k None) → CertaintyHolds s (slice_index_or v.registers k None))
    → ((k : ℕ) → slice_index_or a.set k false ≡ true → slice_index_or b.set k false ≡ true → slice_index_or v.set k false ≡ true)
    → ((s : Certainty) (k : ℕ) → CertaintyHolds s (slice_index_or a.kept k None) →
    CertaintyHolds s (slice_index_or b.kept k None) → CertaintyHolds s (slice_index_or v.kept k None))
    → Has x a → Has x b
    → Has x v
Has-both Never a b v registers set kept p q = p
Has-both (AtRegister s r) a b v registers set kept p q = registers s r p q
Has-both (IsSetAt i) a b v registers set kept p q = set i p q
Has-both (IsPlainAt j) a b v registers set kept p q = kept NoPointer j p q
