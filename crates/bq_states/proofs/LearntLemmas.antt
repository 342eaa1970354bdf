-- What a branch shows of one place is right of its copies, and what stays sure of an abstract state that learnt it.
use Rattle.std.proofs.Common.{◌≡◌, ◌≢◌, ℕ, ◌+◌, ◌*◌, ◌^◌, ◌<◌, ◌≤◌, Bool, true, false, List, [], ◌∷◌, Option, Some, None, length, get_or, set, refl, sym, subst, ap, arith, ◌∙◌, get_or-set_same, get_or-set_other, ◌⊎◌, inl, inr}
use Rattle.std.specs.Prelude.{slice_index, slice_index_or, slice_set}
use Rattle.std.specs.Int.{byte_at as byte_of}
use Rattle.std.proofs.lemmas.Bool.{cases_lt}
use Rattle.std.proofs.lemmas.Bool.Decides.{eqb_tells}
use Rattle.std.proofs.lemmas.List.{get_or_past, get_or_read}
use Rattle.std.proofs.lemmas.Option.{same_Some}
use Rattle.bq_bpf.specs.declared.shape.MapShape.{MapShape}
use Rattle.bq_bpf.specs.Memory.{Setting, State, number_of}
use Rattle.bq_ranges.specs.declared.range.Range.{Range}
use Rattle.bq_ranges.specs.Within.{Within}
use Rattle.bq_states.specs.declared.abstract_state.ValueKind.TheVariants.{Number}
use Rattle.bq_states.specs.declared.abstract_state.AbstractValue.{AbstractValue}
use Rattle.bq_states.specs.declared.abstract_state.AbstractState.{AbstractState}
use Rattle.bq_states.specs.declared.relations.Related.{Related}
use Rattle.bq_states.specs.Copies.{AreCopies, HasWord}
use Rattle.bq_states.specs.Relations.{IsRelatedBy}
use Rattle.bq_states.specs.Certainty.{Certainty, CertaintyHolds, NoPointer, Fact, Never, AtRegister, IsSetAt, IsPlainAt, Has}
use Rattle.bq_states.specs.Learnt.{HasLearnt, IsLasting, IsLastingWord, IsSharper, Sharpens, SharpensBy}
use Rattle.bq_states.specs.AbstractStates.{Contains, Describes, RegisterIsAsKnown, StackIsAsKnown}
use Rattle.bq_states.proofs.LearnLemmas.{learn_at}
use Rattle.bq_states.proofs.WordLemmas.{number_within, word_fits}
use Rattle.bq_states.proofs.CopyLemmas.{number_of_word}

-- a relation of old and new abstract values at each place still holds after one place is set, if it holds there
pub set_each : (R : ℕ → Option AbstractValue → Option AbstractValue → Type 0) (old now : List (Option AbstractValue)) (i : ℕ)
    (x a : Option AbstractValue)
    → i < length now → a ≡ get_or now i a → get_or now i None ≡ get_or old i None → R i a x
    → ((k : ℕ) → R k (get_or old k None) (get_or now k None))
    → (k : ℕ) → R k (get_or old k None) (get_or (set now i x) k None)
set_each R old now i x a lt is same here each k = at _ (eqb_tells k i)
  where
    at : (b : Bool) → ((b ≡ true) × (k ≡ i)) ⊎ ((b ≡ false) × (k ≢ i)) → R k (get_or old k None) (get_or (set now i x) k None)
    at b (inl (_, e)) =
        let read : get_or old i None ≡ a = sym same ∙ sym (get_or_read now i a lt is None) in
        let there : get_or (set now i x) i None ≡ x = get_or-set_same now i x None lt in
        let first : R i (get_or old i None) (get_or (set now i x) i None) =
        subst (λ (v : Option AbstractValue). R i v (get_or (set now i x) i None)) (sym read)
        (subst (λ (v : Option AbstractValue). R i a v) (sym there) here) in
        subst (λ (n : ℕ). R n (get_or old n None) (get_or (set now i x) n None)) (sym e) first
    at b (inr (_, other)) =
        subst (λ (v : Option AbstractValue). R k (get_or old k None) v) (sym (get_or-set_other now i k x None other)) (each k)

-- two functions that agree below 8 make the same list of eight numbers
eight : (f g : ℕ → ℕ) → ((i : ℕ) → i < 8 → f i ≡ g i)
    → (f 0 ∷ f 1 ∷ f 2 ∷ f 3 ∷ f 4 ∷ f 5 ∷ f 6 ∷ f 7 ∷ []) ≡ (g 0 ∷ g 1 ∷ g 2 ∷ g 3 ∷ g 4 ∷ g 5 ∷ g 6 ∷ g 7 ∷ [])
eight f g h =
    rw (
      h 0 (omega arith),
      h 1 (omega arith),
      h 2 (omega arith),
      h 3 (omega arith),
      h 4 (omega arith),
      h 5 (omega arith),
      h 6 (omega arith),
      h 7 (omega arith),
    ) refl

-- two 64-bit words with the same eight bytes are equal
pub same_bytes : (m n : ℕ) → m < 2 ^ 64 → n < 2 ^ 64 → ((i : ℕ) → i < 8 → byte_of i m ≡ byte_of i n) → m ≡ n
same_bytes m n p q h = sym (number_of_word m p) ∙ ap number_of (eight (λ i. byte_of i m) (λ i. byte_of i n) h) ∙ number_of_word n q

-- a register that holds a word which the learnt value describes is as the sharper value says
RegisterIsAsKnown-sharper : (shapes : List MapShape) (learnt : AbstractValue) (n : ℕ)
    (old new : Option AbstractValue) (v : Option ℕ)
    → IsSharper learnt old new → v ≡ Some n → Describes shapes learnt n → RegisterIsAsKnown shapes old v
    → RegisterIsAsKnown shapes new v
RegisterIsAsKnown-sharper shapes learnt n old None v sharper is d h = tt
RegisterIsAsKnown-sharper shapes learnt n None (Some b) v sharper is d h = absurd sharper
RegisterIsAsKnown-sharper shapes learnt n (Some a) (Some b) v sharper is d h =
    let same : n ≡ h.0 = same_Some n h.0 (sym is ∙ h.1) in
    (h.0, h.1, sharper shapes h.0 (subst (λ (k : ℕ). Describes shapes learnt k) same d) h.2)

-- a register of which nothing was known has nothing known of it by a sharper value
RegisterIsAsKnown-none : (shapes : List MapShape) (learnt : AbstractValue) (old new : Option AbstractValue) (v : Option ℕ)
    → old ≡ None → IsSharper learnt old new → RegisterIsAsKnown shapes new v
RegisterIsAsKnown-none shapes learnt old None v none sharper = tt
RegisterIsAsKnown-none shapes learnt old (Some b) v none sharper =
    absurd
    (let no : IsSharper learnt None (Some b) = subst (λ (k : Option AbstractValue). IsSharper learnt k (Some b)) none sharper in no)

-- a slot that holds a word which the learnt value describes is as the sharper value says
StackIsAsKnown-sharper : (shapes : List MapShape) (learnt : AbstractValue) (n : ℕ) (old new : Option AbstractValue)
    (stack : ℕ → Option ℕ) (j : ℕ)
    → IsSharper learnt old new → n < 2 ^ 64 → ((i : ℕ) → i < 8 → stack (8 * j + i) ≡ Some (byte_of i n))
    → Describes shapes learnt n → StackIsAsKnown shapes old stack j
    → StackIsAsKnown shapes new stack j
StackIsAsKnown-sharper shapes learnt n old None stack j sharper small bytes d h = tt
StackIsAsKnown-sharper shapes learnt n None (Some b) stack j sharper small bytes d h = absurd sharper
StackIsAsKnown-sharper shapes learnt n (Some a) (Some b) stack j sharper small bytes d h =
    let same : h.0 ≡ n = same_bytes h.0 n (word_fits shapes a h.0 h.1) small (λ i lt. same_Some _ _ (sym (h.2 i lt) ∙ bytes i lt)) in
    (n, sharper shapes n d (subst (λ (k : ℕ). Describes shapes a k) same h.1), bytes)

module _ (f : Setting) (v : AbstractState) (s : State) (learnt : AbstractValue) (register n : ℕ) (contains : Contains f v s)
    (is : s.register register ≡ Some n) (d : Describes f.shapes learnt n) where
  -- a register of a class holds that class's word, which so is as told
  pub learnt_class : register < 11 → slice_index v.classes register ≢ 0
      → Describes f.shapes learnt (contains.copies.0 (slice_index v.classes register))
  learnt_class low some =
      subst (λ (k : ℕ). Describes f.shapes learnt k)
      (same_Some n (contains.copies.0 (slice_index v.classes register)) (sym is ∙ (contains.copies.1 register some).0 low)) d

  -- the state is still described if more is known of a register of no class
  pub contains_sharper_one : (a x : Option AbstractValue) → register < length v.registers → a ≡ get_or v.registers register a
      → IsSharper learnt a x
      → Contains f (record v { registers = slice_set v.registers register x }) s
  contains_sharper_one a x there read sharper = record {
    registers = λ r. each r contains.registers;
    set = contains.set;
    kept = contains.kept;
    parts = contains.parts;
    maps = contains.maps;
    copies = contains.copies;
  }
    where
      each : (r : ℕ) → ((k : ℕ) → RegisterIsAsKnown f.shapes (get_or v.registers k None) (s.register k))
          → RegisterIsAsKnown f.shapes (get_or (set v.registers register x) r None) (s.register r)
      each r all =
          set_each (λ k old new. RegisterIsAsKnown f.shapes old (s.register k) → RegisterIsAsKnown f.shapes new (s.register k))
          v.registers v.registers register x a there read refl
          (λ h. RegisterIsAsKnown-sharper f.shapes learnt n a x (s.register register) sharper is d h) (λ k h. h) r (all r)

module _ (f : Setting) (v : AbstractState) (s : State) (learnt : AbstractValue) (contains : Contains f v s) (class : ℕ)
    (learnt_word : Describes f.shapes learnt (contains.copies.0 class)) where
  -- the state is still described if more is known of all places of a class, whose word stays
  pub contains_sharper_all : (registers kept : List (Option AbstractValue))
      → class ≢ 0 → length v.registers ≤ 11
      → ((k : ℕ) → IsSharper learnt (slice_index_or v.registers k None) (slice_index_or registers k None))
      → ((k : ℕ) → slice_index v.classes (0 + k) ≢ class → slice_index_or registers k None ≡ slice_index_or v.registers k None)
      → ((k : ℕ) → IsSharper learnt (slice_index_or v.kept k None) (slice_index_or kept k None))
      → ((k : ℕ) → slice_index v.classes (11 + k) ≢ class → slice_index_or kept k None ≡ slice_index_or v.kept k None)
      → (is : Contains f (record v { registers = registers; kept = kept }) s) × (is.copies.0 ≡ contains.copies.0)
  contains_sharper_all registers kept some short sharper others sharper' others' = (
    record {
      registers = λ r. register_at r _ (eqb_tells (slice_index v.classes (0 + r)) class) (cases_lt r 11);
      set = contains.set;
      kept = λ j. slot_at j _ (eqb_tells (slice_index v.classes (11 + j)) class);
      parts = contains.parts;
      maps = contains.maps;
      copies = contains.copies;
    },
    refl,
  )
    where
      word : ℕ
      word = contains.copies.0 class

      has : (p : ℕ) → slice_index v.classes p ≡ class → HasWord s p word
      has p e = subst (λ (k : ℕ). HasWord s p (contains.copies.0 k)) e (contains.copies.1 p (λ none. some (sym e ∙ none)))

      register_at : (r : ℕ) (b : Bool)
          → ((b ≡ true) × (slice_index v.classes (0 + r) ≡ class)) ⊎ ((b ≡ false) × (slice_index v.classes (0 + r) ≢ class))
          → (r < 11) ⊎ (11 ≤ r)
          → RegisterIsAsKnown f.shapes (slice_index_or registers r None) (s.register r)
      register_at r b either (inr past) =
          RegisterIsAsKnown-none f.shapes learnt (slice_index_or v.registers r None) (slice_index_or registers r None)
          (s.register r) (get_or_past v.registers r None (omega arith)) (sharper r)
      register_at r b (inl (_, e)) (inl lt) =
          let same : slice_index v.classes r ≡ class =
          subst (λ (p : ℕ). slice_index v.classes p ≡ class) (let plain : 0 + r ≡ r = omega arith in plain) e in
          RegisterIsAsKnown-sharper f.shapes learnt word _ _ (s.register r) (sharper r) ((has r same).0 lt) learnt_word
          (contains.registers r)
      register_at r b (inr (_, other)) (inl lt) =
          subst (λ (k : Option AbstractValue). RegisterIsAsKnown f.shapes k (s.register r)) (sym (others r other))
          (contains.registers r)

      slot_at : (j : ℕ) (b : Bool)
          → ((b ≡ true) × (slice_index v.classes (11 + j) ≡ class)) ⊎ ((b ≡ false) × (slice_index v.classes (11 + j) ≢ class))
          → StackIsAsKnown f.shapes (slice_index_or kept j None) s.stack j
      slot_at j b (inl (_, e)) =
          let bytes = (has (11 + j) e).1 j refl in
          StackIsAsKnown-sharper f.shapes learnt word _ _ s.stack j (sharper' j) bytes.0 bytes.1 learnt_word (contains.kept j)
      slot_at j b (inr (_, other)) =
          subst (λ (k : Option AbstractValue). StackIsAsKnown f.shapes k s.stack j) (sym (others' j other)) (contains.kept j)

-- a lasting fact stays true when registers and slots become better known, if their lasting certainties do
pub has_sharper : (x : Fact) (v : AbstractState) (registers kept : List (Option AbstractValue))
    → ((s : Certainty) (k : ℕ) → IsLastingWord s → CertaintyHolds s (slice_index_or v.registers k None) →
    CertaintyHolds s (slice_index_or registers k None))
    → ((s : Certainty) (k : ℕ) → IsLastingWord s → CertaintyHolds s (slice_index_or v.kept k None) →
    CertaintyHolds s (slice_index_or kept k None))
    → IsLasting x → Has x v
    → Has x (record v { registers = registers; kept = kept })
has_sharper Never v registers kept stands stands' lasting has = has
has_sharper (AtRegister s r) v registers kept stands stands' lasting has = stands s r lasting has
has_sharper (IsSetAt i) v registers kept stands stands' lasting has = has
has_sharper (IsPlainAt j) v registers kept stands stands' lasting has = stands' NoPointer j tt has

-- an abstract state that learns of the left operand what describes its word still describes the state
pub contains_left : (f : Setting) (v : AbstractState) (s : State) (dst n : ℕ) (left : AbstractValue)
    → dst < length v.registers → s.register dst ≡ Some n → Contains f v s → Describes f.shapes left n
    → Contains f (record v { registers = slice_set v.registers dst (Some left) }) s
contains_left f v s dst n left there is contains d = record {
  registers = λ r. learn_at f.shapes v.registers s.register dst n left r _ there is (contains.registers r) d (eqb_tells r dst);
  set = contains.set;
  kept = contains.kept;
  parts = contains.parts;
  maps = contains.maps;
  copies = contains.copies;
}

-- a certainty of a register lasts from the old registers to the new if register dst of both is set to the left operand
learnt_at : (s : Certainty) (old new : List (Option AbstractValue)) (dst r : ℕ) (left : AbstractValue) (b : Bool)
    → dst < length old → dst < length new → ((b ≡ true) × (r ≡ dst)) ⊎ ((b ≡ false) × (r ≢ dst))
    → (CertaintyHolds s (get_or old r None) → CertaintyHolds s (get_or new r None))
    → CertaintyHolds s (get_or (set old dst (Some left)) r None)
    → CertaintyHolds s (get_or (set new dst (Some left)) r None)
learnt_at s old new dst r left b there there' (inl (_, e)) more has =
    let before : get_or (set old dst (Some left)) r None ≡ Some left = rw (e, get_or-set_same old dst (Some left) None there) refl in
    let after : get_or (set new dst (Some left)) r None ≡ Some left = rw (e, get_or-set_same new dst (Some left) None there') refl in
    subst (λ (v : Option AbstractValue). CertaintyHolds s v) (sym after)
    (subst (λ (v : Option AbstractValue). CertaintyHolds s v) before has)
learnt_at s old new dst r left b there there' (inr (_, other)) more has =
    subst (λ (v : Option AbstractValue). CertaintyHolds s v) (sym (get_or-set_other new dst r (Some left) None other))
    (more (subst (λ (v : Option AbstractValue). CertaintyHolds s v) (get_or-set_other old dst r (Some left) None other) has))

-- a lasting fact that holds once the left operand is learnt still holds once it is learnt in the later abstract state
pub has_left_learnt : (x : Fact) (v w : AbstractState) (dst : ℕ) (left : AbstractValue)
    → dst < length v.registers → dst < length w.registers → ((y : Fact) → IsLasting y → Has y v → Has y w) → IsLasting x
    → HasLearnt x v dst left
    → Has x (record w { registers = slice_set w.registers dst (Some left) })
has_left_learnt Never v w dst left there there' more lasting has = has
has_left_learnt (AtRegister s r) v w dst left there there' more lasting has =
    learnt_at s v.registers w.registers dst r left _ there there' (eqb_tells r dst) (more (AtRegister s r) lasting) has
has_left_learnt (IsSetAt i) v w dst left there there' more lasting has = more (IsSetAt i) tt has
has_left_learnt (IsPlainAt j) v w dst left there there' more lasting has = more (IsPlainAt j) tt has

-- an abstract state with other classes and relations describes a state in which these are right
pub contains_copies : (f : Setting) (v : AbstractState) (s : State) (classes : List ℕ) (related : List (Option Related))
    → AreCopies classes related s → Contains f v s
    → Contains f (record v { classes = classes; related = related }) s
contains_copies f v s classes related copies contains = record {
  registers = contains.registers;
  set = contains.set;
  kept = contains.kept;
  parts = contains.parts;
  maps = contains.maps;
  copies = copies;
}

-- a register of a class, if it is known, is known to hold the class's word
class_known : (f : Setting) (v : AbstractState) (s : State) (contains : Contains f v s) (register : ℕ) (k : AbstractValue)
    → register < 11 → slice_index v.classes register ≢ 0 → slice_index_or v.registers register None ≡ Some k
    → Describes f.shapes k (contains.copies.0 (slice_index v.classes register))
class_known f v s contains register k low some known =
    let held : RegisterIsAsKnown f.shapes (Some k) (s.register register) = rw known at (contains.registers register) in
    let same : held.0 ≡ contains.copies.0 (slice_index v.classes register) =
    same_Some _ _ (sym held.1 ∙ (contains.copies.1 register some).0 low) in
    subst (λ (n : ℕ). Describes f.shapes k n) same held.2

-- the word of a register's class is in a range that has each word that the register may hold
pub class_within : (f : Setting) (v : AbstractState) (s : State) (contains : Contains f v s)
    (register : ℕ) (x : Option AbstractValue) (r : Range)
    → register < 11 → slice_index v.classes register ≢ 0
    → x ≡ slice_index_or v.registers register None → ((n : ℕ) → n < 2 ^ 64 → x ≡ None → Within r n)
    → ((shapes : List MapShape) (k : AbstractValue) (n : ℕ) → x ≡ Some k → Describes shapes k n → Within r n)
    → contains.copies.0 (slice_index v.classes register) < 2 ^ 64
    → Within r (contains.copies.0 (slice_index v.classes register))
class_within f v s contains register None r low some is any known small =
    any (contains.copies.0 (slice_index v.classes register)) small refl
class_within f v s contains register (Some k) r low some is any known small =
    known f.shapes k (contains.copies.0 (slice_index v.classes register)) refl (class_known f v s contains register k low some (sym is))

-- a relation that is known sharpens both its words
pub sharpens_more : (learnt : AbstractValue) (class i : ℕ) (known : Related) (v w x y : AbstractState)
    → learnt.kind ≡ Number → slice_index_or w.related i None ≡ Some known → Sharpens learnt class v w
    → SharpensBy known learnt.offset class w x → SharpensBy known learnt.offset class x y
    → Sharpens learnt class v y
sharpens_more learnt class i known v w x y number there before left right f s was d =
    let first = before f s was d in
    let within : Within learnt.offset (was.copies.0 class) = number_within f.shapes learnt (was.copies.0 class) number d in
    let related : IsRelatedBy first.0.copies.0 (Some known) =
    subst (λ (r : Option Related). IsRelatedBy first.0.copies.0 r) there (first.0.copies.2 i) in
    let second = left f s first.0 related (subst (λ (word : ℕ → ℕ). Within learnt.offset (word class)) (sym first.1) within) in
    let third =
    right f s second.0 (subst (λ (word : ℕ → ℕ). IsRelatedBy word (Some known)) (sym second.1) related)
    (subst (λ (word : ℕ → ℕ). Within learnt.offset (word class)) (sym (second.1 ∙ first.1)) within) in
    (third.0, third.1 ∙ second.1 ∙ first.1)
