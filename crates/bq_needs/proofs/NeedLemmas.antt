-- What is said of a need is lacking, and where nothing is said nothing is lacking.
use Rattle.std.proofs.lemmas.Bool.{cases_lt}
use Rattle.std.proofs.Common.{◌≡◌, ℕ, pos, ◌+◌, ◌<◌, true, false, Option, Some, None, inl, inr, slice_get, slice_index_or, sym, ◌∙◌, ap, subst, arith}
use Rattle.std.proofs.lemmas.Option.{same_Some}
use Rattle.bq_insn.specs.declared.Insn.{Insn}
use Rattle.bq_states.specs.Certainty.{Pointer, CertaintyHolds, CertaintyHoldsAt}
use Rattle.bq_states.specs.declared.abstract_state.ValueKind.TheVariants as kind
use Rattle.bq_states.specs.declared.abstract_state.AbstractValue.{AbstractValue}
use Rattle.bq_states.specs.declared.abstract_state.AbstractState.{AbstractState}
use Rattle.bq_policy_file.specs.declared.policy_source.PolicySource.{PolicySource}
use Rattle.bq_verify.specs.Subjects.{context_size_of}
use Rattle.bq_needs.specs.Accesses.{IsAccessShown, Lacks}
use Rattle.bq_needs.specs.Arguments.{PointsTo, PointsToValue}
use Rattle.bq_needs.specs.Needs.{AreNumbers, IsFirstPointer, IsGoodAccess}
use Rattle.bq_bpf.specs.declared.shape.MapShape.{MapShape}
use Rattle.bq_needs.specs.Operands.{access_of, known_in, works_on}
use Rattle.bq_needs.specs.declared.accesses.Lack.TheVariants as lack
use Rattle.bq_needs.specs.declared.accesses.Lack.{Lack}
use Rattle.bq_needs.specs.declared.memory_access.MemoryAccess.{MemoryAccess}

-- what is lacking of an access is not shown of it
pub lacks_not_shown : (p : PolicySource) (state : AbstractState) (a : MemoryAccess) (k : AbstractValue) (why : Lack)
    → Lacks p state a k why → IsAccessShown p state a k → ⊥
lacks_not_shown p state a k lack.Number of shown = let e = rw of at shown.bound_is in cc
lacks_not_shown p state a k lack.Answer (map, of) shown = let e = rw of at shown.bound_is in cc
lacks_not_shown p state a k lack.MovedAnswer ((map, of), moved) shown = let e = rw of at shown.bound_is in cc
lacks_not_shown p state a k lack.Reference (map, of) shown = let e = rw of at shown.bound_is in cc
lacks_not_shown p state a k lack.WritesContext (of, writes) shown = shown.writable writes of
lacks_not_shown p state a k lack.BeyondContext (of, read, (o, within, beyond)) shown =
    let bound : context_size_of p.form ≡ shown.bound = same_Some _ _ (rw of at shown.bound_is) in
    let below = shown.stays o within in
    omega arith
lacks_not_shown p state a k lack.BeyondStack (of, (o, within, beyond)) shown =
    let bound : 512 ≡ shown.bound = same_Some _ _ (rw of at shown.bound_is) in
    let below = shown.stays o within in
    omega arith
lacks_not_shown p state a k lack.ReadsUnset (of, read, stays, (i, from, to, unset)) shown = let set = shown.set read of i from to in cc
lacks_not_shown p state a k (lack.BeyondValue map size) (of, is, (o, within, beyond)) shown =
    let bound : size ≡ shown.bound = same_Some _ _ (sym is ∙ rw of at shown.bound_is) in
    let below = shown.stays o within in
    omega arith
lacks_not_shown p state a k lack.InNoMap (map, of, is) shown = let e = sym is ∙ rw of at shown.bound_is in cc

-- an access that is shown by what is known of its register is good
pub shown_good : (p : PolicySource) (state : AbstractState) (insn : Insn) (a : MemoryAccess) (k : AbstractValue)
    → access_of insn ≡ Some a → known_in state a.register ≡ Some k → IsAccessShown p state a k
    → IsGoodAccess p state insn
shown_good p state insn a k is known shown b other =
    let same : a ≡ b = same_Some a b (sym is ∙ other) in
    subst (λ (x : MemoryAccess). (k : AbstractValue) × (known_in state x.register ≡ Some k) × IsAccessShown p state x k) same (k, known, shown)

-- a register that points to bytes of which something is lacking does not point to what may be read
pub lacking_not_pointing : (p : PolicySource) (state : AbstractState) (r bytes : ℕ) (k : AbstractValue) (why : Lack)
    → known_in state r ≡ Some k → Lacks p state (record { writes = false; bytes = bytes; register = r; off = pos 0 }) k why
    → ¬ (PointsTo p state r bytes)
lacking_not_pointing p state r bytes k why known lacks (other, is, shown) =
    let a : MemoryAccess = record { writes = false; bytes = bytes; register = r; off = pos 0 } in
    let same : other ≡ k = same_Some _ _ (sym is ∙ known) in
    lacks_not_shown p state a k why lacks (subst (λ (x : AbstractValue). IsAccessShown p state a x) same shown)

-- a pointer that is worked on is no number
pub pointer_no_number : (state : AbstractState) (insn : Insn) (r : ℕ) (k : AbstractValue)
    → IsFirstPointer state insn r k → ¬ (AreNumbers state insn)
pointer_no_number state insn r k first numbers =
    first.pointer.no_number (numbers r k first.pointer.below first.pointer.is_worked_on first.pointer.is_known)

-- if all that is worked on in the registers below one is a number, and in that one too, so it is below the next
pub one_more : (state : AbstractState) (insn : Insn) (n : ℕ)
    → ((r : ℕ) (k : AbstractValue) → r < n → works_on insn r ≡ true → known_in state r ≡ Some k → k.kind ≡ kind.Number)
    → ((k : AbstractValue) → works_on insn n ≡ true → known_in state n ≡ Some k → k.kind ≡ kind.Number)
    → (r : ℕ) (k : AbstractValue) → r < n + 1 → works_on insn r ≡ true → known_in state r ≡ Some k
    → k.kind ≡ kind.Number
one_more state insn n before here r k below works known =
    elim (cases_lt r n) [
      | inl lt ↦ before r k lt works known
      | inr ge ↦ let same : r ≡ n = omega arith in here k (rw same at works) (rw same at known)
    ]

-- a reference is to one map, and so what is known of a register refers to at most one map:
same_map : (m n : ℕ) → kind.Map m ≡ kind.Map n → m ≡ n
same_map m n e = cc

same_standing : (m n : ℕ) (o : Option AbstractValue)
    → CertaintyHolds (Pointer (kind.Map m) 0) o → CertaintyHolds (Pointer (kind.Map n) 0) o → m ≡ n
same_standing m n None first second = absurd first
same_standing m n (Some k) first second = same_map m n (sym first.0 ∙ second.0)

-- register 1 names one map
pub one_map : (state : AbstractState) (m n : ℕ) → CertaintyHoldsAt (Pointer (kind.Map m) 0) state 1
    → CertaintyHoldsAt (Pointer (kind.Map n) 0) state 1
    → m ≡ n
one_map state m n first second = same_standing m n (slice_index_or state.registers 1 None) first second

-- register 3 points to a value of the map that register 1 names
pub value_pointed : (p : PolicySource) (state : AbstractState) (map : ℕ) (shape : MapShape) (bytes : ℕ)
    → CertaintyHoldsAt (Pointer (kind.Map map) 0) state 1 → slice_get p.form.shapes.items map ≡ Some shape
    → bytes ≡ shape.value_size → PointsTo p state 3 bytes
    → PointsToValue p state
value_pointed p state map shape bytes names is size points = (map, shape, names, is, subst (λ (n : ℕ). PointsTo p state 3 n) size points)

-- where register 3 points to a value of a map, it points to this many bytes
pub value_points : (p : PolicySource) (state : AbstractState) (map : ℕ) (shape : MapShape) (bytes : ℕ)
    → CertaintyHoldsAt (Pointer (kind.Map map) 0) state 1 → slice_get p.form.shapes.items map ≡ Some shape
    → bytes ≡ shape.value_size → PointsToValue p state
    → PointsTo p state 3 bytes
value_points p state map shape bytes names is size (m, given, named, there, points) =
    let same : m ≡ map = one_map state m map named names in
    let one : given ≡ shape = same_Some given shape (sym there ∙ ap (λ (n : ℕ). slice_get p.form.shapes.items n) same ∙ is) in
    subst (λ (n : ℕ). PointsTo p state 3 n) (ap (λ (s : MapShape). s.value_size) one ∙ sym size) points
