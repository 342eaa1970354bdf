-- Sums of a register's word and a constant.
use Rattle.std.proofs.Common.{◌≡◌, ◌≢◌, ℕ, ◌+◌, ◌%◌, ◌^◌, ◌<◌, List, Option, Some, length, refl, sym, subst, arith, ◌∙◌}
use Rattle.std.specs.Prelude.{slice_index, slice_set}
use Rattle.std.proofs.lemmas.Option.{same_Some}
use Rattle.bq_insn.specs.declared.Insn.{Insn}
use Rattle.bq_insn.specs.Slots.{slots_of}
use Rattle.bq_insn.specs.declared.Width.TheVariants.{W32}
use Rattle.bq_insn.specs.declared.Operation.TheVariants.{Add}
use Rattle.bq_bpf.specs.Meaning.{alu_result, operate}
use Rattle.bq_bpf.specs.declared.shape.MapShape.{MapShape}
use Rattle.bq_bpf.specs.Memory.{Setting, State}
use Rattle.bq_bpf.specs.Steps.{Does, put}
use Rattle.bq_states.specs.declared.abstract_state.AbstractValue.{AbstractValue}
use Rattle.bq_states.specs.declared.abstract_state.AbstractState.{AbstractState}
use Rattle.bq_states.specs.declared.relations.Related.{Related}
use Rattle.bq_states.specs.declared.relations.Relation.TheVariants.{Sum}
use Rattle.bq_states.specs.AbstractStates.{Describes, Contains, Suits, knowing}
use Rattle.bq_states.specs.Copies.{AreCopies}
use Rattle.bq_states.specs.Relations.{Relates}
use Rattle.bq_states.proofs.CopyLemmas.{put_here, words_put}
use Rattle.bq_states.proofs.WordLemmas.{word_fits}
use Rattle.bq_transfer.proofs.PutLemmas.{contains_put}
use Rattle.bq_transfer.specs.Transfers.{Transfers}

-- a sum of 32 bits that has no more of them
pub half_sum_is : (x y : ℕ) → x + y < 2 ^ 32 → alu_result W32 Add x y ≡ (x + y) % 2 ^ 64
unfolding operate
half_sum_is x y small = let e : alu_result W32 Add x y ≡ (x % 2 ^ 32 + y % 2 ^ 32) % 2 ^ 32 = refl in omega (arith, e)

-- the word that a register had is that of its class
class_word : (f : Setting) (v : AbstractState) (s : State) (dst class x : ℕ) (contains : Contains f v s)
    → dst < 11 → class ≡ slice_index v.classes dst → s.register dst ≡ Some x → class ≢ 0
    → x ≡ contains.copies.0 class
class_word f v s dst class x contains low is there some =
    let has = contains.copies.1 dst (λ e. some (is ∙ e)) in
    rw is (same_Some x (contains.copies.0 (slice_index v.classes dst)) (sym there ∙ has.0 low))

-- an instruction that adds a constant to a register transfers the abstract state on, to classes of which it is known
pub carries_sum : (shapes : List MapShape) (context_length : ℕ) (insn : Insn) (v : AbstractState) (dst class more : ℕ)
    (k : AbstractValue) (classes : List ℕ) (related : List (Option Related))
    → dst < length v.registers → dst < 11 → class ≡ slice_index v.classes dst
    → ((f : Setting) (s : State) → Suits shapes context_length f → Contains f v s →
    (x : ℕ) × (n : ℕ) × (s.register dst ≡ Some x) × Does f insn s (put s (slots_of insn) dst n) × Describes f.shapes k n
    × (x < 2 ^ 64) × (n ≡ (x + more) % 2 ^ 64))
    → ((t : State) (a : ℕ) (copies : AreCopies (slice_set v.classes dst 0) v.related t) → t.register dst ≡ Some a →
    (class ≢ 0 → Relates (Sum more) a (copies.0 class)) → AreCopies classes related t)
    → Transfers shapes context_length insn v (record (knowing v dst k) { classes = classes; related = related })
carries_sum shapes context_length insn v dst class more k classes related lt low class_is gives relate f s suits contains =
    let given = gives f s suits contains in
    let n : ℕ = given.1 in
    let t : State = put s (slots_of insn) dst n in
    let put_contains : Contains f (knowing v dst k) t = contains_put f v s (slots_of insn) dst n k lt contains given.4 in
    let before : AreCopies (slice_set v.classes dst 0) v.related t =
    (contains.copies.0, words_put v.classes s (slots_of insn) dst n contains.copies.0 contains.copies.1, contains.copies.2) in
    let copies =
    relate t n before (put_here s (slots_of insn) dst n) (λ some.
    let same : given.0 ≡ contains.copies.0 class = class_word f v s dst class given.0 contains low class_is given.2 some in
    subst (λ (b : ℕ). Relates (Sum more) n b) same
    (record { left = word_fits f.shapes k n given.4; right = given.5; is = given.6 })) in (
      t,
      given.3,
      record {
        registers = put_contains.registers;
        set = put_contains.set;
        kept = put_contains.kept;
        parts = put_contains.parts;
        maps = put_contains.maps;
        copies = copies;
      },
      refl,
    )
