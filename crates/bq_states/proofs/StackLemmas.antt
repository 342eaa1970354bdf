-- Bytes of the stack that are written somewhere in a range.
use Rattle.std.proofs.Common.{◌≡◌, ℕ, ◌+◌, ◌*◌, ◌<◌, ◌≤◌, Bool, true, false, List, Option, None, length, sym, subst, arith, ◌⊎◌, inl, inr}
use Rattle.std.specs.Prelude.{slice_index, slice_index_or}
use Rattle.bq_bpf.specs.Memory.{Setting, State, InStack, written}
use Rattle.bq_bpf.specs.Steps.{next}
use Rattle.bq_ranges.specs.declared.range.Range.{Range}
use Rattle.bq_ranges.specs.Within.{Within}
use Rattle.bq_states.specs.declared.abstract_state.AbstractState.{AbstractState}
use Rattle.bq_states.specs.declared.abstract_state.AbstractValue.{AbstractValue}
use Rattle.bq_states.specs.AbstractStates.{Contains, Forgets, Marks}
use Rattle.bq_states.proofs.StoreLemmas.{contains_written}
use Rattle.bq_states.specs.Copies.{ForgetsSlotClasses}
use Rattle.bq_states.specs.Parts.{Outlives}
use Rattle.bq_states.proofs.CopyLemmas.{copies_written, parts_less}

-- bytes that were newly set in a range were newly set in a wider one
pub marks_wider : (old new : List Bool) (from to o e : ℕ) → o ≤ from → to ≤ e → Marks old new from to → Marks old new o e
marks_wider old new from to o e low high marks i is = at (marks i is)
  where
    at : ((from ≤ i) × (i < to)) ⊎ (slice_index_or old i false ≡ true) → ((o ≤ i) × (i < e)) ⊎ (slice_index_or old i false ≡ true)
    at (inl (le, lt)) = inl (omega arith, omega arith)
    at (inr was) = inr was

-- what was forgotten of a range was forgotten of a narrower one
pub forgets_less : (old new : List (Option AbstractValue)) (from to o e : ℕ)
    → from ≤ o → e ≤ to → Forgets old new from to → Forgets old new o e
forgets_less old new from to o e low high forgets j = at (forgets j)
  where
    at : (slice_index_or new j None ≡ None)
        ⊎ ((slice_index_or new j None ≡ slice_index_or old j None) × ((8 * j + 8 ≤ from) ⊎ (to ≤ 8 * j)))
        → (slice_index_or new j None ≡ None) ⊎ ((slice_index_or new j None ≡ slice_index_or old j None) × ((8 * j + 8 ≤ o) ⊎ (e ≤ 8 * j)))
    at (inl none) = inl none
    at (inr (same, inl below)) = inr (same, inl (omega arith))
    at (inr (same, inr above)) = inr (same, inr (omega arith))

-- bytes written at one place of the range
pub contains_over : (f : Setting) (v w : AbstractState) (s : State) (at : Range) (n o : ℕ) (bytes : List ℕ)
    → w.registers ≡ v.registers → w.related ≡ v.related → Marks v.set w.set o (o + n) → Forgets v.kept w.kept at.lo (at.hi + n)
    → ((j : ℕ) → Outlives at.lo (at.hi + n) (slice_index_or v.parts j None) (slice_index_or w.parts j None))
    → ForgetsSlotClasses v.classes w.classes at.lo (at.hi + n) → Contains f v s → Within at o → length bytes ≡ n
    → ((k : ℕ) → k < length bytes → slice_index bytes k < 256)
    → Contains f w (next (written s InStack o bytes))
contains_over f v w s at n o bytes same so marks forgets outlive parts contains within long small =
    contains_written f v w s o bytes small same (subst (λ (m : ℕ). Marks v.set w.set o (o + m)) (sym long) marks)
    (forgets_less v.kept w.kept at.lo (at.hi + n) o (o + length bytes) within.0 (omega (arith, within.1, long)) forgets)
    (λ j. record {
      has = λ stack p written low high.
          (outlive j).has stack p written (omega (arith, within.0, low)) (omega (arith, within.1, long, high));
    }) (rw so (copies_written v.classes w.classes v.related s o bytes
    (parts_less v.classes w.classes at.lo (at.hi + n) o (o + length bytes) within.0 (omega (arith, within.1, long)) parts)
    contains.copies)) contains
