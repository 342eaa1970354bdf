-- What the pass surely knows on its way through a straight program.
use Rattle.std.specs.Prelude.{Bool, ◌≡◌, ℕ, ◌+◌, List, Option, ◌⊎◌}
use Rattle.bq_insn.specs.declared.Insn.{Insn}
use Rattle.bq_bpf.specs.Memory.{stack_size}
use Rattle.bq_verify.specs.Control.{Waiting}
use Rattle.bq_verify.specs.Paths.{Path}
use Rattle.bq_states.specs.declared.abstract_state.ValueKind.TheVariants.{Context, Stack}
use Rattle.bq_states.specs.declared.abstract_state.AbstractState.{AbstractState}
use Rattle.bq_states.specs.Certainty.{Scalar, Exact, Pointer, NoPointer, Fact, Never, AtRegister, IsSetAt, IsPlainAt}
use Rattle.bq_verify.specs.Ways.{IsSureOf}
use Rattle.bq_verify.specs.Subjects.{Subject}
use Rattle.bq_verify.specs.Straight.{IsStraightBefore, IsWrittenOnEachPath, IsLoaded, IsByteStored, IsContextLeft, IsPointerAt}

-- the fact is due at a slot: the pass has to know it there. `Never` is due if no path leads there. Of registers: a
-- written one is a number; a loaded one is that number; register 1 is the context if it was left; register 10 is the
-- end of the stack; and pointers that were made. Of the stack: bytes that were stored are set, and no slot keeps a
-- pointer
abbrev pub IsFactDue : List (Option Insn) → Fact → ℕ → Type 0
IsFactDue slots Never k = Path slots 0 k → ⊥
IsFactDue slots (AtRegister Scalar r) k = IsWrittenOnEachPath slots k r
IsFactDue slots (AtRegister (Exact n) r) k = IsLoaded slots k r n
IsFactDue slots (AtRegister (Pointer kind o) r) k =
    ((kind ≡ Context) × (o ≡ 0) × (r ≡ 1) × IsContextLeft slots k) ⊎ (((kind ≡ Stack) × (o ≡ stack_size) × (r ≡ 10)) ⊎ IsPointerAt slots kind o r k)
IsFactDue slots (AtRegister NoPointer r) k = ⊥
IsFactDue slots (IsSetAt i) k = IsByteStored slots k i
IsFactDue slots (IsPlainAt j) k = Unit {0}

-- each fact that is due at any slot is sure there
abbrev pub IsSure : List (Option Insn) → Waiting → AbstractState → Bool → ℕ → Type 0
IsSure slots pending state live slot = (x : Fact) (k : ℕ) → IsFactDue slots x k → IsSureOf x pending state live slot k

-- `Then` holds if the program is straight up to this slot and each fact that is due is sure
abbrev pub WhereSure : Subject → ℕ → Waiting → AbstractState → Bool → Type 0 → Type 0
WhereSure p slot pending state live Then = IsStraightBefore p (slot + 1) → IsSure p.slots pending state live slot → Then
