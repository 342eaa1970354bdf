-- What the verifier says about a program. If it has faults of the control graph or of single instructions, the verdict is the first
-- of them. If it has none, the verdict is the slot and the obligation at which the pass stops, or that the pass stops nowhere. `StopsAt` and
-- `StopsNowhere` are opaque: only proofs of this crate show them, so any other code gets them from a call of `verify`. That two
-- calls show the same follows from no definition here; it holds because there is one place from which verdicts come.
use Rattle.std.specs.Prelude.{◌≡◌, ℕ, List, Option, Some}
use Rattle.bq_insn.specs.declared.Insn.{Insn}
use Rattle.bq_bpf.specs.Safe.{Safe}
use Rattle.bq_bpf.specs.Steps.{instruction_at}
use Rattle.bq_verify.specs.Faults.{IsFirstFault, IsFaultless}
use Rattle.bq_verify.specs.Subjects.{Subject}
use Rattle.bq_transfer.specs.Obligations.{MayBeUnproven}
use Rattle.bq_transfer.specs.declared.obligation.Obligation.{Obligation}
use Rattle.bq_verify.specs.declared.cause.Cause.TheVariants.{Graph, State}
use Rattle.bq_verify.specs.declared.refused.Refused.{Refused}
use Rattle.bq_verify.specs.declared.refused.Refused.TheVariants.{At, OutOfMemory}

-- at this slot an instruction begins that may leave the obligation unproven
pub record IsUnproven (slots : List (Option Insn)) (obligation : Obligation) (slot : ℕ) : Type 0 where
  pub insn : Insn
  pub here : instruction_at slots slot ≡ Some insn
  pub may : MayBeUnproven obligation insn

-- A token that only `verify` makes: the pass over the program stops at this slot, for this obligation. What it says by itself
-- is less, and is opaque: an instruction begins at the slot that may leave the obligation unproven.
pub StopsAt : Subject → ℕ → Obligation → Type 0
StopsAt subject slot obligation = IsUnproven subject.slots obligation slot

-- the pass stopped at this slot. Only proofs of this crate may cite this; `tests/one_place.py` checks it
pub stopped_at : (subject : Subject) (slot : ℕ) (obligation : Obligation) → IsUnproven subject.slots obligation slot → StopsAt subject slot obligation
unfolding StopsAt
stopped_at subject slot obligation unproven = unproven

-- what a stop says about its slot: an instruction begins there that may leave the obligation unproven
pub unproven_where_it_stops : (subject : Subject) (slot : ℕ) (obligation : Obligation) → StopsAt subject slot obligation → IsUnproven subject.slots obligation slot
unfolding StopsAt
unproven_where_it_stops subject slot obligation stops = stops

-- A token that only `verify` makes: the pass over the program reaches its end, with every obligation proven. What it says by
-- itself is less, and is opaque: the program is safe within some budget.
pub StopsNowhere : Subject → Type 0
StopsNowhere subject = (budget : ℕ) × Safe subject.slots subject.shapes subject.context budget

-- the pass reached its end. Only proofs of this crate may cite this; `tests/one_place.py` checks it
pub stopped_nowhere : (subject : Subject) (budget : ℕ) → Safe subject.slots subject.shapes subject.context budget → StopsNowhere subject
unfolding StopsNowhere
stopped_nowhere subject budget safe = (budget, safe)

-- the refusal is what the pass answers when it stops; lack of memory says nothing about the program
abbrev pub IsStopped : Subject → Refused → Type 0
IsStopped subject OutOfMemory = Unit {0}
IsStopped subject (At slot (Graph cause)) = ⊥
IsStopped subject (At slot (State obligation)) = StopsAt subject slot obligation

-- the refusal is what the checks of the control graph answer
abbrev pub IsGraphVerdict : List (Option Insn) → Refused → Type 0
IsGraphVerdict slots OutOfMemory = Unit {0}
IsGraphVerdict slots (At slot (Graph cause)) = IsFirstFault slots cause slot
IsGraphVerdict slots (At slot (State obligation)) = ⊥

-- the refusal is the verdict on the program
abbrev pub IsVerdictOn : Subject → Refused → Type 0
IsVerdictOn subject OutOfMemory = Unit {0}
IsVerdictOn subject (At slot (Graph cause)) = IsFirstFault subject.slots cause slot
IsVerdictOn subject (At slot (State obligation)) = IsFaultless subject.slots × StopsAt subject slot obligation

-- the program was refused because memory ran out
abbrev pub IsOutOfMemory : Refused → Type 0
IsOutOfMemory refused = refused ≡ OutOfMemory
