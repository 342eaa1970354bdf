-- What the calls of a machine answer if they are refused, and what they record.
use Rattle.std.specs.Prelude.{◌≡◌, ◌⊎◌, ℕ, zero, suc, ◌+◌, List, [], ◌∷◌, Option, None, Some}
use Rattle.bq_history.specs.declared.shared_state.Receipt.{Receipt}
use Rattle.bq_hooks.specs.declared.hook.Hook.{Hook}
use Rattle.bq_verify.specs.Accepted.{Accepted}
use Rattle.bq_parts.specs.declared.event.Event.{Event}
use Rattle.bq_parts.specs.declared.event.Event.TheVariants.{Install, Tick}
use Rattle.bq_parts.specs.declared.refusal.Refusal.{Refusal}
use Rattle.bq_parts.specs.declared.refusal.Refusal.TheVariants as no
use Rattle.bq_parts.specs.Refusals.{argument_refusal}
use Rattle.bq_shared.specs.declared.record.Record.{Record}

-- A call on a machine of this many processors is refused if the arguments of its event are refused; if they are not, it is
-- refused only if memory runs out. No time is refused, so contracts name an event at time 0 for a call that reads its clock
-- later.
abbrev pub IsCallRefused : ℕ → Event → Refusal → Type 0
IsCallRefused count event e = (argument_refusal count event ≡ Some e) ⊎ ((argument_refusal count event ≡ None) × (e ≡ no.OutOfMemory))

-- A call that needs only its processor is refused if there is no such processor, else only if memory runs out. A tick at time 0
-- stands for each such event at each time.
abbrev pub IsProcessorCallRefused : ℕ → ℕ → Refusal → Type 0
IsProcessorCallRefused count processor e = IsCallRefused count (Tick processor 0) e

-- the receipt is of an event that read its clock, which may give that reading; `event` says which event it is at a reading
abbrev pub RecordsAtReading : (ℕ → Type 0) → (ℕ → Event) → Receipt Record → Type 0
RecordsAtReading gives event r = (now : ℕ) × gives now × (r.entry.event ≡ event now)

-- the receipts of installs of one policy, or none, at n processors, numbered from c on
abbrev pub AreInstalls : ℕ → ℕ → Hook → ℕ → Option Accepted → List (Receipt Record) → Type 0
AreInstalls c zero hook g policy [] = Unit {0}
AreInstalls c (suc n) hook g policy (x ∷ xs) = (x.entry.event ≡ Install c hook g policy) × AreInstalls (c + 1) n hook g policy xs
AreInstalls c n hook g policy xs = ⊥
