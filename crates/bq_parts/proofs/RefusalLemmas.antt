-- What holds of an event that is not refused.
use Rattle.std.proofs.Common.{◌≡◌, ℕ, ◌<◌, Bool, true, false, cond, Option, Some, None, refl, leb-false}
use Rattle.std.specs.Prelude.{nat_le}
use Rattle.bq_parts.specs.declared.event.Event.{Event}
use Rattle.bq_parts.specs.declared.refusal.Refusal.{Refusal}
use Rattle.bq_parts.specs.declared.refusal.Refusal.TheVariants as no
use Rattle.bq_parts.specs.World.{World, count_in}
use Rattle.bq_parts.specs.Refusals.{refusal, argument_refusal, state_refusal, either_refusal}

-- of two refusals neither holds
neither : (o p : Option Refusal) → either_refusal o p ≡ None → (o ≡ None) × (p ≡ None)
neither None p h = (refl, h)
neither (Some r) p h = cc

-- none is refused: neither by its arguments nor by the world
pub accepted : (w : World) (e : Event) → refusal w e ≡ None → (argument_refusal (count_in w) e ≡ None) × (state_refusal w e ≡ None)
accepted w e h = neither (argument_refusal (count_in w) e) (state_refusal w e) h

-- the first of some refusals doesn't hold, and none of the others does
pub first_refusal_passed : (b : Bool) (r : Refusal) (rest : Option Refusal) → cond b (Some r) rest ≡ None → (b ≡ false) × (rest ≡ None)
first_refusal_passed true r rest h = cc
first_refusal_passed false r rest h = (refl, h)

-- a processor that is not refused is there
pub not_refused_is_there : (count processor : ℕ) (rest : Option Refusal)
    → cond (nat_le count processor) (Some no.NoProcessor) rest ≡ None → (processor < count) × (rest ≡ None)
not_refused_is_there count processor rest h =
    let f = first_refusal_passed (nat_le count processor) no.NoProcessor rest h in (leb-false count processor f.0, f.1)
