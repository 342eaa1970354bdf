-- The generations of a driver's world: one that is drawn is newer than all that stand, while it is installed, too.
use Rattle.std.proofs.Common.{ℕ, ◌+◌, ◌-◌, ◌<◌, ◌^◌, [], ◌∷◌, Option, subst, ◌∙◌, sym, arith}
use Rattle.bq_hooks.specs.declared.hook.Hook.{Hook}
use Rattle.bq_parts.specs.declared.event.Event.TheVariants.{Draw, Install}
use Rattle.bq_parts.specs.declared.reply.Reply.TheVariants.{Drawn}
use Rattle.bq_trace.specs.Machines.{discipline_of}
use Rattle.bq_trace.specs.TraceEvents.{Reported}
use Rattle.bq_verify.specs.Accepted.{Accepted}
use Rattle.bq_simulate.specs.declared.driver.Driver.{Driver}
use Rattle.bq_simulate.specs.Drives.{DrivesEvent, Drives}
use Rattle.bq_simulate.specs.Kept.{IsNewerFrom}
use Rattle.bq_simulate.specs.GoingWell.{HasGenerations}
use Rattle.bq_simulate.proofs.MeetAgreeLemmas.{step_of, world_of}
use Rattle.bq_simulate.proofs.WorldGenerationLemmas.{generations_are_newer}

-- one more is drawn, which is newer than all that stand
pub drawn-newer : (count generation : ℕ) (d e : Driver) (reported : Reported)
    → count < 2 ^ 64 - 1 → HasGenerations count (world_of d) → DrivesEvent d Draw (Drawn generation) reported e
    → HasGenerations (count + 1) (world_of e) × IsNewerFrom 0 generation (world_of e)
drawn-newer count generation d e reported early h does =
    let n =
    generations_are_newer.drawn (discipline_of d.machine.discipline) (world_of d) (world_of e) does.happens.moves.step.calls
    generation (omega (arith, early, h.many)) h.were (step_of d Draw (Drawn generation) reported e does) in
    (record { many = omega (arith, n.0, h.many); were = n.1 }, n.2)

-- it is installed at one processor, and is newer at those that are left
pub installed-newer : (count processor generation : ℕ) (hook : Hook) (policy : Option Accepted) (d e : Driver)
    (reported : Reported)
    → HasGenerations count (world_of d) → IsNewerFrom processor generation (world_of d)
    → Drives d (Install processor hook generation policy ∷ []) reported e
    → HasGenerations count (world_of e) × IsNewerFrom (processor + 1) generation (world_of e)
installed-newer count processor generation hook policy d e reported h newer
    (reply, mid, first, more, does, (none, same), whole) =
    let n =
    generations_are_newer.installed (discipline_of d.machine.discipline) (world_of d)
    (world_of mid) does.happens.moves.step.calls reply processor generation hook policy newer h.were
    (step_of d (Install processor hook generation policy) reply first mid does) in
    let after : HasGenerations count (world_of mid) × IsNewerFrom (processor + 1) generation (world_of mid) =
    (record { many = n.0 ∙ h.many; were = n.1 }, n.2) in
    subst (λ (x : Driver). HasGenerations count (world_of x) × IsNewerFrom (processor + 1) generation (world_of x)) (sym same) after
