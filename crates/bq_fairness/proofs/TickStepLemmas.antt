-- Ticks are steps, so two tasks are served in proportion over Ticks too.
use Rattle.std.proofs.Common.{◌≡◌, ℕ, List, [], ◌∷◌, refl, arith}
use Rattle.bq_disc.specs.Discipline.{Discipline}
use Rattle.bq_disc.specs.OneProcessor.{Running, ticked}
use Rattle.bq_cfs.specs.Cfs.{cfs}
use Rattle.bq_eevdf.specs.Eevdf.{eevdf}
use Rattle.bq_fairness.specs.Histories.{TicksRiseByAtMost, served}
use Rattle.bq_fairness.specs.Steps.{ProcessorStep, Pass, Decide, served_by, EachEntersNew, EntersDue, DecidesWithin, StaysThroughout}
use Rattle.bq_fairness.specs.CfsFairness.{CfsServesInProportion, CfsServesWithin}
use Rattle.bq_fairness.specs.EevdfDeadlines.{EevdfServesBySlices}
use Rattle.bq_fairness.proofs.ThroughoutLemmas.{cfs_serves_throughout, eevdf_serves_throughout}

-- Ticks as steps: at each the time passes, and the discipline decides
abbrev steps_of : List ℕ → List ProcessorStep
steps_of [] = []
steps_of (now ∷ nows) = Pass now ∷ Decide ∷ steps_of nows

-- the steps of Ticks serve a task what the Ticks do
served_same : (i : ℕ) (d : Discipline) (p : Running) (nows : List ℕ) → served_by i d p (steps_of nows) ≡ served i d p nows
served_same i d p [] = refl
served_same i d p (now ∷ nows) = let rest = served_same i d (ticked d p now) nows in omega arith

-- by the steps of Ticks no task enters, so each that does is new, and due as it must be
none_enters : (d : Discipline) (p : Running) (nows : List ℕ) → EachEntersNew d p (steps_of nows)
none_enters d p [] = tt
none_enters d p (now ∷ nows) = (tt, (tt, none_enters d (ticked d p now) nows))

none_due : (nows : List ℕ) → EntersDue (steps_of nows)
none_due [] = tt
none_due (now ∷ nows) = none_due nows

-- where the clock rises by at most r at each Tick, it does so between two decisions
within : (r : ℕ) (d : Discipline) (p : Running) (nows : List ℕ) → TicksRiseByAtMost r d p nows → DecidesWithin r d 0 p (steps_of nows)
within r d p [] h = tt
within r d p (now ∷ nows) h = let le = h.0 in (omega arith, (omega arith, within r d (ticked d p now) nows h.1))

-- by the steps of Ticks no task leaves
none_leaves : (i : ℕ) (nows : List ℕ) → StaysThroughout i (steps_of nows)
none_leaves i [] = tt
none_leaves i (now ∷ nows) = (refl, (refl, none_leaves i nows))

-- under CFS a task gets over Ticks beyond another by no more than at the start, or 1,000,000, and one rise
pub cfs_serves_in_proportion : CfsServesInProportion
cfs_serves_in_proportion r p nows i j a b s room le f g =
    let law =
    cfs_serves_throughout r p (steps_of nows) i j a b s room (none_enters cfs p nows) (within r cfs p nows le) f g
    (none_leaves i nows) (none_leaves j nows) in
    let one = served_same i cfs p nows in
    let two = served_same j cfs p nows in
    omega arith

-- under CFS a task is served more than another by no more than it began behind, 1,000,000 and one rise
pub cfs_serves_within : CfsServesWithin
cfs_serves_within S r p nows i j a b s room le f g near =
    let law = cfs_serves_in_proportion r p nows i j a b s room le f g in
    omega arith

-- under EEVDF a task gets over Ticks beyond another by no more than at the start, or its slice, and one rise
pub eevdf_serves_by_slices : EevdfServesBySlices
eevdf_serves_by_slices r p nows i j a b s room due le f g =
    let law =
    eevdf_serves_throughout r p (steps_of nows) i j a b s room due (none_enters eevdf p nows) (none_due nows)
    (within r eevdf p nows le) f g (none_leaves i nows) (none_leaves j nows) in
    let one = served_same i eevdf p nows in
    let two = served_same j eevdf p nows in
    omega arith
