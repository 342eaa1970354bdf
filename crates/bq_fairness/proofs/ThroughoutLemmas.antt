-- Under both disciplines two tasks that are present throughout are served in proportion, whatever others come and go.
use Rattle.std.proofs.Common.{◌≡◌, ◌+◌, ◌≤◌, List, [], ◌∷◌, Some, arith}
use Rattle.bq_weights.specs.VirtualTime.{vdelta_of}
use Rattle.bq_disc.specs.Tasks.{Task}
use Rattle.bq_disc.specs.OneProcessor.{present_at}
use Rattle.bq_cfs.specs.Cfs.{cfs}
use Rattle.bq_cfs.proofs.MoveLemmas.{each-find_task}
use Rattle.bq_eevdf.specs.Eevdf.{eevdf, earliest}
use Rattle.bq_fairness.specs.Steps.{ProcessorStep, Pass, Decide, Enter, Leave, Mark, stepped, EntersDue, CfsServesThroughout, EevdfServesThroughout}
use Rattle.bq_fairness.proofs.SoundLemmas.{of_each, each_has_room, well_formed}
use Rattle.bq_fairness.proofs.ListLemmas.{of_some}
use Rattle.bq_fairness.proofs.CfsFairLemmas.{IsNearEach, runs_near_each}
use Rattle.bq_fairness.proofs.EligibleLemmas.{runs_earliest, chosen_present}
use Rattle.bq_fairness.proofs.DueLemmas.{IsDue, charged_due, charged_later, before_due}
use Rattle.bq_fairness.proofs.NearThroughoutLemmas.{Each, OfEachEntered, IsReach, served_near}

-- CFS

-- the premise that every task meets
abbrev Anyhow : Task → Type 0
Anyhow t = Unit {0}

-- each task that enters by any steps meets it
anyhow : (ss : List ProcessorStep) → OfEachEntered Anyhow ss
anyhow [] = tt
anyhow (Pass now ∷ ss) = (tt, anyhow ss)
anyhow (Decide ∷ ss) = (tt, anyhow ss)
anyhow (Enter t ∷ ss) = (tt, anyhow ss)
anyhow (Leave k ∷ ss) = (tt, anyhow ss)
anyhow (Mark ∷ ss) = (tt, anyhow ss)

-- under CFS each task reaches 1,000,000 beyond its v: the discipline lets none run that is beyond what another reaches
cfs_reach : IsReach cfs (λ t. t.v + 1000000) Anyhow
cfs_reach = record {
  keeps = λ t x e h. tt;
  up = λ t x e h. omega arith;
  near = λ p j m t w h e f.
      rw f at (each-find_task (λ (x : Task). m.v ≤ x.v + 1000000) j (present_at p)
      (of_some (IsNearEach (present_at p)) (stepped cfs p Decide).current m (runs_near_each p w.distinct) e));
}

-- under CFS a task that stays gets beyond another by no more than at the start, or 1,000,000, and one rise
pub cfs_serves_throughout : CfsServesThroughout
cfs_serves_throughout r p ss i j a b s room new le f g si sj =
    let w = well_formed p s in
    let each = each_has_room p room in
    let n =
    served_near cfs (λ t. t.v + 1000000) Anyhow cfs_reach a.v r p ss i j a b w (λ k t e. tt) (omega arith) new
    (anyhow ss) le si sj (each i a f) (each j b g) f g in
    let v = n.1 in
    let law = n.4 in
    omega arith

-- EEVDF

-- each task that enters due within one slice meets the premise to be due so
due_of_entered : (ss : List ProcessorStep) → EntersDue ss → OfEachEntered IsDue ss
due_of_entered [] h = tt
due_of_entered (Pass now ∷ ss) h = (tt, due_of_entered ss h)
due_of_entered (Decide ∷ ss) h = (tt, due_of_entered ss h)
due_of_entered (Enter t ∷ ss) h = (record { low = h.0.0; high = h.0.1 }, due_of_entered ss h.1)
due_of_entered (Leave k ∷ ss) h = (tt, due_of_entered ss h)
due_of_entered (Mark ∷ ss) h = (tt, due_of_entered ss h)

-- under EEVDF each task reaches its deadline: the discipline lets none run that is beyond another's deadline
eevdf_reach : IsReach eevdf (λ t. t.deadline) IsDue
eevdf_reach = record {
  keeps = charged_due;
  up = charged_later;
  near = λ p j m t w h e f.
      let q = stepped eevdf p Decide in
      let first = of_some (λ x. earliest (present_at p) ≡ Some x) q.current m (runs_earliest p w.distinct) e in
      before_due (present_at p) m t j w.distinct first f (h m.id m (chosen_present (present_at p) m w.distinct first)) (h j t f);
}

-- under EEVDF a task that stays gets beyond another by no more than at the start, or its slice, and one rise
pub eevdf_serves_throughout : EevdfServesThroughout
eevdf_serves_throughout r p ss i j a b s room due new of le f g si sj =
    let w = well_formed p s in
    let each = each_has_room p room in
    let two : Task → Type 0 = λ x. (x.v ≤ x.deadline) × (x.deadline ≤ x.v + vdelta_of x.slice x.weight) in
    let dues : Each IsDue p = λ k t e. let d = of_each two p k t due e in record { low = d.0; high = d.1 } in
    let n =
    served_near eevdf (λ t. t.deadline) IsDue eevdf_reach a.v r p ss i j a b w dues (omega arith) new (due_of_entered ss of)
    le si sj (each i a f) (each j b g) f g in
    let v = n.1 in
    let law = n.4 in
    let top = n.5.high in
    let top_own = rw (n.2, n.3) at top in
    omega arith
