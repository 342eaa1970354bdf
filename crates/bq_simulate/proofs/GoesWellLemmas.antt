-- A simulation that goes well, from one thing to the next.
use Rattle.std.proofs.Common.{◌≡◌, ℕ, ◌+◌, ◌*◌, ◌^◌, ◌≤◌, inl, inr, List, [], ◌∷◌, Option, Some, sym, subst, ap, ◌∙◌, arith}
use Rattle.std.specs.Prelude.{Err, IfErr, Ok, Result, ⊤}
use Rattle.std.specs.Option.{MatchOption}
use Rattle.std.specs.Result.{IsErrAnd}
use Rattle.std.proofs.lemmas.Option.{MatchOption-at_some}
use Rattle.std.proofs.lemmas.Result.{err_from_is_err_and}
use Rattle.bq_core.proofs.SizeLemmas.{step_count}
use Rattle.bq_parts.specs.declared.event.Event.{Event}
use Rattle.bq_parts.specs.Choices.{by_programs}
use Rattle.bq_parts.specs.World.{count_in}
use Rattle.bq_trace.specs.Machines.{discipline_of}
use Rattle.bq_trace.specs.TraceEvents.{TraceEvent, Reported}
use Rattle.bq_workload.specs.declared.due.Due.{Due}
use Rattle.bq_workload.specs.declared.periods.Periods.{Periods}
use Rattle.bq_workload.specs.declared.roster.Roster.{Roster}
use Rattle.bq_workload.specs.declared.workload.TaskKind.{TaskKind}
use Rattle.bq_workload.specs.declared.workload.Workload.{Workload}
use Rattle.bq_workload.specs.Accounts.{accounts_of}
use Rattle.bq_workload.specs.Bounds.{steps_at_once}
use Rattle.bq_workload.specs.Next.{IsAgreed, IsNextDue, NothingComes}
use Rattle.bq_simulate.specs.declared.driver.Driver.{Driver}
use Rattle.bq_simulate.specs.declared.fault.SimulateFault.{SimulateFault}
use Rattle.bq_simulate.specs.declared.fault.SimulateFault.TheVariants as why
use Rattle.bq_simulate.specs.declared.simulation.Simulation.{Simulation}
use Rattle.bq_simulate.specs.Deeds.{Book, Deed, DeedsLead, events_of}
use Rattle.bq_simulate.specs.Drives.{Drives}
use Rattle.bq_simulate.specs.Kept.{IsKept}
use Rattle.bq_simulate.specs.KeptLaws.{DeedsLeadIn}
use Rattle.bq_simulate.specs.GoingWell.{EndsEarly, SimulationGoesWell}
use Rattle.bq_simulate.specs.Simulations.{GoesOnBy, book_of, with_seed}
use Rattle.bq_simulate.specs.Steps.{DeedsMeet}
use Rattle.bq_simulate.proofs.AllIsKeptLemmas.{all_is_kept}
use Rattle.bq_simulate.proofs.DeedLemmas.{drives-of-deeds}
use Rattle.bq_simulate.proofs.MeetAgreeLemmas.{step_of, world_of}

-- events keep the number of processors
drives_count : (d e : Driver) (events : List Event) (reported : Reported)
    → Drives d events reported e → count_in (world_of e) ≡ count_in (world_of d)
drives_count d e [] reported h = ap (λ (x : Driver). count_in (world_of x)) h.1
drives_count d e (event ∷ events) reported (reply, mid, first, more, does, rest, whole) =
    let r = discipline_of d.machine.discipline in
    drives_count mid e events more rest
    ∙ step_count (by_programs r) (world_of d) event does.happens.moves.step.calls (Ok reply)
    (world_of mid) (step_of d event reply first mid does)

-- deeds keep the number of processors
pub processors_kept : (kinds : List TaskKind) (seed : ℕ) (periods : Periods) (d e : Driver) (b c : Book)
    (deeds : List Deed) (reported : Reported)
    → DeedsLead kinds seed periods d b deeds reported e c → count_in (world_of e) ≡ count_in (world_of d)
processors_kept kinds seed periods d e b c deeds reported leads =
    drives_count d e (events_of deeds) reported (drives-of-deeds kinds seed periods d e b c deeds reported leads)

-- what comes next comes until the end, and nothing is past then
pub comes-well : (w : Workload) (last now : ℕ) (due : Due) (s : Simulation)
    → SimulationGoesWell w last s → IsNextDue s.roster.periods.end (accounts_of s.roster) due now
    → (last ≤ now) × (now ≤ w.machine.duration) × SimulationGoesWell w now s
comes-well w last now due s h next =
    let is = subst (λ (p : Periods). IsNextDue p.end (accounts_of s.roster) due now) h.periods next in
    let c = all_is_kept.comes w s.driver (book_of s h.drawn) due last now h.sound h.kept is in (
      c.0,
      c.1,
      record {
        sound = h.sound;
        until = c.1;
        periods = h.periods;
        drawn = h.drawn;
        streams = h.streams;
        firsts = h.firsts;
        all_firsts = h.all_firsts;
        kept = c.2;
        agreed = h.agreed;
      },
    )

-- what an event queue gives next comes next by the accounts
pub next-given : (r : Roster) (now : ℕ) (due : Due) (o : Option (ℕ × Due)) → o ≡ Some (now, due)
    → MatchOption o (NothingComes r.periods.end (accounts_of r)) (λ d. IsNextDue r.periods.end (accounts_of r) d.1 d.0)
    → IsNextDue r.periods.end (accounts_of r) due now
next-given r now due o is next =
    MatchOption-at_some (NothingComes r.periods.end (accounts_of r)) (λ d. IsNextDue r.periods.end (accounts_of r) d.1 d.0) (now, due) is next

-- of a simulation that goes well it comes until the end, and nothing is past then
pub given-well : (w : Workload) (last now : ℕ) (due : Due) (s : Simulation) (o : Option (ℕ × Due)) → o ≡ Some (now, due)
    → (IsAgreed s.roster → MatchOption o (NothingComes s.roster.periods.end (accounts_of s.roster))
    (λ d. IsNextDue s.roster.periods.end (accounts_of s.roster) d.1 d.0)) → SimulationGoesWell w last s
    → (last ≤ now) × (now ≤ w.machine.duration) × SimulationGoesWell w now s × IsNextDue w.machine.duration (accounts_of s.roster) due now
given-well w last now due s o is next h =
    let first = next-given s.roster now due o is (next h.agreed) in
    let comes = comes-well w last now due s h first in
    (comes.0, comes.1, comes.2, subst (λ (p : Periods). IsNextDue p.end (accounts_of s.roster) due now) h.periods first)

-- deeds that keep all that holds while a simulation goes well
abbrev pub KeepAll : Workload → ℕ → ℕ → (List Deed → Type 0) → Type 0
KeepAll w seed now Are =
    (d e : Driver) (b c : Book) (deeds : List Deed) (reported : Reported) → Are deeds →
    DeedsLeadIn (with_seed w seed) d b deeds reported e c → IsKept w.tasks.items now d b → IsKept w.tasks.items now e c

-- by those it goes on well
pub goes-well : {S : Type 0} (takes : S → ℕ → TraceEvent → S → Type 0) (Are : List Deed → Type 0) (x y : S)
    (w : Workload) (now : ℕ) (s t : Simulation)
    → KeepAll w s.seed now Are → GoesOnBy takes w.tasks.items Are x s y t → SimulationGoesWell w now s → SimulationGoesWell w now t
goes-well takes Are x y w now s t keep goes_on h =
    let g = goes_on h.drawn h.streams h.firsts in
    let leads =
    subst
    (λ (p : Periods). DeedsLead w.tasks.items s.seed p s.driver (book_of s h.drawn) g.deeds g.reports.reported t.driver (book_of t g.after))
    h.periods g.reports.holds in
    let was = book_of s h.drawn in
    let is = book_of t g.after in
    let kept = keep s.driver t.driver was is g.deeds g.reports.reported g.are leads h.kept in
    record {
      sound = h.sound;
      until = h.until;
      periods = g.periods ∙ h.periods;
      drawn = g.after;
      streams = g.streams;
      firsts = g.firsts;
      all_firsts = omega (arith, h.all_firsts, g.begun);
      kept = kept;
      agreed = g.agrees h.agreed;
    }

-- a simulation goes on well by what is done when something comes due
pub met-well : {S : Type 0} (takes : S → ℕ → TraceEvent → S → Type 0) (x y : S) (w : Workload)
    (due : Due) (now : ℕ) (s t : Simulation)
    → GoesOnBy takes w.tasks.items (DeedsMeet due now) x s y t → SimulationGoesWell w now s → SimulationGoesWell w now t
met-well takes x y w due now s t goes_on h =
    goes-well takes (DeedsMeet due now) x y w now s t
    (λ d e b c deeds reported meet leads kept.
    all_is_kept.met (with_seed w s.seed) d e b c due now deeds reported h.sound h.until meet leads kept) goes_on h

-- what holds of an error that is handed on
pub err-by : {T E : Type 0} {Q P : E → Type 0} (r : Result T E) → IsErrAnd r Q → ((e : E) → Q e → P e) → IfErr r P
err-by {P = P} r is weaker =
    let p = err_from_is_err_and r is in
    subst (λ x. IfErr x P) (sym p.1) (weaker p.0 p.2)

-- the fault is that memory ran out
abbrev IsWant : SimulateFault → Type 0
IsWant why.OutOfMemory = ⊤
IsWant fault = ⊥

-- a simulation that wants memory is not one that is too long
pub wants-no-end : why.OutOfMemory ≡ why.TooManySteps → ⊥
wants-no-end same = subst IsWant same tt

-- where one is, 64 bits do not count the bound of its steps
pub bound-of-too_many_steps : (w : Workload) → EndsEarly w why.TooManySteps → 2 ^ 64 ≤ (w.machine.duration + 1) * steps_at_once w
bound-of-too_many_steps w (inl wants) = absurd (wants-no-end (sym wants))
bound-of-too_many_steps w (inr ends) = ends.1

-- two things that hold of an error
pub err-both : {T E : Type 0} {P Q R : E → Type 0} (r : Result T E) → IfErr r P → IfErr r Q → ((e : E) → P e → Q e → R e) → IfErr r R
err-both (Ok x) p q both = tt
err-both (Err e) p q both = both e p q
