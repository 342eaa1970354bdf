-- What is kept by only the deeds, and what comes next by it.
use Rattle.std.proofs.Common.{◌≡◌, ℕ, ◌+◌, ◌≤◌, List, [], ◌∷◌, Option, sym, ap, ◌∙◌, subst}
use Rattle.std.specs.Option.{option_map_or}
use Rattle.bq_trace.specs.TraceEvents.{TraceEvent, Reported}
use Rattle.bq_workload.specs.declared.progress.TaskProgress.{TaskProgress}
use Rattle.bq_workload.specs.declared.due.Due.{Due}
use Rattle.bq_workload.specs.declared.periods.Periods.{Periods}
use Rattle.bq_workload.specs.declared.workload.TaskKind.{TaskKind}
use Rattle.bq_workload.specs.Accounts.{accounts_of}
use Rattle.bq_workload.specs.Next.{IsAgreed, IsNextDue}
use Rattle.bq_simulate.specs.declared.driver.Driver.{Driver}
use Rattle.bq_simulate.specs.declared.simulation.Simulation.{Simulation}
use Rattle.bq_simulate.specs.Deeds.{Acts, Beats, Book, Deed, Happens, Joins, DeedsLead, Looks, Misses, Reaches, Rings, after_act, after_answer, after_beat, after_deeds, after_look, task_added}
use Rattle.bq_simulate.specs.Simulations.{GoesByDeeds, GoesOnBy, GoesOnFromBook, book_of}
use Rattle.bq_simulate.specs.Steps.{AreAllMet, DeedsMeet}
use Rattle.bq_simulate.proofs.DeedLemmas.{GoesByDeeds-join}
use Rattle.bq_simulate.proofs.DueInOrderLemmas.{AreMet-more}

-- what is kept follows from the deeds
pub kept-by : (kinds : List TaskKind) (seed : ℕ) (periods : Periods) (d e : Driver) (a b : Book) (xs : List Deed)
    (reported : Reported)
    → DeedsLead kinds seed periods d a xs reported e b → b ≡ after_deeds kinds seed periods a xs
kept-by kinds seed periods d e a b [] reported h = h.2
kept-by kinds seed periods d e a b (Happens event reply ∷ xs) reported (due, mid, first, rest, does, leads, whole) =
    kept-by kinds seed periods mid e (after_answer periods event reply a) b xs rest leads
kept-by kinds seed periods d e a b (Joins kind home ∷ xs) reported (of, leads) =
    kept-by kinds seed periods d e (task_added kinds kind home a) b xs reported leads
kept-by kinds seed periods d e a b (Acts at task now action aim ∷ xs) reported (c, done, is, to, leads) =
    let after : Option TaskProgress → Book = λ o. option_map_or (λ (k : TaskProgress). after_act kinds seed at task now k a) o a in
    kept-by kinds seed periods d e (after_act kinds seed at task now c a) b xs reported leads
    ∙ sym (ap (λ (o : Option TaskProgress). after_deeds kinds seed periods (after o) xs) done.there)
kept-by kinds seed periods d e a b (Rings task now ∷ xs) reported (c, there, asleep, timer, leads) =
    kept-by kinds seed periods d e a b xs reported leads
kept-by kinds seed periods d e a b (Reaches task ∷ xs) reported (c, there, waits, leads) =
    kept-by kinds seed periods d e a b xs reported leads
kept-by kinds seed periods d e a b (Misses task ∷ xs) reported (c, there, waits, leads) =
    kept-by kinds seed periods d e a b xs reported leads
kept-by kinds seed periods d e a b (Beats at now ∷ xs) reported (ticks, busy, leads) =
    kept-by kinds seed periods d e (after_beat periods at now a) b xs reported leads
kept-by kinds seed periods d e a b (Looks at now source ∷ xs) reported (looks, from, leads) =
    kept-by kinds seed periods d e (after_look periods at now a) b xs reported leads

-- the accounts of a simulation that has gone on follow from the deeds
pub book-after : {S : Type 0} (takes : S → ℕ → TraceEvent → S → Type 0) (kinds : List TaskKind) (A : List Deed → Type 0)
    (x y : S) (s t : Simulation) (drawn : List ℕ) (goes : GoesByDeeds takes kinds A x s drawn y t)
    → book_of t goes.after ≡ after_deeds kinds s.seed s.roster.periods (book_of s drawn) goes.deeds
book-after takes kinds A x y s t drawn goes =
    kept-by kinds s.seed s.roster.periods s.driver t.driver (book_of s drawn) (book_of t goes.after) goes.deeds
    goes.reports.reported goes.reports.holds

-- the next thing by the event queue is met, which agrees with the accounts
pub met-more : {S : Type 0} (takes : S → ℕ → TraceEvent → S → Type 0) (kinds : List TaskKind) (count last now : ℕ)
    (due : Due) (x y z : S) (s t u : Simulation)
    → last ≤ now → (IsAgreed t.roster → IsNextDue t.roster.periods.end (accounts_of t.roster) due now)
    → GoesOnFromBook takes kinds (AreAllMet kinds s.seed s.roster.periods count last) x s y t
    → GoesOnBy takes kinds (DeedsMeet due now) y t z u
    → GoesOnFromBook takes kinds (AreAllMet kinds s.seed s.roster.periods (count + 1) now) x s z u
met-more takes kinds count last now due x y z s t u later next goes_on meet drawn had firsts agreed =
    let periods = s.roster.periods in
    let start = book_of s drawn in
    let one = goes_on drawn had firsts agreed in
    let two = meet one.after one.streams one.firsts in
    let is : IsNextDue t.roster.periods.end (accounts_of t.roster) due now = next (one.agrees agreed) in
    let here : IsNextDue periods.end (after_deeds kinds s.seed periods start one.deeds).accounts due now =
    subst (λ (b : Book). IsNextDue periods.end b.accounts due now)
    (book-after takes kinds (AreAllMet kinds s.seed periods count last start) x y s t drawn one)
    (subst (λ (p : Periods). IsNextDue p.end (accounts_of t.roster) due now) one.periods is) in
    GoesByDeeds-join takes kinds (AreAllMet kinds s.seed periods count last start) (DeedsMeet due now)
    (AreAllMet kinds s.seed periods (count + 1) now start) x y z s t u drawn one two
    (AreMet-more kinds s.seed periods start due count last now one.deeds two.deeds later one.are here two.are)
