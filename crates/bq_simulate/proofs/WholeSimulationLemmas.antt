-- A simulation from its beginning to its end.
use Rattle.std.proofs.Common.{◌≡◌, ◌≤◌, ◌+◌, ◌-◌, ◌*◌, ◌^◌, ℕ, Bool, false, List, [], ◌++◌, inl, inr, ap, arith, refl, sym, ◌∙◌, subst, true≢false}
use Rattle.std.specs.Prelude.{is_some, min, slice_get}
use Rattle.bq_workload.specs.declared.workload.TaskKind.{TaskKind}
use Rattle.bq_workload.specs.declared.workload.Workload.{Workload}
use Rattle.bq_trace.specs.TraceEvents.{TraceEvent, Gets, Reported}
use Rattle.bq_trace.proofs.TakingLemmas.{TakesAll-append}
use Rattle.bq_verify.specs.Accepted.{Accepted}
use Rattle.bq_words.specs.Sizes.{processors_in}
use Rattle.bq_simulate.specs.declared.driver.Driver.{Driver}
use Rattle.bq_simulate.specs.Drives.{Starts}
use Rattle.bq_workload.specs.Accounts.{Accounts, accounts_of}
use Rattle.bq_workload.specs.declared.periods.Periods.{Periods}
use Rattle.bq_simulate.specs.declared.simulation.Simulation.{Simulation}
use Rattle.bq_workload.specs.Bounds.{most_steps, steps_at_once}
use Rattle.bq_simulate.specs.Deeds.{Book, Deed, DeedsLead, after_deeds}
use Rattle.bq_workload.specs.Next.{IsAgreed, NothingComes}
use Rattle.bq_simulate.specs.Simulations.{SimulationBegins, GoesByDeeds, HasFirsts, IsFollowed, IsSimulation, IsTooLong, GoesOnBy, GoesOnForAnyKinds, GoesOnFromBook, Proceeds, ProceedsBy, ProceedsIn, ProceedsOut, RunsToLastTicks, ComesToBound, RunsToEndOrEnough, book_of, opening_book, periods_of}
use Rattle.bq_simulate.specs.Steps.{AreAllAdmitted, AreAllMet, AreInstalled, AreMet, Opens}
use Rattle.bq_simulate.proofs.BookLemmas.{book-after}
use Rattle.bq_simulate.proofs.DeedLemmas.{GoesByDeeds-join, GoesByDeeds-weaker, GoesOnBy-join, DeedsLead-append, drives-of-deeds}
use Rattle.bq_simulate.proofs.DueInOrderLemmas.{AreAllMet-within, AreMet-within}

-- what is installed, and then what is admitted
Opens-join : (policies : List Accepted) (processors : ℕ) (kinds : List TaskKind) (xs ys : List Deed)
    → AreInstalled processors policies xs → AreAllAdmitted processors 0 0 kinds ys
    → Opens policies processors kinds (xs ++ ys)
Opens-join policies processors kinds xs ys installed admitted =
    record { installs = xs; admissions = ys; whole = refl; installed = installed; admitted = admitted }

-- policies are installed, and then tasks are admitted: so a simulation opens
pub GoesOnBy-opens : {S : Type 0} (takes : S → ℕ → TraceEvent → S → Type 0) (policies : List Accepted) (count processors : ℕ)
    (kinds : List TaskKind) (x y z : S) (s t u : Simulation)
    → count ≡ processors → GoesOnForAnyKinds takes (AreInstalled count policies) x s y t
    → GoesOnBy takes kinds (AreAllAdmitted processors 0 0 kinds) y t z u
    → GoesOnBy takes kinds (Opens policies processors kinds) x s z u
GoesOnBy-opens takes policies count processors kinds x y z s t u all installed admitted =
    GoesOnBy-join takes kinds (AreInstalled processors policies) (AreAllAdmitted processors 0 0 kinds) (Opens policies processors kinds)
    (Opens-join policies processors kinds) x y z s t u
    (subst (λ (n : ℕ). GoesOnBy takes kinds (AreInstalled n policies) x s y t) all (installed kinds)) admitted

-- what opens it, and then some of which something holds by what is kept
opened-join : {S : Type 0} (takes : S → ℕ → TraceEvent → S → Type 0) (policies : List Accepted) (processors : ℕ)
    (kinds : List TaskKind) (Met Are : ℕ → Periods → Book → List Deed → Type 0)
    → ((seed : ℕ) (periods : Periods) (b : Book) (xs ys : List Deed) → Opens policies processors kinds xs →
    Met seed periods (after_deeds kinds seed periods b xs) ys → Are seed periods b (xs ++ ys))
    → (x y z : S) (s t u : Simulation) → GoesOnBy takes kinds (Opens policies processors kinds) x s y t
    → GoesOnFromBook takes kinds (Met t.seed t.roster.periods) y t z u
    → GoesOnFromBook takes kinds (Are s.seed s.roster.periods) x s z u
opened-join takes policies processors kinds Met Are whole x y z s t u opened met drawn had firsts agreed =
    let one = opened drawn had firsts in
    let two = met one.after one.streams one.firsts (one.agrees agreed) in
    let opens = Opens policies processors kinds in
    let start = book_of s drawn in
    let P : ℕ → Type 0 = λ n. Met n t.roster.periods (book_of t one.after) two.deeds in
    let Q : Periods → Type 0 = λ p. Met s.seed p (book_of t one.after) two.deeds in
    let R : Book → Type 0 = λ b. Met s.seed s.roster.periods b two.deeds in
    let meets = subst R (book-after takes kinds opens x y s t drawn one) (subst Q one.periods (subst P one.seed two.are)) in
    GoesByDeeds-join takes kinds opens (Met t.seed t.roster.periods (book_of t one.after)) (Are s.seed s.roster.periods start)
    x y z s t u drawn one two (whole s.seed s.roster.periods start one.deeds two.deeds one.are meets)

-- what opens it, and then what comes due
pub Proceeds-join : {S : Type 0} (takes : S → ℕ → TraceEvent → S → Type 0) (policies : List Accepted) (processors : ℕ)
    (kinds : List TaskKind) (most end : ℕ) (x y z : S) (s t u : Simulation)
    → GoesOnBy takes kinds (Opens policies processors kinds) x s y t
    → GoesOnFromBook takes kinds (AreMet kinds t.seed t.roster.periods most end) y t z u
    → GoesOnFromBook takes kinds (Proceeds policies processors kinds s.seed s.roster.periods most end) x s z u
Proceeds-join takes policies processors kinds most end =
    opened-join takes policies processors kinds (λ n p. AreMet kinds n p most end) (λ n p. Proceeds policies processors kinds n p most end)
    (λ n p b xs ys opens meets. record { opening = xs; met = ys; whole = refl; opens = opens; meets = meets })

-- a simulation that opens, and then meets exactly that many things, proceeds by that many
pub ProceedsBy-join : {S : Type 0} (takes : S → ℕ → TraceEvent → S → Type 0) (policies : List Accepted) (processors : ℕ)
    (kinds : List TaskKind) (count end : ℕ) (x y z : S) (s t u : Simulation)
    → GoesOnBy takes kinds (Opens policies processors kinds) x s y t
    → GoesOnFromBook takes kinds (AreAllMet kinds t.seed t.roster.periods count end) y t z u
    → GoesOnFromBook takes kinds (ProceedsBy policies processors kinds s.seed s.roster.periods count end) x s z u
ProceedsBy-join takes policies processors kinds count end =
    opened-join takes policies processors kinds (λ n p. AreAllMet kinds n p count end)
    (λ n p. ProceedsBy policies processors kinds n p count end)
    (λ n p b xs ys opens meets. (record { opening = xs; met = ys; whole = refl; opens = opens; meets = meets.0 }, meets.1))

-- what comes due by an earlier instant comes due by a later, and fewer things are at most as many
pub GoesOnFromBook-within : {S : Type 0} (takes : S → ℕ → TraceEvent → S → Type 0) (kinds : List TaskKind) (seed : ℕ)
    (periods : Periods) (count most last end : ℕ) (x y : S) (s t : Simulation)
    → count ≤ most → last ≤ end → GoesOnFromBook takes kinds (AreAllMet kinds seed periods count last) x s y t
    → GoesOnFromBook takes kinds (AreMet kinds seed periods most end) x s y t
GoesOnFromBook-within takes kinds seed periods count most last end x y s t few low goes_on = λ drawn had firsts agreed.
    GoesByDeeds-weaker takes kinds (AreAllMet kinds seed periods count last (book_of s drawn))
    (AreMet kinds seed periods most end (book_of s drawn))
    (λ xs met. AreMet-within kinds seed periods count most last end (book_of s drawn) xs few low met.0) _ _ _ drawn _
    (goes_on drawn had firsts agreed)

-- exactly as many things come due by a later instant
pub GoesOnFromBook-all : {S : Type 0} (takes : S → ℕ → TraceEvent → S → Type 0) (kinds : List TaskKind) (seed : ℕ)
    (periods : Periods) (count most last end : ℕ) (x y : S) (s t : Simulation)
    → count ≡ most → last ≤ end → GoesOnFromBook takes kinds (AreAllMet kinds seed periods count last) x s y t
    → GoesOnFromBook takes kinds (AreAllMet kinds seed periods most end) x s y t
GoesOnFromBook-all takes kinds seed periods count most last end x y s t same low goes_on = λ drawn had firsts agreed.
    GoesByDeeds-weaker takes kinds (AreAllMet kinds seed periods count last (book_of s drawn))
    (AreAllMet kinds seed periods most end (book_of s drawn))
    (λ xs met. AreAllMet-within kinds seed periods count most last end (book_of s drawn) xs same low met) _ _ _ drawn _
    (goes_on drawn had firsts agreed)

-- where none is kept, each is that of its kind
pub firsts-none : (kinds : List TaskKind) (s : Simulation) → s.firsts.items ≡ [] → HasFirsts kinds s
firsts-none kinds s none number first there =
    absurd (true≢false (sym (ap is_some (sym (ap (λ (l : List ℕ). slice_get l number) none) ∙ there))))

-- a simulation by whose machine nothing was done yet
pub record IsNew (w : Workload) (d : Driver) (s : Simulation) : Type 0 where
  pub driver : s.driver ≡ d
  pub accounts : accounts_of s.roster ≡ (opening_book w.machine).accounts
  pub periods : s.roster.periods ≡ periods_of w.machine
  pub agreed : IsAgreed s.roster
  pub seed : s.seed ≡ w.machine.seed
  pub streams : s.streams.items ≡ []
  pub firsts : s.firsts.items ≡ []

-- one is new of which all of that holds
pub is-new : (w : Workload) (d : Driver) (s : Simulation)
    → s.driver ≡ d → accounts_of s.roster ≡ (opening_book w.machine).accounts → s.roster.periods ≡ periods_of w.machine
    → IsAgreed s.roster → s.seed ≡ w.machine.seed → s.streams.items ≡ [] → s.firsts.items ≡ []
    → IsNew w d s
is-new w d s driver accounts periods agreed seed streams firsts = record {
  driver = driver;
  accounts = accounts;
  periods = periods;
  agreed = agreed;
  seed = seed;
  streams = streams;
  firsts = firsts;
}

-- what holds of the deeds by which it goes on, by the seed, the periods and what was kept at its machine's making
abbrev By : Type 1
By = ℕ → Periods → Book → List Deed → Type 0

-- it goes on by some deeds
record Begun {S : Type 0} (takes : S → ℕ → TraceEvent → S → Type 0) (Are : By) (w : Workload) (d : Driver) (b : S)
    (s : Simulation) (c : S) (t : Simulation) : Type 0 where
  goes : GoesByDeeds takes w.tasks.items (Are s.seed s.roster.periods (book_of s [])) b s [] c t
  are : Are w.machine.seed (periods_of w.machine) (opening_book w.machine) goes.deeds
  leads : DeedsLead w.tasks.items w.machine.seed (periods_of w.machine) d (opening_book w.machine) goes.deeds
      goes.reports.reported t.driver (book_of t goes.after)

-- a new simulation that goes on from its opening does so by deeds with the seed and the periods of its workload
begun : {S : Type 0} (takes : S → ℕ → TraceEvent → S → Type 0) (b c : S) (Are : By) (w : Workload)
    (d : Driver) (s t : Simulation)
    → IsNew w d s → GoesOnFromBook takes w.tasks.items (Are s.seed s.roster.periods) b s c t
    → Begun takes Are w d b s c t
begun takes b c Are w d s t new goes_on =
    let kinds = w.tasks.items in
    let machine = w.machine in
    let met = goes_on [] new.streams (firsts-none kinds s new.firsts) new.agreed in
    let stood = book_of t met.after in
    let T : ℕ → Type 0 = λ x. DeedsLead kinds x s.roster.periods s.driver (book_of s []) met.deeds met.reports.reported t.driver stood in
    let P : Driver → Type 0 =
    λ x.
    DeedsLead kinds machine.seed (periods_of machine) x (opening_book machine) met.deeds met.reports.reported t.driver stood in
    let Q : Book → Type 0 = λ x. DeedsLead kinds machine.seed (periods_of machine) s.driver x met.deeds met.reports.reported t.driver stood in
    let R : Periods → Type 0 = λ x. DeedsLead kinds machine.seed x s.driver (book_of s []) met.deeds met.reports.reported t.driver stood in
    let opens : book_of s [] ≡ opening_book machine = ap (λ (x : Accounts). record { accounts = x; drawn = [] }) new.accounts in
    let K : ℕ → Type 0 = λ x. Are x s.roster.periods (book_of s []) met.deeds in
    let L : Periods → Type 0 = λ x. Are machine.seed x (book_of s []) met.deeds in
    let M : Book → Type 0 = λ x. Are machine.seed (periods_of machine) x met.deeds in
    record {
      goes = met;
      are = subst M opens (subst L new.periods (subst K new.seed met.are));
      leads = subst P new.driver (subst Q opens (subst R new.periods (subst T new.seed met.reports.holds)));
    }

-- what is reported of the opening machine, and then of the deeds by which it goes on
reported-begun : {S : Type 0} (takes : S → ℕ → TraceEvent → S → Type 0) (a b c : S) (Are : By) (w : Workload) (d : Driver)
    (s t : Simulation) (Holds : Reported → Type 0)
    → (first : Gets takes a b (λ reported. Starts w.machine.discipline w.machine.size reported d))
    → (begun : Begun takes Are w d b s c t) → Holds (first.reported ++ begun.goes.reports.reported)
    → Gets takes a c Holds
reported-begun takes a b c Are w d s t Holds first begun holds = record {
  reported = first.reported ++ begun.goes.reports.reported;
  taken = TakesAll-append takes a b c first.reported begun.goes.reports.reported first.taken begun.goes.reports.taken;
  holds = holds;
}

-- how it begins, by the deeds that open it and some that come due
abbrev beginning : {S : Type 0} (takes : S → ℕ → TraceEvent → S → Type 0) (a b c : S) (Are : By) (policies : List Accepted)
    (w : Workload) (d : Driver) (s t : Simulation)
    → (first : Gets takes a b (λ reported. Starts w.machine.discipline w.machine.size reported d)) → (begun : Begun takes Are w d b s c t)
    → ProceedsIn policies w w.machine.seed (periods_of w.machine) (opening_book w.machine) begun.goes.deeds
    → SimulationBegins policies w (first.reported ++ begun.goes.reports.reported)
beginning takes a b c Are policies w d s t first begun proceeds =
    let kinds = w.tasks.items in
    let machine = w.machine in
    let met = begun.goes in
    record {
      opening = d;
      closing = t.driver;
      deeds = met.deeds;
      book = book_of t met.after;
      first = first.reported;
      more = met.reports.reported;
      starts = first.holds;
      drives =
          drives-of-deeds kinds machine.seed (periods_of machine) d t.driver (opening_book machine) (book_of t met.after)
          met.deeds met.reports.reported begun.leads;
      leads = begun.leads;
      whole = refl;
      proceeds = proceeds;
    }

-- some of what comes due is met
begins-of : {S : Type 0} (takes : S → ℕ → TraceEvent → S → Type 0) (a b c : S) (policies : List Accepted)
    (w : Workload) (d : Driver) (s t : Simulation)
    → Gets takes a b (λ reported. Starts w.machine.discipline w.machine.size reported d)
    → Begun takes (ProceedsIn policies w) w d b s c t
    → Gets takes a c (SimulationBegins policies w)
begins-of takes a b c policies w d s t first begun =
    reported-begun takes a b c (ProceedsIn policies w) w d s t (SimulationBegins policies w) first begun
    (beginning takes a b c (ProceedsIn policies w) policies w d s t first begun begun.are)

-- a bound that 64 bits do not count is cut to the most that they count
all-of-64-bits : (duration at_once : ℕ) → 2 ^ 64 ≤ (duration + 1) * at_once → min ((duration + 1) * at_once) (2 ^ 64 - 1) ≡ 2 ^ 64 - 1
all-of-64-bits duration at_once large = omega (arith, large)

-- where 64 bits do not count the bound, exactly as many things come due as 64 bits count
pub too-long-of : {S : Type 0} (takes : S → ℕ → TraceEvent → S → Type 0) (a b c : S) (policies : List Accepted)
    (w : Workload) (d : Driver) (s t : Simulation)
    → Gets takes a b (λ reported. Starts w.machine.discipline w.machine.size reported d) → IsNew w d s
    → 2 ^ 64 ≤ (w.machine.duration + 1) * steps_at_once w → ComesToBound takes policies w b s c t
    → Gets takes a c (IsTooLong policies w)
too-long-of takes a b c policies w d s t first new large runs =
    let begun = begun takes b c (ProceedsOut policies w) w d s t new runs in
    let many = begun.are.1 ∙ all-of-64-bits w.machine.duration (steps_at_once w) large in
    reported-begun takes a b c (ProceedsOut policies w) w d s t (IsTooLong policies w) first begun
    (record { begins = beginning takes a b c (ProceedsOut policies w) policies w d s t first begun begun.are.0; many = many })

-- what is reported of the opening machine, and then of all deeds to the end
simulation-of : {S : Type 0} (takes : S → ℕ → TraceEvent → S → Type 0) (a b c : S) (policies : List Accepted)
    (w : Workload) (d : Driver) (s t : Simulation)
    → Gets takes a b (λ reported. Starts w.machine.discipline w.machine.size reported d) → IsNew w d s
    → RunsToLastTicks takes policies w.tasks.items (most_steps w) w.machine.duration (processors_in w.machine.size) b s c t
    → Gets takes a c (IsSimulation policies w)
simulation-of takes a b c policies w d s t first new runs =
    let kinds = w.tasks.items in
    let machine = w.machine in
    let ended = runs.ended in
    let begun = begun takes b runs.sink (ProceedsIn policies w) w d s ended new runs.proceeds in
    let met = begun.goes in
    let ticks = runs.ticks met.after met.streams met.firsts in
    let stood = book_of ended met.after in
    let U : ℕ → Type 0 =
    λ x.
    DeedsLead kinds x ended.roster.periods ended.driver stood ticks.deeds ticks.reports.reported t.driver
    (book_of t ticks.after) in
    let V : Periods → Type 0 =
    λ x. DeedsLead kinds machine.seed x ended.driver stood ticks.deeds ticks.reports.reported t.driver (book_of t ticks.after) in
    let none =
    subst (λ (p : Periods). NothingComes p.end (accounts_of ended.roster)) (met.periods ∙ new.periods)
    (runs.nothing_due (met.agrees new.agreed)) in
    let last = subst V (met.periods ∙ new.periods) (subst U (met.seed ∙ new.seed) ticks.reports.holds) in
    let deeds = met.deeds ++ ticks.deeds in
    let reported = met.reports.reported ++ ticks.reports.reported in
    let leads =
    DeedsLead-append kinds machine.seed (periods_of machine) d ended.driver t.driver (opening_book machine) stood
    (book_of t ticks.after) met.deeds ticks.deeds met.reports.reported ticks.reports.reported begun.leads last in
    record {
      reported = first.reported ++ reported;
      taken =
          TakesAll-append takes a b c first.reported reported first.taken
          (TakesAll-append takes b runs.sink c met.reports.reported ticks.reports.reported met.reports.taken ticks.reports.taken);
      holds = record {
        opening = d;
        closing = t.driver;
        deeds = deeds;
        book = book_of t ticks.after;
        first = first.reported;
        more = reported;
        starts = first.holds;
        drives =
            drives-of-deeds kinds machine.seed (periods_of machine) d t.driver (opening_book machine)
            (book_of t ticks.after) deeds reported leads;
        leads = leads;
        whole = refl;
        ends = record {
          until = met.deeds;
          last = ticks.deeds;
          whole = refl;
          proceeds = begun.are;
          reported = met.reports.reported;
          driver = ended.driver;
          book = stood;
          leads = begun.leads;
          none = none;
          over = runs.over;
          ticks = ticks.are;
        };
      };
    }

-- what is reported of the opening machine, and then of all deeds, where the sink may have enough before the end
pub followed-of : {S : Type 0} (takes : S → ℕ → TraceEvent → S → Type 0) (has_enough : S → Bool) (a b c : S)
    (policies : List Accepted) (w : Workload) (d : Driver) (s t : Simulation)
    → Gets takes a b (λ reported. Starts w.machine.discipline w.machine.size reported d) → IsNew w d s
    → RunsToEndOrEnough takes has_enough policies w b s c t
    → Gets takes a c (IsFollowed (has_enough c) policies w)
followed-of takes has_enough a b c policies w d s t first new runs =
    elim runs [
      | inl whole ↦
          let g = simulation-of takes a b c policies w d s t first new whole in
          record { reported = g.reported; taken = g.taken; holds = inl g.holds }
      | inr part ↦
          let g = begins-of takes a b c policies w d s t first (begun takes b c (ProceedsIn policies w) w d s t new part.1) in
          record { reported = g.reported; taken = g.taken; holds = inr (part.0, g.holds) }
    ]

-- a sink that has not enough got all of it
pub followed_whole : {S : Type 0} (takes : S → ℕ → TraceEvent → S → Type 0) (a c : S) (enough : Bool)
    (policies : List Accepted) (w : Workload)
    → enough ≡ false → Gets takes a c (IsFollowed enough policies w)
    → Gets takes a c (IsSimulation policies w)
followed_whole takes a c enough policies w wants g = record {
  reported = g.reported;
  taken = g.taken;
  holds = elim g.holds [
    | inl whole ↦ whole
    | inr part ↦ absurd (true≢false (sym part.0 ∙ wants))
  ];
}
