-- A simulation that opens well: once all tasks are there, it goes well from instant 0.
use Rattle.std.proofs.Common.{◌≡◌, ℕ, ◌+◌, ◌<◌, List, [], ◌∷◌, length, None, Some, refl, sym, subst, ap, ◌∙◌, arith}
use Rattle.std.specs.Prelude.{slice_get}
use Rattle.bq_parts.specs.declared.event.Event.TheVariants.{Draw, Install}
use Rattle.bq_parts.specs.declared.reply.Reply.TheVariants.{Drawn}
use Rattle.bq_parts.specs.World.{count_in, opening_world}
use Rattle.bq_trace.specs.TraceEvents.{TraceEvent, Reported}
use Rattle.bq_verify.specs.Accepted.{Accepted}
use Rattle.bq_words.specs.Sizes.{processors_in}
use Rattle.bq_words.proofs.SizeLemmas.{processors_in-few}
use Rattle.bq_workload.specs.declared.periods.Periods.{Periods}
use Rattle.bq_workload.specs.declared.workload.TaskKind.{TaskKind}
use Rattle.bq_workload.specs.declared.workload.Workload.{Workload}
use Rattle.bq_workload.specs.Accounts.{Accounts}
use Rattle.bq_workload.specs.Kinds.{tasks_in}
use Rattle.bq_workload.specs.Soundness.{first_flaw}
use Rattle.bq_workload.proofs.SoundLemmas.{sound-few}
use Rattle.bq_simulate.specs.declared.driver.Driver.{Driver}
use Rattle.bq_simulate.specs.declared.simulation.Simulation.{Simulation}
use Rattle.bq_simulate.specs.Actions.{first_task_of}
use Rattle.bq_simulate.specs.Deeds.{Book, Deed, Happens, DeedsLead}
use Rattle.bq_simulate.specs.Drives.{Starts}
use Rattle.bq_simulate.specs.Kept.{HasAllFirsts, StandAtActions, WereDrawn}
use Rattle.bq_simulate.specs.KeptLaws.{DeedsLeadIn}
use Rattle.bq_simulate.specs.GoingWell.{SimulationGoesWell, IsOpening, OpensWell, StartsWell}
use Rattle.bq_simulate.specs.Simulations.{GoesOnForAnyKinds, GoesOnBy, GoesOnFromBook, GoesOnUnreported, book_of, opening_book, periods_of, with_seed}
use Rattle.bq_simulate.specs.Steps.{AreAdmitted, AreInstalled, AreJustEvents, all_processors, installs_of}
use Rattle.bq_simulate.proofs.AllIsKeptLemmas.{none_stands}
use Rattle.bq_simulate.proofs.DeedLemmas.{GoesOnBy-unreported}
use Rattle.bq_simulate.proofs.GoesWellLemmas.{processors_kept}
use Rattle.bq_simulate.proofs.SimulationAgreeLemmas.{admitted_open, draw_opens, install_opens, installed_opens, just_kept, none_kept, opening_opens}
use Rattle.bq_simulate.proofs.StandsAtActionLemmas.{standing_is_kept}
use Rattle.bq_simulate.proofs.StreamLemmas.{streams_count}
use Rattle.bq_simulate.proofs.TasksOfKindLemmas.{kind-within}
use Rattle.bq_simulate.proofs.WholeSimulationLemmas.{IsNew, firsts-none}
use Rattle.bq_simulate.proofs.WorldGenerationLemmas.{generations_are_newer}

-- deeds that keep an opening, and lead from one number of tasks to another
abbrev pub Opening : Workload → ℕ → ℕ → ℕ → (List Deed → Type 0) → Type 0
Opening w seed from to Are =
    (d e : Driver) (b c : Book) (deeds : List Deed) (reported : Reported) → Are deeds →
    DeedsLeadIn (with_seed w seed) d b deeds reported e c → IsOpening (processors_in w.machine.size) from d b →
    IsOpening (processors_in w.machine.size) to e c

-- by those it opens well, where the tasks are counted
pub opens-well : {S : Type 0} (takes : S → ℕ → TraceEvent → S → Type 0) (Are : List Deed → Type 0) (x y : S)
    (w : Workload) (from to : ℕ) (s t : Simulation)
    → Opening w s.seed from to Are → t.counts.tasks ≡ to → GoesOnBy takes w.tasks.items Are x s y t → OpensWell w from s
    → OpensWell w to t
opens-well takes Are x y w from to s t keep counted goes_on h =
    let kinds = w.tasks.items in
    let g = goes_on h.drawn h.streams h.firsts in
    let was = book_of s h.drawn in
    let is = book_of t g.after in
    let leads : DeedsLeadIn (with_seed w s.seed) s.driver was g.deeds g.reports.reported t.driver is =
    subst (λ (p : Periods). DeedsLead kinds s.seed p s.driver was g.deeds g.reports.reported t.driver is)
    h.periods g.reports.holds in
    record {
      sound = h.sound;
      periods = g.periods ∙ h.periods;
      drawn = g.after;
      streams = g.streams;
      firsts = g.firsts;
      opening = keep s.driver t.driver was is g.deeds g.reports.reported g.are leads h.opening;
      standing = standing_is_kept (with_seed w s.seed) s.driver t.driver was is g.deeds g.reports.reported h.sound leads h.standing;
      counted = counted;
      agreed = g.agrees h.agreed;
    }

-- an opening stays one, with as many tasks, where no deed is done
pub nothing-opens : (w : Workload) (seed tasks : ℕ) → Opening w seed tasks tasks (AreJustEvents [])
nothing-opens w seed tasks d e b c deeds reported none leads h =
    none_kept (IsOpening (processors_in w.machine.size) tasks) w.tasks.items seed (periods_of w.machine) d e b c deeds
    reported none leads h

-- the answer to a draw is the generation that it gave
abbrev pub IsDrawn : ℕ → List Deed → Type 0
IsDrawn generation deeds = deeds ≡ Happens Draw (Drawn generation) ∷ []

-- an opening stays one, with as many tasks, after a draw
pub draw-opens : (w : Workload) (seed tasks generation : ℕ) → Opening w seed tasks tasks (IsDrawn generation)
draw-opens w seed tasks generation d e b c deeds reported is leads h =
    let n = processors_in w.machine.size in
    let periods = periods_of w.machine in
    just_kept (IsOpening n tasks) (λ processor. Draw) (λ processor. draw_opens n tasks) w.tasks.items seed periods d e b c
    (0 ∷ []) deeds reported (Drawn generation, [], is, refl) leads h

-- an opening stays one, with as many tasks, after the installs of a policy
pub installs-open : (w : Workload) (seed tasks count generation : ℕ) (policy : Accepted)
    → Opening w seed tasks tasks (AreJustEvents (installs_of count generation policy))
installs-open w seed tasks count generation policy d e b c deeds reported just leads h =
    let n = processors_in w.machine.size in
    just_kept (IsOpening n tasks) (λ processor. Install processor policy.hook generation (Some policy))
    (install_opens n tasks generation policy) w.tasks.items seed (periods_of w.machine) d e b c
    (all_processors count) deeds reported just leads h

-- the installs of several policies
pub policies-open : (w : Workload) (seed tasks : ℕ) (policies : List Accepted)
    → Opening w seed tasks tasks (AreInstalled (processors_in w.machine.size) policies)
policies-open w seed tasks policies d e b c deeds reported are leads h =
    installed_opens w.tasks.items seed (periods_of w.machine) d e b c (processors_in w.machine.size)
    tasks policies deeds reported are leads h

-- a simulation opens well once policies are installed
pub installed-well : {S : Type 0} (takes : S → ℕ → TraceEvent → S → Type 0) (x y : S) (w : Workload)
    (policies : List Accepted) (count : ℕ) (s t : Simulation)
    → count ≡ processors_in w.machine.size → GoesOnForAnyKinds takes (AreInstalled count policies) x s y t
    → t.counts ≡ s.counts → OpensWell w 0 s
    → OpensWell w 0 t
installed-well takes x y w policies count s t all goes_on counts h =
    let installs = subst (λ (n : ℕ). GoesOnBy takes w.tasks.items (AreInstalled n policies) x s y t) all (goes_on w.tasks.items) in
    opens-well takes (AreInstalled (processors_in w.machine.size) policies) x y w 0 0 s t (policies-open w s.seed 0 policies)
    (ap (λ k. k.tasks) counts ∙ h.counted) installs h

-- all processors are there from then on
pub processors-there : {S : Type 0} (takes : S → ℕ → TraceEvent → S → Type 0) (Are : Book → List Deed → Type 0) (x y : S)
    (w : Workload) (tasks : ℕ) (s t : Simulation)
    → GoesOnFromBook takes w.tasks.items Are x s y t → OpensWell w tasks s
    → count_in t.driver.machine.world ≡ processors_in w.machine.size
processors-there takes Are x y w tasks s t goes_on h =
    let g = goes_on h.drawn h.streams h.firsts h.agreed in
    processors_kept w.tasks.items s.seed s.roster.periods s.driver t.driver (book_of s h.drawn) (book_of t g.after)
    g.deeds g.reports.reported g.reports.holds
    ∙ h.opening.processors_there

-- a simulation opens well once a kind has begun
pub begun-well : {S : Type 0} (takes : S → ℕ → TraceEvent → S → Type 0) (w : Workload) (tasks : ℕ) (x : S) (s t : Simulation)
    → GoesOnUnreported w.tasks.items (AreJustEvents []) s t → t.counts ≡ s.counts → OpensWell w tasks s → OpensWell w tasks t
begun-well takes w tasks x s t goes_on counts h =
    opens-well takes (AreJustEvents []) x x w tasks tasks s t (nothing-opens w s.seed tasks) (ap (λ k. k.tasks) counts ∙ h.counted)
    (GoesOnBy-unreported takes w.tasks.items (AreJustEvents []) x s t goes_on) h

-- an opening stays one, with more tasks, after the admission of some tasks of a kind
pub tasks-open : (w : Workload) (seed number : ℕ) (kind : TaskKind) (task count : ℕ)
    → Opening w seed task (task + count) (AreAdmitted (processors_in w.machine.size) number kind task count)
tasks-open w seed number kind task count d e b c deeds reported are leads h =
    admitted_open w.tasks.items seed (periods_of w.machine) d e b c (processors_in w.machine.size) number
    kind task count deeds reported are leads h

-- a task of a kind is one of 1,024 at most
pub few_before : (w : Workload) (number : ℕ) (kind : TaskKind) (task count : ℕ)
    → first_flaw w ≡ None → slice_get w.tasks.items number ≡ Some kind → task ≡ first_task_of w.tasks.items number + count
    → count < kind.count
    → task < 1024
few_before w number kind task count sound there is before =
    omega (arith, is, before, kind-within w.tasks.items number kind there, sound-few w sound)

-- there are as many streams as tasks
pub streams-there : (w : Workload) (tasks : ℕ) (s : Simulation) → OpensWell w tasks s → length s.streams.items ≡ tasks
streams-there w tasks s h = ap length h.streams ∙ streams_count s.seed 0 h.drawn ∙ h.standing.streams ∙ h.opening.tasks_there

-- once all tasks are there it has opened, and goes well from instant 0
pub opened-well : (w : Workload) (s : Simulation) → HasAllFirsts w.tasks.items s → OpensWell w (tasks_in w.tasks.items) s → SimulationGoesWell w 0 s
opened-well w s all h =
    let o = h.opening in
    record {
      sound = h.sound;
      until = omega arith;
      periods = h.periods;
      drawn = h.drawn;
      streams = h.streams;
      firsts = h.firsts;
      all_firsts = all;
      kept = record {
        agrees = o.agree;
        on_time = o.on_time;
        read = omega (arith, o.read);
        standing = h.standing;
        all = o.tasks_there;
        few = omega (arith, o.processors_there, processors_in-few w.machine.size);
      };
      agreed = h.agreed;
    }

-- a simulation by whose machine nothing was done starts well
pub starts-well : (w : Workload) (seed : ℕ) (d : Driver) (s : Simulation) (first : Reported)
    → first_flaw w ≡ None → Starts w.machine.discipline w.machine.size first d → IsNew (with_seed w seed) d s → s.counts.tasks ≡ 0
    → StartsWell w s
starts-well w seed d s first sound starts new counted =
    let n = processors_in w.machine.size in
    let start : Book = opening_book w.machine in
    let is : start ≡ book_of s [] = ap (λ (x : Accounts). record { accounts = x; drawn = [] }) (sym new.accounts) in
    let driver : d ≡ s.driver = sym new.driver in
    let world : s.driver.machine.world ≡ opening_world n =
    ap (λ (x : Driver). x.machine.world) new.driver ∙ ap (λ m. m.world) starts.machine in
    record {
      opens = record {
        sound = sound;
        periods = new.periods;
        drawn = [];
        streams = new.streams;
        firsts = firsts-none w.tasks.items s new.firsts;
        opening = subst (λ x. IsOpening n 0 x (book_of s [])) driver (subst (λ x. IsOpening n 0 d x) is (opening_opens w d first starts));
        standing = subst (λ x. StandAtActions w.tasks.items x) is (none_stands w);
        counted = counted;
        agreed = new.agreed;
      };
      none = ap length new.firsts;
      generations = record {
        many = ap (λ x. x.drawn) world;
        were = subst (λ x. WereDrawn x) (sym world) (generations_are_newer.opened n);
      };
    }
