-- Deeds by which a simulation goes on: one after another, of each kind, and none.
use Rattle.std.proofs.Common.{◌≡◌, ℕ, true, List, [], ◌∷◌, ◌++◌, length, length-append, Option, Some, refl, sym, ◌∙◌, ap, subst, append_assoc, append-nil, arith}
use Rattle.std.specs.Option.{option_map_or}
use Rattle.std.specs.Prelude.{slice_get, slice_set}
use Rattle.bq_parts.specs.declared.event.Event.{Event}
use Rattle.bq_parts.specs.declared.event.Event.TheVariants.{BeginWake, EndWake, Drain}
use Rattle.bq_parts.specs.declared.reply.Reply.{Reply}
use Rattle.bq_trace.specs.TraceEvents.{TraceEvent, Reported, Gets}
use Rattle.bq_trace.proofs.TakingLemmas.{TakesAll-append}
use Rattle.bq_simulate.specs.declared.driver.Driver.{Driver}
use Rattle.bq_simulate.specs.Drives.{EventIsDriven, Drives, EventsAreDriven, PlacesWoken}
use Rattle.bq_workload.specs.Streams.{stream_of_task}
use Rattle.bq_workload.specs.declared.action.Action.{Action}
use Rattle.bq_workload.specs.declared.workload.TaskKind.{TaskKind}
use Rattle.bq_workload.specs.declared.progress.TaskProgress.{TaskProgress}
use Rattle.bq_workload.specs.declared.periods.Periods.{Periods}
use Rattle.bq_workload.specs.Accounts.{Accounts, IsPhaseDone, LooksAt, TicksAt, accounts_of, beaten, accounts_charged, looked, of_task}
use Rattle.bq_workload.specs.TaskProgress.{fresh_task, progress_woken}
use Rattle.bq_workload.specs.Dues.{IsSource}
use Rattle.bq_workload.specs.Next.{IsAgreed, StaysAgreed}
use Rattle.bq_workload.proofs.ProcessorAgreesLemmas.{both}
use Rattle.bq_workload.proofs.RosterAgreesLemmas.{same-accounts}
use Rattle.bq_simulate.specs.declared.simulation.Simulation.{Simulation}
use Rattle.bq_simulate.specs.Actions.{IsTaskOfKind, acted, aim_of, asked_by, first_task_of, next_action, kind_start}
use Rattle.bq_simulate.specs.Deeds.{Acts, Beats, Book, Deed, Happens, MayCome, IsWoken, Joins, DeedsLead, Looks, Misses, Reaches, Rings, after_act, after_answer, after_beat, after_event, after_look, drawn_with, events_of, is_busy, task_added, length_taken}
use Rattle.bq_simulate.specs.Simulations.{KeepsAsManyFirsts, GoesOnForAnyKinds, DrawsFor, GoesByDeeds, HasDrawn, HasFirsts, GoesOnBy, OnlyPlansOrCounts, GoesOnUnreported, SimulationStays, book_of, streams_after}
use Rattle.bq_simulate.specs.Steps.{AreJustEvents, AreWake, FollowsAction, IsAct, IsJoin}
use Rattle.bq_simulate.proofs.StreamLemmas.{gives_if_asked, opened-streams}
use Rattle.bq_simulate.proofs.TasksOfKindLemmas.{firsts-pushed}

-- where some deeds lead to a state, and others lead on from it, all of them lead from the first state to the last
pub DeedsLead-append : (kinds : List TaskKind) (seed : ℕ) (periods : Periods) (d m e : Driver) (a b c : Book)
    (xs ys : List Deed) (reported more : Reported)
    → DeedsLead kinds seed periods d a xs reported m b → DeedsLead kinds seed periods m b ys more e c
    → DeedsLead kinds seed periods d a (xs ++ ys) (reported ++ more) e c
DeedsLead-append kinds seed periods d m e a b c [] ys reported more h k =
    let P : Reported → Type 0 = λ t. DeedsLead kinds seed periods d a ys (t ++ more) e c in
    let Q : Driver → Type 0 = λ x. DeedsLead kinds seed periods x a ys more e c in
    let R : Book → Type 0 = λ x. DeedsLead kinds seed periods m x ys more e c in
    subst P (sym h.0) (subst Q h.1 (subst R h.2 k))
DeedsLead-append kinds seed periods d m e a b c (Happens event reply ∷ xs) ys reported more
    (due, mid, first, rest, does, leads, whole) k = (
      due,
      mid,
      first,
      rest ++ more,
      does,
      DeedsLead-append kinds seed periods mid m e (after_answer periods event reply a) b c xs ys rest more leads k,
      ap (λ t. t ++ more) whole ∙ append_assoc first rest more,
    )
DeedsLead-append kinds seed periods d m e a b c (Joins kind home ∷ xs) ys reported more (of, leads) k =
    (of, DeedsLead-append kinds seed periods d m e (task_added kinds kind home a) b c xs ys reported more leads k)
DeedsLead-append kinds seed periods d m e a b c (Acts at task now action aim ∷ xs) ys reported more (c', done, is, to, leads) k = (
  c',
  done,
  is,
  to,
  DeedsLead-append kinds seed periods d m e (after_act kinds seed at task now c' a) b c xs ys reported more leads k,
)
DeedsLead-append kinds seed periods d m e a b c (Rings task now ∷ xs) ys reported more (c', there, asleep, timer, leads) k =
    (c', there, asleep, timer, DeedsLead-append kinds seed periods d m e a b c xs ys reported more leads k)
DeedsLead-append kinds seed periods d m e a b c (Reaches task ∷ xs) ys reported more (c', there, waits, leads) k =
    (c', there, waits, DeedsLead-append kinds seed periods d m e a b c xs ys reported more leads k)
DeedsLead-append kinds seed periods d m e a b c (Misses task ∷ xs) ys reported more (c', there, waits, leads) k =
    (c', there, waits, DeedsLead-append kinds seed periods d m e a b c xs ys reported more leads k)
DeedsLead-append kinds seed periods d m e a b c (Beats at now ∷ xs) ys reported more (ticks, busy, leads) k =
    (ticks, busy, DeedsLead-append kinds seed periods d m e (after_beat periods at now a) b c xs ys reported more leads k)
DeedsLead-append kinds seed periods d m e a b c (Looks at now source ∷ xs) ys reported more (looks, from, leads) k =
    (looks, from, DeedsLead-append kinds seed periods d m e (after_look periods at now a) b c xs ys reported more leads k)

-- the events among them were driven
pub drives-of-deeds : (kinds : List TaskKind) (seed : ℕ) (periods : Periods) (d e : Driver) (a b : Book) (xs : List Deed)
    (reported : Reported)
    → DeedsLead kinds seed periods d a xs reported e b → Drives d (events_of xs) reported e
drives-of-deeds kinds seed periods d e a b [] reported h = (h.0, h.1)
drives-of-deeds kinds seed periods d e a b (Happens event reply ∷ xs) reported (due, mid, first, rest, does, leads, whole) = (
  reply,
  mid,
  first,
  rest,
  does,
  drives-of-deeds kinds seed periods mid e (after_answer periods event reply a) b xs rest leads,
  whole,
)
drives-of-deeds kinds seed periods d e a b (Joins kind home ∷ xs) reported (of, leads) =
    drives-of-deeds kinds seed periods d e (task_added kinds kind home a) b xs reported leads
drives-of-deeds kinds seed periods d e a b (Acts at task now action aim ∷ xs) reported (c, done, is, to, leads) =
    drives-of-deeds kinds seed periods d e (after_act kinds seed at task now c a) b xs reported leads
drives-of-deeds kinds seed periods d e a b (Rings task now ∷ xs) reported (c, there, asleep, timer, leads) =
    drives-of-deeds kinds seed periods d e a b xs reported leads
drives-of-deeds kinds seed periods d e a b (Reaches task ∷ xs) reported (c, there, waits, leads) =
    drives-of-deeds kinds seed periods d e a b xs reported leads
drives-of-deeds kinds seed periods d e a b (Misses task ∷ xs) reported (c, there, waits, leads) =
    drives-of-deeds kinds seed periods d e a b xs reported leads
drives-of-deeds kinds seed periods d e a b (Beats at now ∷ xs) reported (ticks, busy, leads) =
    drives-of-deeds kinds seed periods d e (after_beat periods at now a) b xs reported leads
drives-of-deeds kinds seed periods d e a b (Looks at now source ∷ xs) reported (looks, from, leads) =
    drives-of-deeds kinds seed periods d e (after_look periods at now a) b xs reported leads

-- from what its streams have given a simulation goes on, and then on
pub GoesByDeeds-join : {S : Type 0} (takes : S → ℕ → TraceEvent → S → Type 0) (kinds : List TaskKind)
    (A B C : List Deed → Type 0) (x y z : S) (s t u : Simulation) (drawn : List ℕ)
    (first : GoesByDeeds takes kinds A x s drawn y t) (second : GoesByDeeds takes kinds B y t first.after z u)
    → C (first.deeds ++ second.deeds) → GoesByDeeds takes kinds C x s drawn z u
GoesByDeeds-join takes kinds A B C x y z s t u drawn first second are =
    let P : Periods → Type 0 = λ periods.
    DeedsLead kinds t.seed periods t.driver (book_of t first.after) second.deeds second.reports.reported u.driver
    (book_of u second.after) in
    let Q : ℕ → Type 0 = λ seed.
    DeedsLead kinds seed s.roster.periods t.driver (book_of t first.after) second.deeds second.reports.reported u.driver
    (book_of u second.after) in
    record {
      deeds = first.deeds ++ second.deeds;
      after = second.after;
      periods = second.periods ∙ first.periods;
      seed = second.seed ∙ first.seed;
      streams = second.streams;
      firsts = second.firsts;
      begun = omega (arith, first.begun, second.begun);
      agrees = λ h. second.agrees (first.agrees h);
      reports = record {
        reported = first.reports.reported ++ second.reports.reported;
        taken = TakesAll-append takes x y z first.reports.reported second.reports.reported first.reports.taken second.reports.taken;
        holds =
            DeedsLead-append kinds s.seed s.roster.periods s.driver t.driver u.driver (book_of s drawn) (book_of t first.after)
            (book_of u second.after) first.deeds second.deeds first.reports.reported second.reports.reported
            first.reports.holds (subst Q first.seed (subst P first.periods second.reports.holds));
      };
      are = are;
    }

-- a simulation that goes on by some deeds, and then by others, goes on by all of them
pub GoesOnBy-join : {S : Type 0} (takes : S → ℕ → TraceEvent → S → Type 0) (kinds : List TaskKind) (A B C : List Deed → Type 0)
    → ((xs ys : List Deed) → A xs → B ys → C (xs ++ ys)) → (x y z : S) (s t u : Simulation) → GoesOnBy takes kinds A x s y t
    → GoesOnBy takes kinds B y t z u
    → GoesOnBy takes kinds C x s z u
GoesOnBy-join takes kinds A B C join x y z s t u goes more drawn had firsts =
    let first = goes drawn had firsts in
    let second = more first.after first.streams first.firsts in
    GoesByDeeds-join takes kinds A B C x y z s t u drawn first second (join first.deeds second.deeds first.are second.are)

-- from what its streams have given, a simulation that goes on by deeds of one form does by any form that this implies
pub GoesByDeeds-weaker : {S : Type 0} (takes : S → ℕ → TraceEvent → S → Type 0) (kinds : List TaskKind)
    (A B : List Deed → Type 0)
    → ((xs : List Deed) → A xs → B xs) → (x y : S) (s : Simulation) (drawn : List ℕ) (t : Simulation)
    → GoesByDeeds takes kinds A x s drawn y t
    → GoesByDeeds takes kinds B x s drawn y t
GoesByDeeds-weaker takes kinds A B weaker x y s drawn t h = record {
  deeds = h.deeds;
  after = h.after;
  periods = h.periods;
  seed = h.seed;
  streams = h.streams;
  firsts = h.firsts;
  begun = h.begun;
  agrees = h.agrees;
  reports = h.reports;
  are = weaker h.deeds h.are;
}

-- a simulation that goes on by deeds of one form goes on by deeds of any form that this implies
pub GoesOnBy-weaker : {S : Type 0} (takes : S → ℕ → TraceEvent → S → Type 0) (kinds : List TaskKind) (A B : List Deed → Type 0)
    → ((xs : List Deed) → A xs → B xs) → (x y : S) (s t : Simulation) → GoesOnBy takes kinds A x s y t
    → GoesOnBy takes kinds B x s y t
GoesOnBy-weaker takes kinds A B weaker x y s t goes drawn had firsts =
    GoesByDeeds-weaker takes kinds A B weaker x y s drawn t (goes drawn had firsts)

-- of deeds of which nothing is reported a sink gets nothing
pub GoesOnBy-unreported : {S : Type 0} (takes : S → ℕ → TraceEvent → S → Type 0) (kinds : List TaskKind) (A : List Deed → Type 0)
    (x : S) (s t : Simulation)
    → GoesOnUnreported kinds A s t → GoesOnBy takes kinds A x s x t
GoesOnBy-unreported takes kinds A x s t goes_on drawn had firsts =
    let h = goes_on drawn had firsts in
    record {
      deeds = h.deeds;
      after = h.after;
      periods = h.periods;
      seed = h.seed;
      streams = h.streams;
      firsts = h.firsts;
      begun = h.begun;
      agrees = h.agrees;
      reports = record { reported = []; taken = refl; holds = h.leads };
      are = h.are;
    }

-- streams that have not changed
pub streams-stay : (s t : Simulation) (drawn : List ℕ) → SimulationStays s t → HasDrawn s drawn → HasDrawn t drawn
streams-stay s t drawn stays had = ap (λ v. v.items) stays.streams ∙ had ∙ ap (λ n. streams_after n 0 drawn) (sym stays.seed)

-- the first tasks of kinds have not changed
pub firsts-stay : (kinds : List TaskKind) (s t : Simulation) → SimulationStays s t → HasFirsts kinds s → HasFirsts kinds t
firsts-stay kinds s t stays had number first there = had number first (ap (λ v. slice_get v.items number) (sym stays.firsts) ∙ there)

-- where the first tasks of kinds have not changed they are not fewer
begun-same : (s t : Simulation) → t.firsts ≡ s.firsts → KeepsAsManyFirsts s t
begun-same s t same = omega (arith, ap (λ v. length v.items) same)

-- a simulation that stays as it was has no fewer first tasks of kinds
begun-stay : (s t : Simulation) → SimulationStays s t → KeepsAsManyFirsts s t
begun-stay s t stays = begun-same s t stays.firsts

-- a simulation goes on by no deed where only plans and counts change
pub GoesOnBy-same : {S : Type 0} (takes : S → ℕ → TraceEvent → S → Type 0) (A : List Deed → Type 0)
    → A [] → (x : S) (s t : Simulation) → OnlyPlansOrCounts s t → GoesOnForAnyKinds takes A x s x t
GoesOnBy-same takes A none x s t same kinds drawn had firsts = record {
  deeds = [];
  after = drawn;
  periods = same.stays.periods;
  seed = same.stays.seed;
  streams = streams-stay s t drawn same.stays had;
  firsts = firsts-stay kinds s t same.stays firsts;
  begun = begun-stay s t same.stays;
  agrees = same.stays.agrees;
  reports = record {
    reported = [];
    taken = refl;
    holds = (refl, same.driver, ap (λ (a : Accounts). record { accounts = a; drawn = drawn }) same.accounts);
  };
  are = none;
}

-- no deed
abbrev AreNone : List Deed → Type 0
AreNone deeds = deeds ≡ []

-- a simulation goes on by the same deeds if only plans and counts change after them
pub GoesOnBy-then : {S : Type 0} (takes : S → ℕ → TraceEvent → S → Type 0) (kinds : List TaskKind) (A : List Deed → Type 0)
    (x y : S) (s t u : Simulation)
    → GoesOnBy takes kinds A x s y t → OnlyPlansOrCounts t u → GoesOnBy takes kinds A x s y u
GoesOnBy-then takes kinds A x y s t u first same =
    GoesOnBy-join takes kinds A AreNone A
    (λ xs ys are none. subst (λ (l : List Deed). A (xs ++ l)) (sym none) (subst A (sym (append-nil xs)) are)) x y y s t u
    first (GoesOnBy-same takes AreNone refl y t u same kinds)

-- what follows an action of a task, and comes to the one that it aims at
abbrev follows : List TaskKind → TaskProgress → ℕ → ℕ → Option Action → List Deed → Type 0
follows kinds c processor now action deeds = FollowsAction action (aim_of kinds c action) processor now deeds

-- an action is followed by what follows that action
pub FollowsAction-same : {S : Type 0} (takes : S → ℕ → TraceEvent → S → Type 0) (kinds : List TaskKind) (c : TaskProgress)
    (a b : Option Action) (processor now : ℕ) (x y : S) (s t : Simulation)
    → a ≡ b → GoesOnBy takes kinds (FollowsAction b (aim_of kinds c b) processor now) x s y t
    → GoesOnBy takes kinds (FollowsAction a (aim_of kinds c a) processor now) x s y t
FollowsAction-same takes kinds c a b processor now x y s t is goes_on =
    subst (λ (o : Option Action). GoesOnBy takes kinds (follows kinds c processor now o) x s y t) (sym is) goes_on

-- in one simulation nothing was done
pub OnlyPlansOrCounts-here : (s : Simulation) → OnlyPlansOrCounts s s
OnlyPlansOrCounts-here s = record {
  driver = refl;
  accounts = refl;
  stays = record { agrees = λ h. h; periods = refl; seed = refl; streams = refl; firsts = refl };
}

-- what a task becomes, where it is there
of_task_at : (f : TaskProgress → TaskProgress) (task : ℕ) (a : Accounts) (c : TaskProgress)
    → slice_get a.by_task task ≡ Some c
    → of_task f task a ≡ both (slice_set a.by_task task (f c)) a.by_processor
of_task_at f task a c there =
    ap (λ (o : Option TaskProgress). both (option_map_or (λ x. slice_set a.by_task task (f x)) o a.by_task) a.by_processor)
    there

-- a phase has ended, and the task does its next action, for which a length is drawn where it takes one
pub GoesOnUnreported-acts : (kinds : List TaskKind) (s m n t : Simulation) (processor task now length : ℕ) (action : Option Action)
    (c next : TaskProgress)
    → action ≡ next_action kinds c → SimulationStays s m → m.driver ≡ s.driver
    → accounts_of m.roster ≡ accounts_charged processor now (accounts_of s.roster) → IsPhaseDone (accounts_of m.roster) processor task c
    → DrawsFor task (asked_by (next_action kinds c)) m length n → next ≡ acted kinds (next_action kinds c) length now c
    → SimulationStays n t → t.driver ≡ n.driver → t.roster.by_task.items ≡ slice_set n.roster.by_task.items task next
    → t.roster.by_processor.items ≡ n.roster.by_processor.items
    → GoesOnUnreported kinds (IsAct processor task now action (aim_of kinds c action)) s t
GoesOnUnreported-acts kinds s m n t processor task now length action c next is ended driver counted done draws does set
    driver' by_task by_processor drawn had firsts =
    let asked = asked_by (next_action kinds c) in
    let g = gives_if_asked task asked m length n draws drawn (streams-stay s m drawn ended had) in
    let P : Accounts → Type 0 = λ a. IsPhaseDone a processor task c in
    let same = ap accounts_of g.roster in
    let there : slice_get n.roster.by_task.items task ≡ Some c = ap (λ (a : Accounts). slice_get a.by_task task) same ∙ done.there in
    let value : length ≡ length_taken s.seed task drawn asked = g.value ∙ ap (λ k. length_taken k task drawn asked) ended.seed in
    let becomes = does ∙ ap (λ l. acted kinds (next_action kinds c) l now c) value in
    let accounts =
    same-accounts _ _ _ _ by_task by_processor ∙ sym (of_task_at (λ _. next) task (accounts_of n.roster) c there)
    ∙ ap (of_task (λ _. next) task) (same ∙ counted)
    ∙ ap (λ (k : TaskProgress). of_task (λ _. k) task (accounts_charged processor now (accounts_of s.roster))) becomes in
    record {
      deeds = Acts processor task now action (aim_of kinds c action) ∷ [];
      after = drawn_with task drawn asked;
      periods = set.periods ∙ ap (λ r. r.periods) g.roster ∙ ended.periods;
      seed = set.seed ∙ g.seed ∙ ended.seed;
      streams = streams-stay n t (drawn_with task drawn asked) set g.streams;
      firsts = λ number first there.
          firsts number first (ap (λ v. slice_get v.items number) (sym (set.firsts ∙ g.firsts ∙ ended.firsts)) ∙ there);
      begun = begun-same s t (set.firsts ∙ g.firsts ∙ ended.firsts);
      agrees = λ h. set.agrees (subst IsAgreed (sym g.roster) (ended.agrees h));
      leads = (
        c,
        subst P counted done,
        is,
        ap (aim_of kinds c) is,
        (
          refl,
          driver' ∙ g.driver ∙ driver,
          ap (λ (a : Accounts). record { accounts = a; drawn = drawn_with task drawn asked }) accounts,
        ),
      );
      are = refl;
    }

-- a task is there, with its stream
pub GoesOnUnreported-joins : (kinds : List TaskKind) (s t : Simulation) (kind home : ℕ)
    → StaysAgreed s.roster t.roster → t.roster.periods ≡ s.roster.periods → t.seed ≡ s.seed → t.driver ≡ s.driver
    → t.firsts ≡ s.firsts → t.roster.by_task.items ≡ s.roster.by_task.items ++ fresh_task kind home (kind_start kinds kind) ∷ []
    → t.roster.by_processor.items ≡ s.roster.by_processor.items
    → t.streams.items ≡ s.streams.items ++ stream_of_task s.seed (length s.streams.items) ∷ []
    → IsTaskOfKind kinds (length s.roster.by_task.items) kind
    → GoesOnUnreported kinds (IsJoin kind home) s t
GoesOnUnreported-joins kinds s t kind home agrees periods seed driver kept by_task by_processor streams of drawn had firsts = record {
  deeds = Joins kind home ∷ [];
  after = drawn ++ 0 ∷ [];
  periods = periods;
  seed = seed;
  streams = opened-streams s t drawn seed streams had;
  firsts = λ number first there. firsts number first (ap (λ v. slice_get v.items number) (sym kept) ∙ there);
  begun = begun-same s t kept;
  agrees = agrees;
  leads = (
    of,
    (
      refl,
      driver,
      ap (λ (a : Accounts). record { accounts = a; drawn = drawn ++ 0 ∷ [] }) (same-accounts _ _ _ _ by_task by_processor),
    ),
  );
  are = refl;
}

-- the first task of the next kind is kept
pub GoesOnUnreported-begins : (kinds : List TaskKind) (s t : Simulation) (number : ℕ)
    → length s.firsts.items ≡ number → t.roster ≡ s.roster → t.seed ≡ s.seed → t.streams ≡ s.streams → t.driver ≡ s.driver
    → t.firsts.items ≡ s.firsts.items ++ first_task_of kinds number ∷ []
    → GoesOnUnreported kinds (AreJustEvents []) s t
GoesOnUnreported-begins kinds s t number long roster seed streams driver pushed drawn had firsts = record {
  deeds = [];
  after = drawn;
  periods = ap (λ r. r.periods) roster;
  seed = seed;
  streams = ap (λ v. v.items) streams ∙ had ∙ ap (λ n. streams_after n 0 drawn) (sym seed);
  firsts = λ n first there.
      firsts-pushed kinds s.firsts.items number long firsts n first (ap (λ (l : List ℕ). slice_get l n) (sym pushed) ∙ there);
  begun = omega (arith, ap (λ (l : List ℕ). length l) pushed, length-append s.firsts.items (first_task_of kinds number ∷ []));
  agrees = λ h. subst IsAgreed (sym roster) h;
  leads = (refl, driver, ap (λ r. record { accounts = accounts_of r; drawn = drawn }) roster);
  are = refl;
}

-- one deed of which nothing is reported and for which no length is drawn, and then what follows
pub GoesOnForAnyKinds-first : {S : Type 0} (takes : S → ℕ → TraceEvent → S → Type 0) (A B : List Deed → Type 0)
    (x y : S) (s t u : Simulation) (deed : Deed)
    → SimulationStays s t → ((kinds : List TaskKind) (drawn : List ℕ) →
    DeedsLead kinds s.seed s.roster.periods s.driver (book_of s drawn) (deed ∷ []) [] t.driver (book_of t drawn))
    → ((xs : List Deed) → A xs → B (deed ∷ xs)) → GoesOnForAnyKinds takes A x t y u
    → GoesOnForAnyKinds takes B x s y u
GoesOnForAnyKinds-first takes A B x y s t u deed stays leads first goes_on kinds =
    let one : List Deed → Type 0 = λ xs. xs ≡ deed ∷ [] in
    let quiet : GoesOnUnreported kinds one s t =
    λ drawn had firsts. record {
      deeds = deed ∷ [];
      after = drawn;
      periods = stays.periods;
      seed = stays.seed;
      streams = streams-stay s t drawn stays had;
      firsts = firsts-stay kinds s t stays firsts;
      begun = begun-stay s t stays;
      agrees = stays.agrees;
      leads = leads kinds drawn;
      are = refl;
    } in
    GoesOnBy-join takes kinds one A B (λ xs ys is are. subst (λ (l : List Deed). B (l ++ ys)) (sym is) (first ys are)) x x y s t
    u (GoesOnBy-unreported takes kinds one x s t quiet) (goes_on kinds)

-- in one simulation nothing changes
pub Stays-here : (s : Simulation) → SimulationStays s s
Stays-here s = record { agrees = λ h. h; periods = refl; seed = refl; streams = refl; firsts = refl }

-- a clock beats, and then what follows
pub GoesOnForAnyKinds-beats : {S : Type 0} (takes : S → ℕ → TraceEvent → S → Type 0) (A B : List Deed → Type 0) (x y : S)
    (s t u : Simulation) (processor now : ℕ)
    → TicksAt (accounts_of s.roster) processor now → is_busy (accounts_of s.roster) processor ≡ true → SimulationStays s t
    → t.driver ≡ s.driver → accounts_of t.roster ≡ beaten processor now s.roster.periods.tick (accounts_of s.roster)
    → ((xs : List Deed) → A xs → B (Beats processor now ∷ xs)) → GoesOnForAnyKinds takes A x t y u
    → GoesOnForAnyKinds takes B x s y u
GoesOnForAnyKinds-beats takes A B x y s t u processor now ticks busy stays driver accounts first goes_on =
    GoesOnForAnyKinds-first takes A B x y s t u (Beats processor now) stays
    (λ kinds drawn. (ticks, busy, (refl, driver, ap (λ (a : Accounts). record { accounts = a; drawn = drawn }) accounts))) first
    goes_on

-- a processor looks for a task to pull, and then what follows
pub GoesOnForAnyKinds-looks : {S : Type 0} (takes : S → ℕ → TraceEvent → S → Type 0) (A B : List Deed → Type 0) (x y : S)
    (s t u : Simulation) (processor now : ℕ) (source : Option ℕ)
    → LooksAt (accounts_of s.roster) processor now → IsSource s.roster.by_processor.items processor source → SimulationStays s t
    → t.driver ≡ s.driver → accounts_of t.roster ≡ looked processor now s.roster.periods.balance (accounts_of s.roster)
    → ((xs : List Deed) → A xs → B (Looks processor now source ∷ xs)) → GoesOnForAnyKinds takes A x t y u
    → GoesOnForAnyKinds takes B x s y u
GoesOnForAnyKinds-looks takes A B x y s t u processor now source looks from stays driver accounts first goes_on =
    GoesOnForAnyKinds-first takes A B x y s t u (Looks processor now source) stays
    (λ kinds drawn. (looks, from, (refl, driver, ap (λ (a : Accounts). record { accounts = a; drawn = drawn }) accounts)))
    first goes_on

-- a simulation goes on by an event that happens
pub GoesOnBy-event : {S : Type 0} (takes : S → ℕ → TraceEvent → S → Type 0) (A : List Deed → Type 0) (x y : S)
    (s t : Simulation) (event : Event) (reply : Reply)
    → A (Happens event reply ∷ []) → MayCome event (accounts_of s.roster) → SimulationStays s t → EventIsDriven takes x s.driver event reply y t.driver
    → accounts_of t.roster ≡ after_event s.roster.periods event reply (accounts_of s.roster)
    → GoesOnForAnyKinds takes A x s y t
GoesOnBy-event takes A x y s t event reply are due stays did accounts kinds drawn had firsts = record {
  deeds = Happens event reply ∷ [];
  after = drawn;
  periods = stays.periods;
  seed = stays.seed;
  streams = streams-stay s t drawn stays had;
  firsts = firsts-stay kinds s t stays firsts;
  begun = begun-stay s t stays;
  agrees = stays.agrees;
  reports = record {
    reported = did.reported;
    taken = did.taken;
    holds = (
      due,
      t.driver,
      did.reported,
      [],
      did.holds,
      (refl, refl, ap (λ (a : Accounts). record { accounts = a; drawn = drawn }) accounts),
      sym (append-nil did.reported),
    );
  };
  are = are;
}

-- an event of which the accounts know nothing
pub GoesOnBy-drove : {S : Type 0} (takes : S → ℕ → TraceEvent → S → Type 0) (A : List Deed → Type 0)
    (x y : S) (s t : Simulation) (event : Event)
    → ((reply : Reply) → A (Happens event reply ∷ [])) → MayCome event (accounts_of s.roster)
    → SimulationStays s t → ((reply : Reply) (a : Accounts) → after_event s.roster.periods event reply a ≡ a)
    → EventsAreDriven takes x s.driver (event ∷ []) y t.driver → accounts_of t.roster ≡ accounts_of s.roster
    → GoesOnForAnyKinds takes A x s y t
GoesOnBy-drove takes A x y s t event are due stays quiet drove accounts kinds drawn had firsts =
    let h = drove.holds in
    record {
      deeds = Happens event h.0 ∷ [];
      after = drawn;
      periods = stays.periods;
      seed = stays.seed;
      streams = streams-stay s t drawn stays had;
      firsts = firsts-stay kinds s t stays firsts;
      begun = begun-stay s t stays;
      agrees = stays.agrees;
      reports = record {
        reported = drove.reported;
        taken = drove.taken;
        holds = (
          due,
          h.1,
          h.2,
          h.3,
          h.4,
          (
            h.5.0,
            h.5.1,
            ap (λ (a : Accounts). record { accounts = a; drawn = drawn }) (accounts ∙ sym (quiet h.0 (accounts_of s.roster))),
          ),
          h.6,
        );
      };
      are = are h.0;
    }

-- a task is woken, and the processor on which it was placed takes it in
pub GoesOnBy-wakes : {S : Type 0} (takes : S → ℕ → TraceEvent → S → Type 0) (x y z : S) (s t : Simulation)
    (m : Driver) (from task to now : ℕ) (reply : Reply)
    → IsWoken (accounts_of s.roster) from task → SimulationStays s t
    → Gets takes x y (λ reported. PlacesWoken s.driver from task now to reported m) → EventIsDriven takes y m (Drain to now) reply z t.driver
    → accounts_of t.roster ≡ after_event s.roster.periods (Drain to now) reply (of_task progress_woken task (accounts_of s.roster))
    → GoesOnForAnyKinds takes (AreWake from task now) x s z t
GoesOnBy-wakes takes x y z s t m from task to now reply due stays woke did accounts kinds drawn had firsts =
    let h = woke.holds in
    let kept = ap (λ (a : Accounts). record { accounts = a; drawn = drawn }) accounts in
    record {
      deeds = Happens (BeginWake from task) h.begun ∷ Happens (EndWake from now) h.placed ∷ Happens (Drain to now) reply ∷ [];
      after = drawn;
      periods = stays.periods;
      seed = stays.seed;
      streams = streams-stay s t drawn stays had;
      firsts = firsts-stay kinds s t stays firsts;
      begun = begun-stay s t stays;
      agrees = stays.agrees;
      reports = record {
        reported = woke.reported ++ did.reported;
        taken = TakesAll-append takes x y z woke.reported did.reported woke.taken did.taken;
        holds = (
          due,
          h.mid,
          h.first,
          h.more ++ did.reported,
          h.begins,
          (
            tt,
            m,
            h.more,
            did.reported,
            h.ends,
            (tt, t.driver, did.reported, [], did.holds, (refl, refl, kept), sym (append-nil did.reported)),
            refl,
          ),
          ap (λ (x : Reported). x ++ did.reported) h.whole ∙ append_assoc h.first h.more did.reported,
        );
      };
      are = (h.begun, h.placed, reply, to, h.place, refl);
    }
