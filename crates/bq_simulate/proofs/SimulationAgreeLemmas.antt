-- World and accounts agree from the opening of a simulation on.
use Rattle.std.proofs.Common.{◌≡◌, ℕ, zero, suc, ◌+◌, ◌<◌, inl, inr, List, [], ◌∷◌, ◌++◌, length, Some, None, refl, sym, subst, ap, ◌∙◌, arith, length-append, map, replicate}
use Rattle.std.specs.Prelude.{Ok, nat_le, slice_get, sum_by}
use Rattle.std.proofs.lemmas.Bool.{cases_eq, leb-false}
use Rattle.std.proofs.lemmas.List.{length-replicate}
use Rattle.std.proofs.lemmas.List.Sums.{sum_by-append}
use Rattle.std.proofs.lemmas.Option.{none-some, same_Some, slice_get_within}
use Rattle.bq_disc.specs.Tasks.{id_of}
use Rattle.bq_verify.specs.Accepted.{Accepted}
use Rattle.bq_parts.specs.declared.event.Event.{Event}
use Rattle.bq_parts.specs.declared.event.Event.TheVariants.{Admit, Draw, Install, Tick}
use Rattle.bq_parts.specs.declared.lobby_entry.LobbyEntry.TheVariants.{Absent}
use Rattle.bq_parts.specs.declared.reply.Reply.{Reply}
use Rattle.bq_parts.specs.declared.reply.Reply.TheVariants.{Drawn}
use Rattle.bq_parts.specs.declared.refusal.Refusal.TheVariants as no
use Rattle.bq_parts.specs.Choices.{by_programs}
use Rattle.bq_parts.specs.Processors.{Processor, new_processor as opening_processor, size_of}
use Rattle.bq_parts.specs.Refusals.{is_absent}
use Rattle.bq_parts.specs.Steps.{WorldStep}
use Rattle.bq_parts.specs.World.{World, count_in, opening_world}
use Rattle.bq_core.proofs.OnTheWayLemmas.{same_everywhere}
use Rattle.bq_parts.proofs.RefusalLemmas.{accepted, first_refusal_passed, not_refused_is_there}
use Rattle.bq_core.proofs.OrderLemmas.{opening_is_orderly}
use Rattle.bq_core.proofs.SizeLemmas.{step_count}
use Rattle.bq_trace.specs.Machines.{discipline_of}
use Rattle.bq_trace.specs.TraceEvents.{Reported}
use Rattle.bq_words.specs.Sizes.{processors_in}
use Rattle.bq_workload.specs.declared.processor_state.ProcessorState.{ProcessorState}
use Rattle.bq_workload.specs.declared.periods.Periods.{Periods}
use Rattle.bq_workload.specs.declared.workload.TaskKind.{TaskKind}
use Rattle.bq_workload.specs.declared.workload.Workload.{Workload}
use Rattle.bq_workload.specs.Accounts.{Accounts, processor_at_rest, first_look, opening_accounts}
use Rattle.bq_workload.specs.declared.progress.TaskProgress.{TaskProgress}
use Rattle.bq_workload.specs.Kinds.{tasks_in}
use Rattle.bq_workload.specs.Soundness.{IsFirstAllowed}
use Rattle.bq_workload.specs.TaskProgress.{fresh_task}
use Rattle.bq_workload.proofs.ListLemmas.{appended, appended_others, at-replicate}
use Rattle.bq_simulate.specs.declared.driver.Driver.{Driver}
use Rattle.bq_simulate.specs.Actions.{kind_start}
use Rattle.bq_simulate.specs.Agreement.{AgreesWith, IsOnTime, ProcessorIsOnTime, RunsOnTime, TaskIsOnTime}
use Rattle.bq_simulate.specs.AgreementLaws.{BookAgrees, SimulationsAgree, accounts_with_task}
use Rattle.bq_simulate.specs.Deeds.{Acts, Beats, Book, Deed, Happens, Joins, DeedsLead, Looks, Misses, Reaches, Rings, after_act, after_answer, after_beat, after_look, task_added}
use Rattle.bq_simulate.specs.Drives.{DrivesEvent, Starts}
use Rattle.bq_simulate.specs.GoingWell.{IsOpening}
use Rattle.bq_simulate.specs.Simulations.{IsSimulation, Proceeds, opening_book, periods_of}
use Rattle.bq_simulate.specs.Steps.{AreAdmitted, AreAllAdmitted, AreInstalled, AreJustEvents, Opens, MetDue, all_processors, deeds_of}
use Rattle.bq_simulate.proofs.AccountsReadLemmas.{read}
use Rattle.bq_simulate.proofs.AdmissionTakenLemmas.{admit_kept}
use Rattle.bq_simulate.proofs.EventTakenLemmas.{draws_are_taken, install_kept}
use Rattle.bq_simulate.proofs.MeetAgreeLemmas.{meetings_agree, step_of, tick_agrees, world_of}
use Rattle.bq_simulate.proofs.StaysOnTimeLemmas.{carried}

-- deeds that were done in two parts
pub record Parted (kinds : List TaskKind) (seed : ℕ) (periods : Periods) (d : Driver) (b : Book)
    (xs ys : List Deed) (e : Driver) (c : Book) : Type 0 where
  pub mid : Driver
  pub book : Book
  pub first : Reported
  pub more : Reported
  pub one : DeedsLead kinds seed periods d b xs first mid book
  pub two : DeedsLead kinds seed periods mid book ys more e c

-- deeds in a row are done in two parts
pub part : (kinds : List TaskKind) (seed : ℕ) (periods : Periods) (d e : Driver) (b c : Book) (xs ys : List Deed)
    (reported : Reported)
    → DeedsLead kinds seed periods d b (xs ++ ys) reported e c → Parted kinds seed periods d b xs ys e c
part kinds seed periods d e b c [] ys reported h =
    record { mid = d; book = b; first = []; more = reported; one = (refl, refl, refl); two = h }
part kinds seed periods d e b c (Happens event reply ∷ xs) ys reported (due, mid, first, rest, does, leads, whole) =
    let s = part kinds seed periods mid e (after_answer periods event reply b) c xs ys rest leads in
    record {
      mid = s.mid;
      book = s.book;
      first = first ++ s.first;
      more = s.more;
      one = (due, mid, first, s.first, does, s.one, refl);
      two = s.two;
    }
part kinds seed periods d e b c (Joins kind home ∷ xs) ys reported (of, leads) =
    let s = part kinds seed periods d e (task_added kinds kind home b) c xs ys reported leads in
    record { mid = s.mid; book = s.book; first = s.first; more = s.more; one = (of, s.one); two = s.two }
part kinds seed periods d e b c (Acts at task now action aim ∷ xs) ys reported (k, done, is, to, leads) =
    let s = part kinds seed periods d e (after_act kinds seed at task now k b) c xs ys reported leads in
    record { mid = s.mid; book = s.book; first = s.first; more = s.more; one = (k, done, is, to, s.one); two = s.two }
part kinds seed periods d e b c (Rings task now ∷ xs) ys reported (k, there, asleep, timer, leads) =
    let s = part kinds seed periods d e b c xs ys reported leads in
    record { mid = s.mid; book = s.book; first = s.first; more = s.more; one = (k, there, asleep, timer, s.one); two = s.two }
part kinds seed periods d e b c (Reaches task ∷ xs) ys reported (k, there, waits, leads) =
    let s = part kinds seed periods d e b c xs ys reported leads in
    record { mid = s.mid; book = s.book; first = s.first; more = s.more; one = (k, there, waits, s.one); two = s.two }
part kinds seed periods d e b c (Misses task ∷ xs) ys reported (k, there, waits, leads) =
    let s = part kinds seed periods d e b c xs ys reported leads in
    record { mid = s.mid; book = s.book; first = s.first; more = s.more; one = (k, there, waits, s.one); two = s.two }
part kinds seed periods d e b c (Beats at now ∷ xs) ys reported (ticks, busy, leads) =
    let s = part kinds seed periods d e (after_beat periods at now b) c xs ys reported leads in
    record { mid = s.mid; book = s.book; first = s.first; more = s.more; one = (ticks, busy, s.one); two = s.two }
part kinds seed periods d e b c (Looks at now source ∷ xs) ys reported (looks, from, leads) =
    let s = part kinds seed periods d e (after_look periods at now b) c xs ys reported leads in
    record { mid = s.mid; book = s.book; first = s.first; more = s.more; one = (looks, from, s.one); two = s.two }

-- a property of a driver and a book holds after an event if it held before
abbrev pub Keeps : (Driver → Book → Type 0) → Event → Type 0
Keeps P event =
    (periods : Periods) (d e : Driver) (b : Book) (reply : Reply) (reported : Reported) →
    DrivesEvent d event reply reported e → P d b → P e (after_answer periods event reply b)

-- where no deed is done each property of a driver and a book still holds
pub none_kept : (P : Driver → Book → Type 0) (kinds : List TaskKind) (seed : ℕ) (periods : Periods) (d e : Driver)
    (b c : Book) (deeds : List Deed) (reported : Reported)
    → deeds ≡ [] → DeedsLead kinds seed periods d b deeds reported e c → P d b → P e c
none_kept P kinds seed periods d e b c deeds reported none leads h =
    let (nothing, same, kept) = subst (λ l. DeedsLead kinds seed periods d b l reported e c) none leads in
    subst (λ x. P e x) (sym kept) (subst (λ x. P x b) (sym same) h)

-- events that each keep a property keep it together
pub just_kept : (P : Driver → Book → Type 0) (f : ℕ → Event) → ((n : ℕ) → Keeps P (f n))
    → (kinds : List TaskKind) (seed : ℕ) (periods : Periods) (d e : Driver) (b c : Book) (numbers : List ℕ)
    (deeds : List Deed) (reported : Reported)
    → AreJustEvents (map f numbers) deeds → DeedsLead kinds seed periods d b deeds reported e c → P d b
    → P e c
just_kept P f keeps kinds seed periods d e b c [] deeds reported none leads h =
    none_kept P kinds seed periods d e b c deeds reported none leads h
just_kept P f keeps kinds seed periods d e b c (n ∷ numbers) deeds reported (reply, more, is, just) leads h =
    let (due, mid, first, rest, does, later, whole) = subst (λ l. DeedsLead kinds seed periods d b l reported e c) is leads in
    just_kept P f keeps kinds seed periods mid e (after_answer periods (f n) reply b) c numbers more rest just later
    (keeps n periods d mid b reply first does h)

-- the opening is kept by a draw
pub draw_opens : (processors tasks : ℕ) → Keeps (IsOpening processors tasks) Draw
draw_opens processors tasks periods d e b reply reported does h =
    let step = step_of d Draw reply reported e does in
    let r = discipline_of d.machine.discipline in
    record {
      agree = (draws_are_taken r periods (world_of d) b.accounts h.agree).leaves does.happens.moves.step.calls reply (world_of e) step;
      on_time = h.on_time;
      read = does.rises ∙ h.read;
      processors_there =
          step_count (by_programs r) (world_of d) Draw does.happens.moves.step.calls (Ok reply) (world_of e) step
          ∙ h.processors_there;
      tasks_there = h.tasks_there;
    }

-- the opening is kept by an install
pub install_opens : (processors tasks generation : ℕ) (policy : Accepted) (processor : ℕ)
    → Keeps (IsOpening processors tasks) (Install processor policy.hook generation (Some policy))
install_opens processors tasks generation policy processor periods d e b reply reported does h =
    let event : Event = Install processor policy.hook generation (Some policy) in
    let w : World = world_of d in
    let step = step_of d event reply reported e does in
    let r = discipline_of d.machine.discipline in
    let low = (not_refused_is_there (count_in w) processor _ (accepted w event step.0).0).0 in
    record {
      agree =
          install_kept r w (world_of e) b.accounts processor generation policy.hook (Some policy)
          does.happens.moves.step.calls reply h.agree low step;
      on_time = h.on_time;
      read = does.rises ∙ h.read;
      processors_there = step_count (by_programs r) w event does.happens.moves.step.calls (Ok reply) (world_of e) step ∙ h.processors_there;
      tasks_there = h.tasks_there;
    }

-- an opening stays one after the installation of policies
pub installed_opens : (kinds : List TaskKind) (seed : ℕ) (periods : Periods) (d e : Driver) (b c : Book)
    (processors tasks : ℕ) (policies : List Accepted) (deeds : List Deed) (reported : Reported)
    → AreInstalled processors policies deeds → DeedsLead kinds seed periods d b deeds reported e c
    → IsOpening processors tasks d b
    → IsOpening processors tasks e c
installed_opens kinds seed periods d e b c processors tasks [] deeds reported none leads h =
    none_kept (IsOpening processors tasks) kinds seed periods d e b c deeds reported none leads h
installed_opens kinds seed periods d e b c processors tasks (policy ∷ policies) deeds reported
    (some, more, whole, (generation, rest, is, just), others) leads h =
    let s = part kinds seed periods d e b c some more reported (subst (λ l. DeedsLead kinds seed periods d b l reported e c) whole leads) in
    let (due, mid, first, left, does, later, wholly) = subst (λ l. DeedsLead kinds seed periods d b l s.first s.mid s.book) is s.one in
    let drawn = draw_opens processors tasks periods d mid b (Drawn generation) first does h in
    let one =
    just_kept (IsOpening processors tasks) (λ processor. Install processor policy.hook generation (Some policy))
    (install_opens processors tasks generation policy) kinds seed periods mid s.mid
    (after_answer periods Draw (Drawn generation) b) s.book (all_processors processors) rest left just later drawn in
    installed_opens kinds seed periods s.mid e s.book c processors tasks policies more s.more others s.two one

-- one more task has got nothing yet
joined_on_time : (a : Accounts) (c : TaskProgress) → c.got ≡ 0 → IsOnTime 0 a → IsOnTime 0 (accounts_with_task c a)
joined_on_time a c none h =
    let cs : List TaskProgress = a.by_task in
    let ds : List TaskProgress = cs ++ c ∷ [] in
    record {
      tasks = λ task x at. elim (cases_eq task (length cs)) [
        | inr apart ↦ h.tasks task x (sym (appended_others cs c task apart) ∙ at)
        | inl here ↦
            let same : c ≡ x = same_Some c x (sym (appended cs c) ∙ ap (slice_get ds) (sym here) ∙ at) in
            subst (λ (y : TaskProgress). TaskIsOnTime 0 y) same (record { phase = omega (arith, none); timer = λ asleep. omega arith })
      ];
      processors = λ processor l at.
          let p : ProcessorIsOnTime 0 cs l = h.processors processor l at in
          carried 0 cs ds l (λ task runs.
          let r : RunsOnTime 0 cs l task = p.runs task runs in
          appended_others cs c task (λ e. omega (arith, e, slice_get_within cs task r.progress r.there))) p;
    }

-- a task is admitted, and is there
admission_opens : (kinds : List TaskKind) (seed : ℕ) (periods : Periods) (d e : Driver) (b c : Book)
    (processors number task home : ℕ) (kind : TaskKind) (reply : Reply) (reported : Reported)
    → IsFirstAllowed processors kind.mask home
    → DeedsLead kinds seed periods d b (Happens (Admit task kind.nice kind.mask kind.slice) reply ∷ Joins number home ∷ []) reported e c
    → IsOpening processors task d b
    → IsOpening processors (task + 1) e c
admission_opens kinds seed periods d e b c processors number task home kind reply reported allowed
    (due, mid, first, rest, does, (of, (nothing, same, kept)), whole) h =
    let w : World = world_of d in
    let a : Accounts = b.accounts in
    let event : ℕ → Event = λ n. Admit n kind.nice kind.mask kind.slice in
    let r = discipline_of d.machine.discipline in
    let was = step_of d (event task) reply first mid does in
    let step =
    subst (λ n. WorldStep (by_programs r) w (event n) does.happens.moves.step.calls (Ok reply) (world_of mid))
    (sym h.tasks_there) was in
    let few =
    leb-false 1024 (length a.by_task)
    (first_refusal_passed (nat_le 1024 (length a.by_task)) no.NoTask _ (accepted w (event (length a.by_task)) step.0).0).0 in
    let low : home < count_in w = subst (λ n. home < n) (sym h.processors_there) allowed.within in
    let new = fresh_task number home (kind_start kinds number) in
    let after : Book = task_added kinds number home (after_answer periods (event task) reply b) in
    let done : IsOpening processors (task + 1) mid after = record {
      agree = admit_kept r w (world_of mid) a new kind does.happens.moves.step.calls reply h.agree few refl low step;
      on_time = joined_on_time a new refl h.on_time;
      read = does.rises ∙ h.read;
      processors_there =
          step_count (by_programs r) w (event (length a.by_task)) does.happens.moves.step.calls (Ok reply) (world_of mid) step
          ∙ h.processors_there;
      tasks_there = omega (arith, length-append a.by_task (new ∷ []), h.tasks_there);
    } in
    subst (λ x. IsOpening processors (task + 1) e x) (sym kept) (subst (λ x. IsOpening processors (task + 1) x after) (sym same) done)

-- the tasks of a kind
pub admitted_open : (kinds : List TaskKind) (seed : ℕ) (periods : Periods) (d e : Driver) (b c : Book) (processors number : ℕ)
    (kind : TaskKind) (task count : ℕ) (deeds : List Deed) (reported : Reported)
    → AreAdmitted processors number kind task count deeds → DeedsLead kinds seed periods d b deeds reported e c
    → IsOpening processors task d b
    → IsOpening processors (task + count) e c
admitted_open kinds seed periods d e b c processors number kind task zero deeds reported none leads h =
    let all : task ≡ task + 0 = omega arith in
    subst (λ n. IsOpening processors n e c) all
    (none_kept (IsOpening processors task) kinds seed periods d e b c deeds reported none leads h)
admitted_open kinds seed periods d e b c processors number kind task (suc count) deeds reported
    (some, more, whole, (reply, home, first, is), rest) leads h =
    let s = part kinds seed periods d e b c some more reported (subst (λ l. DeedsLead kinds seed periods d b l reported e c) whole leads) in
    let one =
    admission_opens kinds seed periods d s.mid b s.book processors number task home kind reply s.first first
    (subst (λ l. DeedsLead kinds seed periods d b l s.first s.mid s.book) is s.one) h in
    let all : (task + 1) + count ≡ task + suc count = omega arith in
    subst (λ n. IsOpening processors n e c) all
    (admitted_open kinds seed periods s.mid e s.book c processors number kind (task + 1) count more s.more rest s.two one)

-- an opening stays one, with all tasks, after the admission of all kinds
pub all_admitted_open : (all : List TaskKind) (seed : ℕ) (periods : Periods) (d e : Driver) (b c : Book)
    (processors number task : ℕ) (kinds : List TaskKind) (deeds : List Deed) (reported : Reported)
    → AreAllAdmitted processors number task kinds deeds → DeedsLead all seed periods d b deeds reported e c
    → IsOpening processors task d b
    → IsOpening processors (task + tasks_in kinds) e c
all_admitted_open all seed periods d e b c processors number task [] deeds reported none leads h =
    let same : task ≡ task + tasks_in [] = omega arith in
    subst (λ n. IsOpening processors n e c) same
    (none_kept (IsOpening processors task) all seed periods d e b c deeds reported none leads h)
all_admitted_open all seed periods d e b c processors number task (kind ∷ kinds) deeds reported
    (some, more, whole, are, rest) leads h =
    let s = part all seed periods d e b c some more reported (subst (λ l. DeedsLead all seed periods d b l reported e c) whole leads) in
    let one = admitted_open all seed periods d s.mid b s.book processors number kind task kind.count some s.first are s.one h in
    let count : TaskKind → ℕ = λ k. k.count in
    let first : sum_by count (kind ∷ []) ≡ kind.count = omega arith in
    let both : tasks_in (kind ∷ kinds) ≡ sum_by count (kind ∷ []) + tasks_in kinds = sum_by-append count (kind ∷ []) kinds in
    let sum : (task + kind.count) + tasks_in kinds ≡ task + tasks_in (kind ∷ kinds) = omega (arith, first, both) in
    subst (λ n. IsOpening processors n e c) sum
    (all_admitted_open all seed periods s.mid e s.book c processors (number + 1) (task + kind.count) kinds more s.more rest s.two one)

-- all that is met
met_agree : (kinds : List TaskKind) (seed : ℕ) (periods : Periods) (d e : Driver) (b c : Book) (steps : List MetDue)
    (reported : Reported)
    → DeedsLead kinds seed periods d b (deeds_of steps) reported e c → BookAgrees d b → BookAgrees e c
met_agree kinds seed periods d e b c [] reported leads h = none_kept BookAgrees kinds seed periods d e b c [] reported refl leads h
met_agree kinds seed periods d e b c (step ∷ steps) reported leads h =
    let s = part kinds seed periods d e b c step.deeds (deeds_of steps) reported leads in
    met_agree kinds seed periods s.mid e s.book c steps s.more s.two
    (meetings_agree kinds seed periods d s.mid b s.book step.due step.at step.deeds s.first step.meet s.one h)

-- The opening

-- of equals the same is read everywhere, where that is what is read beyond them
read_same : {A B : Type 0} (v : A → B) (d : B) (x : A) → v x ≡ d → (n k : ℕ) → read v d (replicate n x) k ≡ d
read_same v d x is zero k = refl
read_same v d x is (suc n) zero = is
read_same v d x is (suc n) (suc k) = read_same v d x is n k

-- a new world agrees with the accounts at the opening
opening_agrees : (n balance : ℕ) → AgreesWith (opening_world n) (opening_accounts n balance)
opening_agrees n balance =
    let x : ProcessorState = processor_at_rest (first_look n balance) in
    record {
      orderly = opening_is_orderly n;
      entries = length-replicate 1024 Absent;
      settled = record {
        hands = λ k. ap (λ (p : Processor). p.hand) (same_everywhere opening_processor n k);
        inboxes = λ k. same_everywhere [] n k;
      };
      mirrors = record {
        tasks = λ k. ap is_absent (same_everywhere Absent 1024 k);
        processors = record {
          many = length-replicate n x ∙ sym (length-replicate n opening_processor);
          runs = λ k.
              read_same (λ (l : ProcessorState). l.run) None x refl n k
              ∙ sym (ap (λ (p : Processor). id_of p.running.current) (same_everywhere opening_processor n k));
          sizes = λ k. read_same (λ (l : ProcessorState). l.size) 0 x refl n k ∙ sym (ap size_of (same_everywhere opening_processor n k));
        };
      };
      homes = λ task c at. absurd (none-some c at);
    }

-- nothing of the opening is past
opening_on_time : (n balance : ℕ) → IsOnTime 0 (opening_accounts n balance)
opening_on_time n balance =
    let x : ProcessorState = processor_at_rest (first_look n balance) in
    let rests : ProcessorIsOnTime 0 [] x = record {
      since = omega arith;
      looks = λ time is. omega arith;
      runs = λ task runs. absurd (none-some task runs);
      rests = λ none. refl;
    } in
    record {
      tasks = λ task c at. absurd (none-some c at);
      processors = λ k l at. subst (λ (y : ProcessorState). ProcessorIsOnTime 0 [] y) (at-replicate n k x l at).1 rests;
    }

-- the machine as it starts is an opening with no tasks
pub opening_opens : (w : Workload) (d : Driver) (first : Reported)
    → Starts w.machine.discipline w.machine.size first d
    → IsOpening (processors_in w.machine.size) 0 d (opening_book w.machine)
opening_opens w d first starts =
    let n = processors_in w.machine.size in
    let start = opening_book w.machine in
    let world : world_of d ≡ opening_world n = ap (λ m. m.world) starts.machine in
    record {
      agree = subst (λ x. AgreesWith x start.accounts) (sym world) (opening_agrees n w.machine.balance);
      on_time = opening_on_time n w.machine.balance;
      read = starts.now;
      processors_there = ap count_in world ∙ length-replicate n opening_processor;
      tasks_there = refl;
    }

-- once a simulation has opened all of its tasks are there
pub opened_open : (policies : List Accepted) (w : Workload) (d e : Driver) (b : Book) (deeds : List Deed)
    (first reported : Reported)
    → Starts w.machine.discipline w.machine.size first d → Opens policies (processors_in w.machine.size) w.tasks.items deeds
    → DeedsLead w.tasks.items w.machine.seed (periods_of w.machine) d (opening_book w.machine) deeds reported e b
    → IsOpening (processors_in w.machine.size) (tasks_in w.tasks.items) e b
opened_open policies w d e b deeds first reported starts o leads =
    let kinds = w.tasks.items in
    let seed = w.machine.seed in
    let periods = periods_of w.machine in
    let n = processors_in w.machine.size in
    let start = opening_book w.machine in
    let opens : IsOpening n 0 d start = opening_opens w d first starts in
    let t =
    part kinds seed periods d e start b o.installs o.admissions reported
    (subst (λ l. DeedsLead kinds seed periods d start l reported e b) o.whole leads) in
    let installed = installed_opens kinds seed periods d t.mid start t.book n 0 policies o.installs t.first o.installed t.one opens in
    let all : 0 + tasks_in kinds ≡ tasks_in kinds = omega arith in
    subst (λ i. IsOpening n i e b) all
    (all_admitted_open kinds seed periods t.mid e t.book b n 0 0 kinds o.admissions t.more o.admitted t.two installed)

-- from the opening to where nothing comes any more
proceeds_agree : (policies : List Accepted) (w : Workload) (d e : Driver) (b : Book) (most end : ℕ)
    (deeds : List Deed) (first reported : Reported)
    → Starts w.machine.discipline w.machine.size first d
    → Proceeds policies (processors_in w.machine.size) w.tasks.items w.machine.seed (periods_of w.machine) most end
    (opening_book w.machine) deeds
    → DeedsLead w.tasks.items w.machine.seed (periods_of w.machine) d (opening_book w.machine) deeds reported e b
    → BookAgrees e b
proceeds_agree policies w d e b most end deeds first reported starts p leads =
    let kinds = w.tasks.items in
    let seed = w.machine.seed in
    let periods = periods_of w.machine in
    let start = opening_book w.machine in
    let s =
    part kinds seed periods d e start b p.opening p.met reported
    (subst (λ l. DeedsLead kinds seed periods d start l reported e b) p.whole leads) in
    let opened = opened_open policies w d s.mid s.book p.opening first s.first starts p.opens s.one in
    let m = p.meets in
    met_agree kinds seed periods s.mid e s.book b m.steps s.more
    (subst (λ l. DeedsLead kinds seed periods s.mid s.book l s.more e b) m.whole s.two) opened.agree

-- world and accounts agree at the close of a simulation
whole_agrees : (policies : List Accepted) (w : Workload) (reported : Reported) (s : IsSimulation policies w reported)
    → BookAgrees s.closing s.book
whole_agrees policies w reported s =
    let kinds = w.tasks.items in
    let seed = w.machine.seed in
    let periods = periods_of w.machine in
    let start = opening_book w.machine in
    let x = s.ends in
    let p =
    part kinds seed periods s.opening s.closing start s.book x.until x.last s.more
    (subst (λ l. DeedsLead kinds seed periods s.opening start l s.more s.closing s.book) x.whole s.leads) in
    let until : BookAgrees p.mid p.book =
    proceeds_agree policies w s.opening p.mid p.book _ _ x.until s.first p.first s.starts x.proceeds p.one in
    just_kept BookAgrees (λ processor. Tick processor w.machine.duration)
    (λ processor q y z k reply some does agree. tick_agrees q y z k processor w.machine.duration reply some does agree) kinds
    seed periods p.mid s.closing p.book s.book _ x.last p.more x.ticks p.two until

-- accounts and world agree wherever a simulation has been followed to
pub simulations_agree : SimulationsAgree
simulations_agree = record {
  whole = whole_agrees;
  begun = λ policies w reported s.
      proceeds_agree policies w s.opening s.closing s.book _ _ s.deeds s.first s.more s.starts s.proceeds s.leads;
}
