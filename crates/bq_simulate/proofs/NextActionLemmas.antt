-- What a task has taken up while a simulation goes well can follow.
use Rattle.std.proofs.Common.{◌≡◌, ℕ, ◌+◌, ◌<◌, ◌≤◌, true, false, List, [], length, Option, Some, None, refl, sym, subst, ap, ◌∙◌, arith}
use Rattle.std.specs.Prelude.{is_some}
use Rattle.std.specs.Option.{option_map_or}
use Rattle.std.proofs.lemmas.Option.{same_Some}
use Rattle.bq_parts.specs.World.{count_in}
use Rattle.bq_workload.specs.declared.action.Action.{Action}
use Rattle.bq_workload.specs.declared.action.Action.TheVariants.{Run, Sleep, Wait, Wake}
use Rattle.bq_workload.specs.declared.progress.TaskProgress.{TaskProgress}
use Rattle.bq_workload.specs.declared.processor_state.ProcessorState.{ProcessorState}
use Rattle.bq_workload.specs.declared.periods.Periods.{Periods}
use Rattle.bq_workload.specs.declared.workload.TaskKind.{TaskKind}
use Rattle.bq_workload.specs.declared.workload.Workload.{Workload}
use Rattle.bq_workload.specs.Accounts.{Accounts, IsPhaseDone, accounts_of, accounts_charged, of_task}
use Rattle.bq_workload.specs.Kinds.{kind_count}
use Rattle.bq_simulate.specs.declared.driver.Driver.{Driver}
use Rattle.bq_simulate.specs.declared.simulation.Simulation.{Simulation}
use Rattle.bq_simulate.specs.Actions.{acted, aim_of, wake_target, asked_by, first_task_of, next_action}
use Rattle.bq_simulate.specs.Agreement.{AgreesBut, AgreesWith, IsOnTime, can_run, runner_at}
use Rattle.bq_simulate.specs.Deeds.{Book, DeedsLead, is_busy, length_taken}
use Rattle.bq_simulate.specs.KeptLaws.{DeedsLeadIn}
use Rattle.bq_simulate.specs.GoingWell.{CanFollow, FallsAsleep, SimulationGoesWell}
use Rattle.bq_simulate.specs.Simulations.{GoesByUnreportedDeeds, book_of, with_seed}
use Rattle.bq_simulate.specs.Steps.{IsAct}
use Rattle.bq_simulate.proofs.AccountsReadLemmas.{changed_at-length}
use Rattle.bq_simulate.proofs.MeetAgreeLemmas.{agrees_but_it, agrees_charged, agrees_further, woken_one_home, woken_one_state, world_of}
use Rattle.bq_simulate.proofs.MeetOnTimeLemmas.{taken_up_on_time}
use Rattle.bq_simulate.proofs.NoStrayCallLemmas.{well_early}
use Rattle.bq_simulate.proofs.PhaseEndLemmas.{acted_home}
use Rattle.bq_simulate.proofs.StandsAtActionLemmas.{AllStand, charged_keeps, standing_is_kept, standing_of_places}
use Rattle.bq_simulate.proofs.StaysOnTimeLemmas.{charged_tasks, run_of}

-- a task whose phase has ended at a processor has taken up its next action, which lasts so long, and nothing else was done
pub record TakesUp (kinds : List TaskKind) (now processor task : ℕ) (action : Option Action) (aim : Option ℕ)
    (s t : Simulation) : Type 0 where
  pub progress : TaskProgress
  pub lasts : ℕ
  pub done : IsPhaseDone (accounts_charged processor now (accounts_of s.roster)) processor task progress
  pub is : action ≡ next_action kinds progress
  pub aims : aim ≡ wake_target kinds progress
  pub driver : t.driver ≡ s.driver
  pub accounts : accounts_of t.roster
      ≡ of_task (λ _. acted kinds action lasts now progress) task (accounts_charged processor now (accounts_of s.roster))

-- where only the act of a task was done, the task has taken up its next action
takes_up : (kinds : List TaskKind) (now processor task : ℕ) (action : Option Action) (aim : Option ℕ)
    (s t : Simulation) (drawn : List ℕ)
    → GoesByUnreportedDeeds kinds (IsAct processor task now action aim) s drawn t
    → TakesUp kinds now processor task action aim s t
takes_up kinds now processor task action aim s t drawn h =
    let (c, done, is, to, (none, same, kept)) =
    subst (λ l. DeedsLead kinds s.seed s.roster.periods s.driver (book_of s drawn) l [] t.driver (book_of t h.after)) h.are
    h.leads in
    let a : Accounts = accounts_charged processor now (accounts_of s.roster) in
    let long : ℕ = length_taken s.seed task drawn (asked_by (next_action kinds c)) in
    record {
      progress = c;
      lasts = long;
      done = done;
      is = is;
      aims = to;
      driver = same;
      accounts = ap (λ (x : Book). x.accounts) kept ∙ ap (λ (o : Option Action). of_task (λ _. acted kinds o long now c) task a) (sym is);
    }

-- what is read of the accounts and the machine then
pub record StandsThen (kinds : List TaskKind) (now processor task : ℕ) (s t : Simulation) : Type 0 where
  pub counted : AgreesWith (world_of s.driver) (accounts_charged processor now (accounts_of s.roster))
  pub runs : runner_at (accounts_charged processor now (accounts_of s.roster)).by_processor processor ≡ Some task
  pub runs_then : runner_at t.roster.by_processor.items processor ≡ Some task
  pub on_time : IsOnTime now (accounts_of t.roster)

-- a task that takes up its next action while a simulation goes well still runs then, and nothing is past
stands_then : (w : Workload) (now processor task : ℕ) (action : Option Action) (aim : Option ℕ) (s t : Simulation)
    → SimulationGoesWell w now s → TakesUp w.tasks.items now processor task action aim s t
    → StandsThen w.tasks.items now processor task s t
stands_then w now processor task action aim s t h u =
    let was : Accounts = accounts_of s.roster in
    let a : Accounts = accounts_charged processor now was in
    let runs : runner_at a.by_processor processor ≡ Some task = run_of a processor u.done.processor_state u.done.at ∙ u.done.runs in
    record {
      counted = agrees_charged (world_of s.driver) was processor now h.kept.agrees;
      runs = runs;
      runs_then = ap (λ (x : Accounts). runner_at x.by_processor processor) u.accounts ∙ runs;
      on_time =
          subst (λ (x : Accounts). IsOnTime now x) (sym u.accounts)
          (taken_up_on_time action w.tasks.items (world_of s.driver) was processor task u.lasts now u.progress
          (well_early w now s h) h.kept.agrees u.done h.kept.on_time);
    }

-- where it cannot run any more it falls asleep
falls_asleep : (w : Workload) (now processor task : ℕ) (action : Option Action) (aim : Option ℕ) (s t : Simulation)
    → ((length : ℕ) (c : TaskProgress) → can_run (acted w.tasks.items action length now c).task_state ≡ false)
    → (h : SimulationGoesWell w now s) → GoesByUnreportedDeeds w.tasks.items (IsAct processor task now action aim) s h.drawn t
    → FallsAsleep w now processor t
falls_asleep w now processor task action aim s t sleeps h g =
    let kinds : List TaskKind = w.tasks.items in
    let u = takes_up kinds now processor task action aim s t h.drawn g in
    let then = stands_then w now processor task action aim s t h u in
    let a : Accounts = accounts_charged processor now (accounts_of s.roster) in
    let c : TaskProgress = u.progress in
    let but =
    agrees_but_it (world_of s.driver) a task processor c (acted kinds action u.lasts now c) u.done.there (sleeps u.lasts c)
    (acted_home action kinds u.lasts now c) then.runs then.counted in
    record {
      sound = h.sound;
      until = h.until;
      periods = g.periods ∙ h.periods;
      few = subst (λ (d : Driver). count_in (world_of d) ≤ 64) (sym u.driver) h.kept.few;
      read = subst (λ (d : Driver). d.now ≤ now) (sym u.driver) h.kept.read;
      on_time = then.on_time;
      task = task;
      runs = then.runs_then;
      agrees =
          subst (λ (d : Driver). AgreesBut task (world_of d) (accounts_of t.roster)) (sym u.driver)
          (subst (λ (x : Accounts). AgreesBut task (world_of s.driver) x) (sym u.accounts) but);
      agreed = g.agrees h.agreed;
    }

-- where it wakes others all goes well
wakes_well : (w : Workload) (now processor task kind : ℕ) (aim : Option ℕ) (s t : Simulation)
    → (h : SimulationGoesWell w now s) → GoesByUnreportedDeeds w.tasks.items (IsAct processor task now (Some (Wake kind)) aim) s h.drawn t
    → SimulationGoesWell w now t
wakes_well w now processor task kind aim s t h g =
    let kinds : List TaskKind = w.tasks.items in
    let u = takes_up kinds now processor task (Some (Wake kind)) aim s t h.drawn g in
    let then = stands_then w now processor task (Some (Wake kind)) aim s t h u in
    let was : Accounts = accounts_of s.roster in
    let a : Accounts = accounts_charged processor now was in
    let c : TaskProgress = u.progress in
    let new : TaskProgress = acted kinds (Some (Wake kind)) u.lasts now c in
    let further =
    agrees_further (world_of s.driver) a task c new u.done.there (woken_one_state kinds kind c)
    (woken_one_home kinds kind c) then.counted in
    let leads : DeedsLeadIn (with_seed w s.seed) s.driver (book_of s h.drawn) g.deeds [] t.driver (book_of t g.after) =
    subst (λ (p : Periods). DeedsLead kinds s.seed p s.driver (book_of s h.drawn) g.deeds [] t.driver (book_of t g.after)) h.periods g.leads in
    record {
      sound = h.sound;
      until = h.until;
      periods = g.periods ∙ h.periods;
      drawn = g.after;
      streams = g.streams;
      firsts = g.firsts;
      all_firsts = omega (arith, h.all_firsts, g.begun);
      kept = record {
        agrees =
            subst (λ (d : Driver). AgreesWith (world_of d) (accounts_of t.roster)) (sym u.driver)
            (subst (λ (x : Accounts). AgreesWith (world_of s.driver) x) (sym u.accounts) further);
        on_time = then.on_time;
        read = subst (λ (d : Driver). d.now ≤ now) (sym u.driver) h.kept.read;
        standing =
            standing_is_kept (with_seed w s.seed) s.driver t.driver (book_of s h.drawn) (book_of t g.after)
            g.deeds [] h.sound leads h.kept.standing;
        all =
            ap (λ (x : Accounts). length x.by_task) u.accounts ∙ changed_at-length (λ _. new) a.by_task task
            ∙ charged_tasks processor now was ∙ h.kept.all;
        few = subst (λ (d : Driver). count_in (world_of d) ≤ 64) (sym u.driver) h.kept.few;
      };
      agreed = g.agrees h.agreed;
    }

-- it still runs there
still_busy : (kinds : List TaskKind) (now processor task : ℕ) (action : Option Action) (aim : Option ℕ) (s t : Simulation)
    → TakesUp kinds now processor task action aim s t → is_busy (accounts_of t.roster) processor ≡ true
still_busy kinds now processor task action aim s t u =
    ap (λ (x : Accounts). is_busy x processor) u.accounts
    ∙ ap (λ (o : Option ProcessorState). option_map_or (λ (l : ProcessorState). is_some l.run) o false) u.done.at
    ∙ ap (λ (o : Option ℕ). is_some o) u.done.runs

-- a task whose action is a wake leaves one to wake next
wakes_one : (w : Workload) (now processor task kind : ℕ) (before : TaskProgress) (s t : Simulation)
    → SimulationGoesWell w now s → TakesUp w.tasks.items now processor task (Some (Wake kind)) (aim_of w.tasks.items before (Some (Wake kind))) s t
    → before.woken < kind_count w.tasks.items kind
wakes_one w now processor task kind before s t h u =
    let kinds : List TaskKind = w.tasks.items in
    let c : TaskProgress = u.progress in
    let stand : AllStand kinds (accounts_charged processor now (accounts_of s.roster)).by_task =
    charged_keeps (λ x. AllStand kinds x.by_task) (standing_of_places kinds) processor now
    (accounts_of s.roster) h.kept.standing.tasks in
    let aims : first_task_of kinds kind + before.woken ≡ first_task_of kinds kind + c.woken =
    same_Some (first_task_of kinds kind + before.woken) (first_task_of kinds kind + c.woken)
    (u.aims ∙ ap (aim_of kinds c) (sym u.is)) in
    omega (arith, aims, (stand task c u.done.there).woken kind (sym u.is))

-- what a task has taken up can follow
pub can_follow : (action : Option Action) (w : Workload) (before : TaskProgress) (now processor task : ℕ) (s t : Simulation)
    → (h : SimulationGoesWell w now s)
    → GoesByUnreportedDeeds w.tasks.items (IsAct processor task now action (aim_of w.tasks.items before action)) s h.drawn t
    → CanFollow w action before processor now t
can_follow None w before now processor task s t h g = falls_asleep w now processor task None None s t (λ length c. refl) h g
can_follow (Some (Run asked)) w before now processor task s t h g = tt
can_follow (Some (Sleep asked)) w before now processor task s t h g =
    falls_asleep w now processor task (Some (Sleep asked)) None s t (λ length c. refl) h g
can_follow (Some Wait) w before now processor task s t h g = falls_asleep w now processor task (Some Wait) None s t (λ length c. refl) h g
can_follow (Some (Wake kind)) w before now processor task s t h g =
    let aim : Option ℕ = aim_of w.tasks.items before (Some (Wake kind)) in
    let u = takes_up w.tasks.items now processor task (Some (Wake kind)) aim s t h.drawn g in (
      wakes_well w now processor task kind aim s t h g,
      still_busy w.tasks.items now processor task (Some (Wake kind)) aim s t u,
      wakes_one w now processor task kind before s t h u,
    )
