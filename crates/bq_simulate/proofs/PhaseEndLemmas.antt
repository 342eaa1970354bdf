-- A phase that ends next while a simulation goes well has got all that it takes, and its task finds all that its next action takes.
use Rattle.std.proofs.Common.{◌≡◌, ℕ, ◌+◌, ◌-◌, ◌<◌, ◌≤◌, inl, inr, true, false, List, length, Option, Some, None, refl, sym, subst, ap, ◌∙◌, arith}
use Rattle.std.specs.Prelude.{◌⊎◌, option_and_then, slice_get}
use Rattle.std.specs.Option.{option_map_or}
use Rattle.std.proofs.lemmas.Bool.{eq-eqb, ltb-true, true≢false}
use Rattle.std.proofs.lemmas.Option.{none-some, same_Some, slice_get-get_or, slice_get_within}
use Rattle.rand_pcg.specs.Lcg.{Lcg}
use Rattle.bq_workload.specs.declared.action.Action.{Action}
use Rattle.bq_workload.specs.declared.action.Action.TheVariants.{Run, Sleep, Wait, Wake}
use Rattle.bq_workload.specs.declared.action.Length.{Length}
use Rattle.bq_workload.specs.declared.due.Due.TheVariants.{End}
use Rattle.bq_workload.specs.declared.progress.TaskProgress.{TaskProgress}
use Rattle.bq_workload.specs.declared.processor_state.ProcessorState.{ProcessorState}
use Rattle.bq_workload.specs.declared.roster.Roster.{Roster}
use Rattle.bq_workload.specs.declared.workload.TaskKind.{TaskKind}
use Rattle.bq_workload.specs.declared.workload.Workload.{Workload}
use Rattle.bq_workload.specs.Accounts.{Accounts, IsPhaseDone, accounts_of, changed_at, accounts_charged, is_same}
use Rattle.bq_workload.specs.Dues.{phase_end, until}
use Rattle.bq_workload.specs.Lengths.{is_length}
use Rattle.bq_workload.specs.Next.{HasHome, IsNextDue, StaysAgreed, comes_at, phase_ends_at}
use Rattle.bq_workload.specs.Soundness.{first_flaw, is_action}
use Rattle.bq_workload.specs.Streams.{stream_of_task}
use Rattle.bq_workload.specs.Strays.{IsStrayEnd, IsStrayProgress, NoneIsDone}
use Rattle.bq_workload.specs.TaskProgress.{run_for}
use Rattle.bq_workload.proofs.SoundLemmas.{sound-few}
use Rattle.bq_workload.proofs.ListLemmas.{changed_at-here, some_or_none}
use Rattle.bq_workload.proofs.ProcessorAgreesLemmas.{charged-is, end-of}
use Rattle.bq_simulate.specs.declared.simulation.Simulation.{Simulation}
use Rattle.bq_simulate.specs.Actions.{acted, action_at, action_count, asked_by, next_action}
use Rattle.bq_simulate.specs.Agreement.{AgreesWith, IsOnTime, ProcessorIsOnTime, RunsOnTime}
use Rattle.bq_simulate.specs.Kept.{StandsAtAction}
use Rattle.bq_simulate.specs.GoingWell.{SimulationGoesWell, IsStrayAction}
use Rattle.bq_simulate.proofs.AccountsReadLemmas.{charged_there}
use Rattle.bq_simulate.proofs.MeetAgreeLemmas.{advanced_home, agrees_charged, woken_one_home, world_of}
use Rattle.bq_simulate.proofs.MeetOnTimeLemmas.{acted_got}
use Rattle.bq_simulate.proofs.NoStraySwitchLemmas.{no_stray_charge}
use Rattle.bq_simulate.proofs.NothingMissedLemmas.{until_is}
use Rattle.bq_simulate.proofs.SoundWorkloadLemmas.{sound_kind, sound_times}
use Rattle.bq_simulate.proofs.StandsAtActionLemmas.{AllStand, charged_keeps, else_of, standing_of_places}
use Rattle.bq_simulate.proofs.StaysOnTimeLemmas.{charged_tasks}
use Rattle.bq_simulate.proofs.StreamLemmas.{streams_count}
use Rattle.bq_disc.specs.declared.clock.TheConstants.{LATEST}

-- The end of a phase

-- a phase ends at a processor now: the task that runs there has got exactly what it takes, once its time is counted
pub record EndsNow (now processor : ℕ) (a : Accounts) : Type 0 where
  pub state : ProcessorState
  pub at : slice_get a.by_processor processor ≡ Some state
  pub task : ℕ
  pub runs : state.run ≡ Some task
  pub progress : TaskProgress
  pub there : slice_get a.by_task task ≡ Some progress
  pub done : progress.got + (now - state.since) ≡ progress.due

-- the end of a phase that comes at an instant at which nothing is past
ends_now : (end now processor : ℕ) (a : Accounts) → end ≤ LATEST → IsOnTime now a → comes_at end a (End processor) ≡ Some now
    → EndsNow now processor a
ends_now end now processor a early h comes = elim (some_or_none (slice_get a.by_processor processor)) [
  | inl none ↦ absurd (none-some now (sym (ap (λ (o : Option ProcessorState). option_and_then (phase_ends_at end a.by_task) o) none) ∙ comes))
  | inr (l, at) ↦
      let p : ProcessorIsOnTime now a.by_task l = h.processors processor l at in
      let ends : phase_ends_at end a.by_task l ≡ Some now =
      sym (ap (λ (o : Option ProcessorState). option_and_then (phase_ends_at end a.by_task) o) at) ∙ comes in
      elim (some_or_none l.run) [
        | inl none ↦
            absurd (none-some now (sym (ap (λ (o : Option ℕ).
            option_and_then (λ task. option_and_then (λ (c : TaskProgress). until end (phase_end l.since c)) (slice_get a.by_task task)) o)
            none)
            ∙ ends))
        | inr (task, runs) ↦
            let r : RunsOnTime now a.by_task l task = p.runs task runs in
            let u = until_is end (phase_end l.since r.progress) now (sym (end-of end processor task a l r.progress at runs r.there) ∙ comes) in
            record {
              state = l;
              at = at;
              task = task;
              runs = runs;
              progress = r.progress;
              there = r.there;
              done = omega (arith, u.0, u.1, r.phase, p.since, early);
            }
      ]
]

-- some task is done where the end of a phase comes at an instant at which nothing is past
one_is_done : (now processor : ℕ) (a : Accounts) → EndsNow now processor a → NoneIsDone processor (accounts_charged processor now a) → ⊥
one_is_done now processor a e none =
    let l : ProcessorState = e.state in
    let f : TaskProgress → TaskProgress = run_for (now - l.since) in
    let counts : (accounts_charged processor now a).by_task ≡ changed_at f a.by_task e.task =
    ap (λ (x : Accounts). x.by_task) (charged-is processor now l a e.at)
    ∙ ap (λ (o : Option ℕ). option_map_or (λ task. changed_at f a.by_task task) o a.by_task) e.runs in
    none e.task (f e.progress) (record {
      processor_state = record l { since = now };
      at = charged_there processor now a l e.at;
      runs = e.runs;
      there = ap (λ (cs : List TaskProgress). slice_get cs e.task) counts ∙ changed_at-here f a.by_task e.task e.progress e.there;
      done = e.done;
    })

-- no end of a phase goes astray that comes next while a simulation goes well
pub no_stray_end : (w : Workload) (now processor : ℕ) (s : Simulation)
    → SimulationGoesWell w now s → IsNextDue w.machine.duration (accounts_of s.roster) (End processor) now
    → IsStrayEnd processor now (accounts_of s.roster)
    → ⊥
no_stray_end w now processor s h next astray =
    let a : Accounts = accounts_of s.roster in
    let e : EndsNow now processor a =
    ends_now w.machine.duration now processor a (sound_times w h.sound).duration h.kept.on_time next.comes in
    elim astray [
      | inl charge ↦ no_stray_charge processor now a e.state e.at h.kept.on_time charge
      | inr none ↦ one_is_done now processor a e none
    ]

-- The task whose phase has ended

-- a task whose phase has ended at a processor stands at an action, has a stream, and was last there
pub record HasEnded (w : Workload) (processor task : ℕ) (c : TaskProgress) (s : Simulation) : Type 0 where
  pub stands : StandsAtAction w.tasks.items task c
  pub home : c.home ≡ processor
  pub processors : processor < 64
  pub tasks : task < 1024
  pub stream : task < length s.streams.items

-- each task whose phase has ended while a simulation goes well stands at an action, has a stream, and was last there
pub has_ended : (w : Workload) (now processor task : ℕ) (c : TaskProgress) (s : Simulation) (r : Roster)
    → SimulationGoesWell w now s → StaysAgreed s.roster r → accounts_of r ≡ accounts_charged processor now (accounts_of s.roster)
    → IsPhaseDone (accounts_of r) processor task c
    → HasEnded w processor task c s
has_ended w now processor task c s r h agrees counted done =
    let kinds : List TaskKind = w.tasks.items in
    let was : Accounts = accounts_of s.roster in
    let a : Accounts = accounts_charged processor now was in
    let at : IsPhaseDone a processor task c = subst (λ (x : Accounts). IsPhaseDone x processor task c) counted done in
    let stand : AllStand kinds a.by_task =
    charged_keeps (λ x. AllStand kinds x.by_task) (standing_of_places kinds) processor now was h.kept.standing.tasks in
    let world : AgreesWith (world_of s.driver) a = agrees_charged (world_of s.driver) was processor now h.kept.agrees in
    let home : HasHome (accounts_of r) task processor = (agrees h.agreed).homes processor task done.processor_state done.at done.runs in
    let low : task < length was.by_task = omega (arith, slice_get_within a.by_task task c at.there, charged_tasks processor now was) in
    record {
      stands = stand task c at.there;
      home = ap (λ (x : TaskProgress). x.home) (same_Some c home.progress (sym done.there ∙ home.there)) ∙ home.home;
      processors =
          omega (arith, slice_get_within a.by_processor processor at.processor_state at.at, world.mirrors.processors.many, h.kept.few);
      tasks = omega (arith, low, h.kept.all, sound-few w h.sound);
      stream = omega (arith, low, h.kept.standing.streams, streams_count s.seed 0 h.drawn, ap (λ (l : List Lcg). length l) h.streams);
    }

-- What its next action takes

-- a task's next action is one that a workload may have
next_sound : (w : Workload) → first_flaw w ≡ None → (task : ℕ) (c : TaskProgress) (action : Action)
    → StandsAtAction w.tasks.items task c → next_action w.tasks.items c ≡ Some action
    → is_action (length w.tasks.items) action ≡ true
next_sound w sound task c action stands next =
    let kind : TaskKind = stands.of_kind.kind in
    let there = stands.of_kind.there in
    let it : action_at kind c ≡ Some action = sym (ap (λ (o : Option TaskKind). option_and_then (λ k. action_at k c) o) there) ∙ next in
    (sound_kind w c.kind kind sound there).each c.action action
    (else_of (is_same kind.loops (Some c.loops)) (slice_get kind.actions.items c.action) action it)

-- the length that a task's next action asks for is in its range
asked_sound : (w : Workload) → first_flaw w ≡ None → (task : ℕ) (c : TaskProgress) (action : Option Action) (asked : Length)
    → StandsAtAction w.tasks.items task c → next_action w.tasks.items c ≡ action → asked_by action ≡ Some asked
    → is_length asked ≡ true
asked_sound w sound task c None asked stands next asks = absurd (none-some asked asks)
asked_sound w sound task c (Some (Run given)) asked stands next asks =
    subst (λ (x : Length). is_length x ≡ true) (same_Some given asked asks)
    (next_sound w sound task c (Run given) stands next)
asked_sound w sound task c (Some (Sleep given)) asked stands next asks =
    subst (λ (x : Length). is_length x ≡ true) (same_Some given asked asks)
    (next_sound w sound task c (Sleep given) stands next)
asked_sound w sound task c (Some Wait) asked stands next asks = absurd (none-some asked asks)
asked_sound w sound task c (Some (Wake kind)) asked stands next asks = absurd (none-some asked asks)

-- where a workload has no flaw the length that an action asks for is one, and its task has a stream to draw it
pub no_stray_length : (w : Workload) → first_flaw w ≡ None
    → (processor task : ℕ) (c : TaskProgress) (s : Simulation) (action : Option Action) (asked : Length)
    → HasEnded w processor task c s → action ≡ next_action w.tasks.items c → asked_by action ≡ Some asked
    → (is_length asked ≡ false) ⊎ (slice_get s.streams.items task ≡ None)
    → ⊥
no_stray_length w sound processor task c s action asked e is asks (inl short) =
    true≢false (sym (asked_sound w sound task c action asked e.stands (sym is) asks) ∙ short)
no_stray_length w sound processor task c s action asked e is asks (inr none) =
    none-some _ (sym none ∙ slice_get-get_or s.streams.items task (stream_of_task 0 0) e.stream)

-- its kind is there, and so is the one whose tasks it wakes
pub no_stray_action : (w : Workload) → first_flaw w ≡ None → (task : ℕ) (c : TaskProgress) (action : Option Action)
    → StandsAtAction w.tasks.items task c → action ≡ next_action w.tasks.items c → IsStrayAction w.tasks.items c action
    → ⊥
no_stray_action w sound task c action stands is (inl none) = none-some stands.of_kind.kind (sym none ∙ stands.of_kind.there)
no_stray_action w sound task c action stands is (inr (number, wakes, none)) =
    let low = ltb-true number (length w.tasks.items) (next_sound w sound task c (Wake number) stands (sym is ∙ wakes)) in
    none-some _ (sym none ∙ slice_get-get_or w.tasks.items number stands.of_kind.kind low)

-- What it has taken up

-- whatever a task does it was last where it was
pub acted_home : (action : Option Action) (kinds : List TaskKind) (length now : ℕ) (c : TaskProgress)
    → (acted kinds action length now c).home ≡ c.home
acted_home None kinds length now c = refl
acted_home (Some (Run asked)) kinds length now c = advanced_home (action_count kinds c) c
acted_home (Some (Sleep asked)) kinds length now c = advanced_home (action_count kinds c) c
acted_home (Some Wait) kinds length now c = advanced_home (action_count kinds c) c
acted_home (Some (Wake kind)) kinds length now c = woken_one_home kinds kind c

-- a task whose phase has ended takes up its next action
pub no_stray_progress : (w : Workload) (action : Option Action) (processor task length now : ℕ) (c new : TaskProgress)
    (s : Simulation) (a : Accounts)
    → HasEnded w processor task c s → IsPhaseDone a processor task c → new ≡ acted w.tasks.items action length now c
    → IsStrayProgress processor task new a
    → ⊥
no_stray_progress w action processor task length now c new s a e done is (inl still) =
    let runs =
    ap (λ (o : Option ProcessorState). option_map_or (λ (l : ProcessorState). is_same l.run (Some task)) o false) done.at
    ∙ ap (λ o. is_same o (Some task)) done.runs ∙ eq-eqb task task refl in
    true≢false (sym runs ∙ still)
no_stray_progress w action processor task length now c new s a e done is (inr (inl away)) =
    away (ap (λ (x : TaskProgress). x.home) is ∙ acted_home action w.tasks.items length now c ∙ e.home)
no_stray_progress w action processor task length now c new s a e done is (inr (inr (inl over))) =
    omega (arith, over, ap (λ (x : TaskProgress). x.got) is, acted_got action w.tasks.items length now c)
no_stray_progress w action processor task length now c new s a e done is (inr (inr (inr (inl high)))) = omega (arith, high, e.processors)
no_stray_progress w action processor task length now c new s a e done is (inr (inr (inr (inr (inl none))))) =
    none-some c (sym none ∙ done.there)
no_stray_progress w action processor task length now c new s a e done is (inr (inr (inr (inr (inr high))))) = omega (arith, high, e.tasks)
