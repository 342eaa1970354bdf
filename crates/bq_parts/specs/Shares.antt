-- What each event does to the parts that it touches, and its reply. The world's step refers to these definitions.
use Rattle.std.specs.Prelude.{◌≡◌, ℕ, true, false, List, [], length, slice_index_or, slice_set, Option, Some, None, Result, Ok, Err}
use Rattle.bq_disc.specs.Tasks.{Task, id_of}
use Rattle.bq_disc.specs.Discipline.{Discipline}
use Rattle.bq_disc.specs.OneProcessor.{charge, marked, enter_all}
use Rattle.bq_bpf.specs.declared.board.CounterCall.{CounterCall}
use Rattle.bq_parts.specs.declared.lobby_entry.LobbyEntry.{LobbyEntry}
use Rattle.bq_parts.specs.declared.lobby_entry.LobbyEntry.TheVariants.{Absent, Sleeping, Away}
use Rattle.bq_parts.specs.declared.reply.Reply.{Reply}
use Rattle.bq_parts.specs.declared.reply.Reply.TheVariants.{Admitted, Retired, Begun, Installed, Drained, Ticked, Blocked, Pulled}
use Rattle.bq_parts.specs.declared.refusal.Refusal.{Refusal}
use Rattle.bq_parts.specs.declared.refusal.Refusal.TheVariants as no
use Rattle.bq_parts.specs.Processors.{Processor, new_processor}
use Rattle.bq_parts.specs.declared.carried.Carried.{Carried}
use Rattle.bq_parts.specs.declared.waking.Placement.{Placement}
use Rattle.bq_parts.specs.Refusals.{is_absent, retire_refusal, begin_refusal, generation_refusal}
use Rattle.bq_hooks.specs.declared.hook.Hook.{Hook}
use Rattle.bq_installed.specs.Installed.{InstalledFacts, at_hook, with_installed}
use Rattle.bq_installed.specs.Standing.{MayBeInstalled}
use Rattle.bq_hooks.specs.Permitted.{task_numbered}
use Rattle.bq_parts.specs.Choices.{PolicySemantics, SettledChoice, SettlesPlace, SettlesPreempt, SettlesPull, decided_by}
use Rattle.bq_parts.specs.Moves.{after_leaving, after_pull, as_it_leaves, without_task}

-- a processor after the time since its last reading was charged
abbrev pub after_time : Discipline → ℕ → Processor → Processor
after_time d now p = record p { running = charge d p.running now }

-- a processor whose mark is computed again
abbrev pub mark_updated : Discipline → Processor → Processor
mark_updated d p = record p { running = marked d p.running }

-- the lobby admits a task
abbrev pub Admits : ℕ → Task → List LobbyEntry → Result Reply Refusal → List LobbyEntry → Type 0
Admits id t lobby (Ok r) lobby' = (is_absent (slice_index_or lobby id Absent) ≡ true) × (r ≡ Admitted) × (lobby' ≡ slice_set lobby id (Sleeping t))
Admits id t lobby (Err e) lobby' = (is_absent (slice_index_or lobby id Absent) ≡ false) × (e ≡ no.TaskExists) × (lobby' ≡ lobby)

-- a sleeping task leaves the lobby for good
abbrev pub Retires : ℕ → List LobbyEntry → Result Reply Refusal → List LobbyEntry → Type 0
Retires id lobby (Ok r) lobby' = (retire_refusal (slice_index_or lobby id Absent) ≡ None) × (r ≡ Retired) × (lobby' ≡ slice_set lobby id Absent)
Retires id lobby (Err e) lobby' = (retire_refusal (slice_index_or lobby id Absent) ≡ Some e) × (lobby' ≡ lobby)

-- it is decided who runs, by a settled choice
abbrev pub Decides : PolicySemantics → ℕ → Processor → SettledChoice → Processor → Type 0
Decides s processor p settled q = SettlesPreempt s processor p p.running.current settled × (q ≡ decided_by s p settled)

-- the clock of a processor ticks
abbrev pub Ticks : PolicySemantics → ℕ → ℕ → Processor → List CounterCall → Reply → Processor → Type 0
Ticks s processor now p calls r q =
    (settled : SettledChoice) × Decides s processor (after_time s.discipline now p) settled q
    × (calls ≡ settled.calls) × (r ≡ Ticked (id_of q.running.current) settled.by settled.steps)

-- the tasks of an inbox enter
abbrev pub Drains : PolicySemantics → ℕ → ℕ → Processor → List Task → List CounterCall → Reply → Processor → Type 0
Drains s processor now p tasks calls r q =
    (settled : SettledChoice)
    × (let c = after_time s.discipline now p in
    Decides s processor (record c { running = enter_all s.discipline c.running tasks }) settled q)
    × (calls ≡ settled.calls) × (r ≡ Drained (length tasks) (id_of q.running.current) settled.by settled.steps)

-- the running task goes to the lobby
abbrev pub Blocks : Discipline → ℕ → ℕ → Processor → List LobbyEntry → Result Reply Refusal → Processor → List LobbyEntry → Type 0
Blocks d processor now p lobby (Ok r) q lobby' =
    (t : Task)
    × (let c = after_time d now p in
    (c.running.current ≡ Some t) × (q ≡ record c { running = after_leaving d c.running })
    × (r ≡ Blocked t.id (id_of q.running.current)) × (lobby' ≡ slice_set lobby t.id (Sleeping (as_it_leaves c.running processor t))))
Blocks d processor now p lobby (Err e) q lobby' = (p.running.current ≡ None) × (e ≡ no.Idle) × (q ≡ p) × (lobby' ≡ lobby)

-- a task goes from the lobby into the hand, with these loads
pub record TakesInHand (id : ℕ) (loads : List ℕ) (p : Processor) (lobby : List LobbyEntry) (r : Reply) (q : Processor) (lobby' : List LobbyEntry) : Type 0 where
  pub task : Task
  pub not_refused : begin_refusal (slice_index_or lobby id Absent) p.hand ≡ None
  pub sleeps : slice_index_or lobby id Absent ≡ Sleeping task
  pub replies : r ≡ Begun id loads
  pub in_hand : q ≡ record p { hand = Some (record { task = task; loads = loads }) }
  pub away : lobby' ≡ slice_set lobby id Away

-- a task goes into the hand, or the wake is refused
abbrev pub BeginsWake : ℕ → List ℕ → Processor → List LobbyEntry → Result Reply Refusal → Processor → List LobbyEntry → Type 0
BeginsWake id loads p lobby (Ok r) q lobby' = TakesInHand id loads p lobby r q lobby'
BeginsWake id loads p lobby (Err e) q lobby' = (begin_refusal (slice_index_or lobby id Absent) p.hand ≡ Some e) × (q ≡ p) × (lobby' ≡ lobby)

-- the processor with an empty hand, and at its place hook what the decision left there
abbrev pub placed_by : Processor → SettledChoice → Processor
placed_by p settled = record p { hand = None; hooks = record p.hooks { place = settled.installed } }

-- time passes; then one of this many processors is chosen, and the task leaves the hand for it
pub record PlacesTask (s : PolicySemantics) (count processor now : ℕ) (p : Processor) (calls : List CounterCall) (x : Placement) (q : Processor) : Type 0 where
  pub carried : Carried
  pub settled : SettledChoice
  pub in_hand : p.hand ≡ Some carried
  pub settles : SettlesPlace s count processor (after_time s.discipline now p) carried settled
  -- the placement reports the task and the decision
  pub task : x.task ≡ carried.task
  pub to : x.to ≡ settled.choice
  pub by : x.by ≡ settled.by
  pub steps : x.steps ≡ settled.steps
  pub asks : calls ≡ settled.calls
  pub here : q ≡ placed_by (after_time s.discipline now p) settled

-- the task in the hand, if there is one, is placed
abbrev pub Places : PolicySemantics → ℕ → ℕ → ℕ → Processor → List CounterCall → Option Placement → Processor → Type 0
Places s count processor now p calls None q = (calls ≡ []) × (p.hand ≡ None) × (q ≡ p)
Places s count processor now p calls (Some x) q = PlacesTask s count processor now p calls x q

-- what is new replaces what is installed at the hook, or its generation is refused; this many generations were drawn
abbrev pub Installs : Hook → ℕ → Processor → InstalledFacts → Result Reply Refusal → Processor → Type 0
Installs h drawn p new (Ok r) q =
    (generation_refusal (at_hook h p.hooks).generation drawn new.generation ≡ None) × (r ≡ Installed) × (q ≡ record p { hooks = with_installed h p.hooks new }) × MayBeInstalled h new
Installs h drawn p new (Err e) q = (generation_refusal (at_hook h p.hooks).generation drawn new.generation ≡ Some e) × (q ≡ p)

-- a task of the other's queue, if one was chosen, enters this one's; if nothing ran, the queue's choice runs
abbrev pub pulled_by : PolicySemantics → Processor → Processor → SettledChoice → Processor
pulled_by s p other settled =
    record p {
      running = after_pull s.discipline p.running other.running (task_numbered settled.choice);
      hooks = record p.hooks { pull = settled.installed };
    }

-- time passes here, and the other's mark is computed again; then a task, or none, goes from the other to here
pub record Pulls (s : PolicySemantics) (processor from now : ℕ) (p other : Processor) (calls : List CounterCall) (r : Reply) (q other' : Processor) : Type 0 where
  pub settled : SettledChoice
  pub settles : SettlesPull s processor from (after_time s.discipline now p) (mark_updated s.discipline other) settled
  pub asks : calls ≡ settled.calls
  pub replies : r ≡ Pulled (task_numbered settled.choice) (id_of q.running.current) settled.by settled.steps
  pub here : q ≡ pulled_by s (after_time s.discipline now p) (mark_updated s.discipline other) settled
  pub there : other' ≡ record (mark_updated s.discipline other) { running = without_task (mark_updated s.discipline other).running (task_numbered settled.choice) }

-- a pull, as `Pulls` says, between two processors of a list; the list then has both as the pull leaves them
abbrev pub PullsBetween : PolicySemantics → ℕ → ℕ → ℕ → List Processor → List CounterCall → Reply → List Processor → Type 0
PullsBetween s processor from now cpus calls r cpus' =
    (q : Processor) × (other : Processor)
    × Pulls s processor from now (slice_index_or cpus processor new_processor) (slice_index_or cpus from new_processor) calls r q other
    × (cpus' ≡ slice_set (slice_set cpus processor q) from other)
