-- Settled choices: a policy's answer if it is permitted, else the discipline's own choice.
use Rattle.std.specs.Prelude.{◌≡◌, ℕ, ◌==◌, Bool, List, [], Option, Some, None, unwrap_or}
use Rattle.bq_disc.specs.Tasks.{Task, id_of}
use Rattle.bq_disc.specs.Discipline.{Discipline}
use Rattle.bq_disc.specs.Movable.{movable_to}
use Rattle.bq_disc.specs.Pulls.{pull_of}
use Rattle.bq_disc.specs.OneProcessor.{decided, own_preempt}
use Rattle.bq_bpf.specs.declared.board.CounterCall.{CounterCall}
use Rattle.bq_hooks.specs.declared.hook.Version.{Version}
use Rattle.bq_hooks.specs.declared.hook.Version.TheVariants.{First, Second}
use Rattle.bq_verify.specs.Accepted.{Accepted}
use Rattle.bq_bpf.specs.Memory.{HaveShapes}
use Rattle.bq_installed.specs.Answers.{Answers, RunsWithin}
use Rattle.bq_installed.specs.Installed.{InstalledFacts}
use Rattle.bq_hooks.specs.declared.settled.By.{By}
use Rattle.bq_hooks.specs.declared.settled.By.TheVariants as who
use Rattle.bq_hooks.specs.Contexts.{PlaceFacts, place_bytes_first, place_bytes_second, preempt_bytes, pull_bytes, as_number, or_nobody}
use Rattle.bq_hooks.specs.OwnPlace.{own_place}
use Rattle.bq_hooks.specs.Permitted.{may_place, may_preempt, may_pull, task_numbered}
use Rattle.bq_hooks.specs.Settled.{settled as chosen}
use Rattle.bq_parts.specs.declared.carried.Carried.{Carried}
use Rattle.bq_parts.specs.declared.hook_decision.HookDecision.{HookDecision}
use Rattle.bq_parts.specs.Processors.{Processor, size_of}

-- what the world runs under: the discipline, and how a policy answers. `Answers policy context maps now processor r0 left
-- steps calls` says: on this context and these maps, at this reading and processor, the policy answers r0, leaves the maps
-- `left`, takes this many steps and makes these calls of counters
pub record PolicySemantics : Type 1 where
  pub discipline : Discipline
  pub Answers : Accepted → List ℕ → List (List ℕ) → ℕ → ℕ → ℕ → List (List ℕ) → ℕ → List CounterCall → Type 0

-- the semantics by which policies answer as their programs run
abbrev pub by_programs : Discipline → PolicySemantics
by_programs d = record { discipline = d; Answers = Answers }

-- semantics under which a policy may answer anything at all, and leave any maps of its shapes, within its budget
abbrev pub under_any_answers : Discipline → PolicySemantics
under_any_answers d = record { discipline = d; Answers = λ policy context maps now processor r0 maps' steps calls. Unit {0} }

-- a choice, who made it, how many steps it took, what was asked of the counters, and what is installed at the hook afterwards
pub record SettledChoice : Type 0 where
  pub choice : ℕ
  pub by : By
  pub steps : ℕ
  pub calls : List CounterCall
  pub installed : InstalledFacts

-- a decision of a processor, with its choice as a number, its calls, and what is installed at the hook afterwards
abbrev pub decision_of : {T : Type 0} → (T → ℕ) → HookDecision T → List CounterCall → InstalledFacts → SettledChoice
decision_of number d calls installed = record { choice = number d.choice; by = d.by; steps = d.steps; calls = calls; installed = installed }

-- the own choice, with no policy asked
abbrev pub unasked : ℕ → InstalledFacts → SettledChoice
unasked own installed = record { choice = own; by = who.Discipline; steps = 0; calls = []; installed = installed }

module _ (s : PolicySemantics) (policy : Accepted) where
  -- a policy that is asked settles the choice: it answers r0. If r0 is permitted, it is the choice; else the own choice is
  pub record PolicySettles (context : Version → List ℕ) (installed : InstalledFacts) (now processor : ℕ) (permitted : ℕ → Bool) (own : ℕ) (settled : SettledChoice) : Type 0 where
    pub r0 : ℕ
    pub maps : List (List ℕ)
    pub answers : s.Answers policy (context policy.version) installed.maps now processor r0 maps settled.steps settled.calls
    pub choice : settled.choice ≡ (chosen permitted (Some r0) own).choice
    pub by : settled.by ≡ (chosen permitted (Some r0) own).by
    -- either way the maps stay as the policy left them, in their shapes
    pub leaves : settled.installed ≡ record installed { maps = maps }
    pub shapes : HaveShapes policy.shapes maps
    -- it answers within its budget, with sixteen calls of counters at most
    pub within : RunsWithin policy settled.steps settled.calls

-- if a policy is given, it settles the choice; else the choice is the discipline's own
abbrev pub SettlesBy : PolicySemantics → Option Accepted → (Version → List ℕ) → InstalledFacts → ℕ → ℕ → (ℕ → Bool) → ℕ → SettledChoice → Type 0
SettlesBy s None context installed now processor permitted own settled = settled ≡ unasked own installed
SettlesBy s (Some policy) context installed now processor permitted own settled = PolicySettles s policy context installed now processor permitted own settled

-- the policy that is installed, if there is one, settles the choice
abbrev pub Settles : PolicySemantics → (Version → List ℕ) → InstalledFacts → ℕ → ℕ → (ℕ → Bool) → ℕ → SettledChoice → Type 0
Settles s context installed = SettlesBy s installed.policy context installed

-- the context of a placement, by the version of the policy's image
abbrev pub place_bytes : PlaceFacts → Version → List ℕ
place_bytes facts First = place_bytes_first facts
place_bytes facts Second = place_bytes_second facts

-- the place of the task in the hand is settled, among this many processors
abbrev pub SettlesPlace : PolicySemantics → ℕ → ℕ → Processor → Carried → SettledChoice → Type 0
SettlesPlace s count processor p carried settled =
    let own = unwrap_or (own_place count carried.loads carried.task) 0 in
    let context = place_bytes (record { task = carried.task; waking = processor; processors = count; own = own; loads = carried.loads }) in
    Settles s context p.hooks.place p.running.last processor (may_place count carried.task) own settled

-- it is settled whether the current task gives way, as 0 or 1; if nothing runs, no policy is asked
abbrev pub SettlesPreempt : PolicySemantics → ℕ → Processor → Option Task → SettledChoice → Type 0
SettlesPreempt s processor p None settled = settled ≡ unasked 0 p.hooks.preempt
SettlesPreempt s processor p (Some current) settled =
    let queue = p.running.queue in
    let own = own_preempt s.discipline queue (Some current) in
    let context = preempt_bytes (record { processor = processor; queue = queue; current = current; choice = s.discipline.choice queue; own = own }) in
    Settles s (λ version. context) p.hooks.preempt p.running.last processor may_preempt (as_number own) settled

-- the discipline's own pull from another processor: the id of its task, if there is one
abbrev pub own_pull : ℕ → Processor → Processor → Option ℕ
own_pull processor p other = id_of (pull_of processor (size_of p) (size_of other) other.running.queue)

-- it is settled which task is pulled from another processor
abbrev pub SettlesPull : PolicySemantics → ℕ → ℕ → Processor → Processor → SettledChoice → Type 0
SettlesPull s processor from p other settled =
    let queue = other.running.queue in
    let own = own_pull processor p other in
    let context = pull_bytes (record { puller = processor; source = from; puller_size = size_of p; source_size = size_of other; movable = movable_to processor queue; own = own }) in
    Settles s (λ version. context) p.hooks.pull p.running.last processor (may_pull processor queue) (or_nobody own) settled

-- the pulled task, or none, is the one whose number was chosen
abbrev pub SettlesPulled : PolicySemantics → ℕ → ℕ → Processor → Processor → HookDecision (Option ℕ) → List CounterCall → InstalledFacts → Type 0
SettlesPulled s processor from p other d calls installed =
    (choice : ℕ) × SettlesPull s processor from p other (decision_of (λ task. choice) d calls installed) × (d.choice ≡ task_numbered choice)

-- Decide: the processor after it was settled whether the current task gives way
abbrev pub decided_by : PolicySemantics → Processor → SettledChoice → Processor
decided_by s p settled =
    record p {
      running = decided s.discipline p.running p.running.current (settled.choice == 1);
      hooks = record p.hooks { preempt = settled.installed };
    }
