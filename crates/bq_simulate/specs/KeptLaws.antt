-- The laws of what is kept: what opens a simulation leaves it so, and so does each thing that is met.
use Rattle.std.specs.Prelude.{◌≡◌, ℕ, ◌+◌, ◌-◌, ◌<◌, ◌≤◌, ◌*◌, ◌^◌, List, Option, None, Ok, length}
use Rattle.bq_disc.specs.Discipline.{Discipline}
use Rattle.bq_bpf.specs.declared.board.CounterCall.{CounterCall}
use Rattle.bq_hooks.specs.declared.hook.Hook.{Hook}
use Rattle.bq_parts.specs.declared.event.Event.TheVariants.{Draw, Install}
use Rattle.bq_parts.specs.declared.reply.Reply.{Reply}
use Rattle.bq_parts.specs.declared.reply.Reply.TheVariants.{Drawn}
use Rattle.bq_parts.specs.Choices.{by_programs}
use Rattle.bq_parts.specs.Steps.{WorldStep}
use Rattle.bq_parts.specs.World.{World, opening_world}
use Rattle.bq_trace.specs.TraceEvents.{Reported}
use Rattle.bq_verify.specs.Accepted.{Accepted}
use Rattle.bq_words.specs.Sizes.{processors_in}
use Rattle.bq_workload.specs.declared.due.Due.{Due}
use Rattle.bq_workload.specs.declared.workload.Workload.{Workload}
use Rattle.bq_workload.specs.Bounds.{steps_at_once}
use Rattle.bq_workload.specs.Next.{IsNextDue}
use Rattle.bq_workload.specs.Soundness.{first_flaw}
use Rattle.bq_simulate.specs.declared.driver.Driver.{Driver}
use Rattle.bq_simulate.specs.AtOnce.{steps_left_at}
use Rattle.bq_simulate.specs.Deeds.{Book, Deed, DeedsLead}
use Rattle.bq_simulate.specs.Drives.{Starts}
use Rattle.bq_simulate.specs.Kept.{IsKept, IsNewerFrom, StandAtActions, WereDrawn}
use Rattle.bq_simulate.specs.Simulations.{SimulationBegins, opening_book, periods_of}
use Rattle.bq_simulate.specs.Steps.{DeedsMeet, Opens}

-- for the kinds, the seed and the periods of a workload these deeds lead from the first state to the second
abbrev pub DeedsLeadIn : Workload → Driver → Book → List Deed → Reported → Driver → Book → Type 0
DeedsLeadIn w d b deeds reported e c = DeedsLead w.tasks.items w.machine.seed (periods_of w.machine) d b deeds reported e c

-- Whatever is done, each task is at an action of its kind, if each was before.
abbrev pub StandingIsKept : Type 0
StandingIsKept =
    (w : Workload) (d e : Driver) (b c : Book) (deeds : List Deed) (reported : Reported) → first_flaw w ≡ None → DeedsLeadIn w d b deeds reported e c →
    StandAtActions w.tasks.items b → StandAtActions w.tasks.items c

-- All is kept, of a workload that can be followed: at instant 0 once it has opened, from there until the next thing comes, and when that is met.
pub record AllIsKept : Type 0 where
  pub opened : (policies : List Accepted) (w : Workload) (d e : Driver) (b : Book) (deeds : List Deed) (first reported : Reported) → first_flaw w ≡ None →
      Starts w.machine.discipline w.machine.size first d → Opens policies (processors_in w.machine.size) w.tasks.items deeds →
      DeedsLeadIn w d (opening_book w.machine) deeds reported e b → IsKept w.tasks.items 0 e b
  pub comes : (w : Workload) (d : Driver) (b : Book) (due : Due) (now time : ℕ) → first_flaw w ≡ None → IsKept w.tasks.items now d b → IsNextDue w.machine.duration b.accounts due time →
      (now ≤ time) × (time ≤ w.machine.duration) × IsKept w.tasks.items time d b
  pub met : (w : Workload) (d e : Driver) (b c : Book) (due : Due) (now : ℕ) (deeds : List Deed) (reported : Reported) → first_flaw w ≡ None →
      now ≤ w.machine.duration → DeedsMeet due now deeds → DeedsLeadIn w d b deeds reported e c → IsKept w.tasks.items now d b → IsKept w.tasks.items now e c

-- So wherever a simulation has been followed to, there is an instant until its end at which all is kept.
abbrev pub BeginningsAreKept : Type 0
BeginningsAreKept =
    (policies : List Accepted) (w : Workload) (reported : Reported) → first_flaw w ≡ None → (s : SimulationBegins policies w reported) →
    (now : ℕ) × (now ≤ w.machine.duration) × IsKept w.tasks.items now s.closing s.book

-- A number that is drawn, unless all were, is newer than each generation at a hook. While it is installed at one processor after
-- another, it stays newer than the generations at the processors that are left.
pub record GenerationsAreNewer : Type 0 where
  pub opened : (count : ℕ) → WereDrawn (opening_world count)
  pub drawn : (d : Discipline) (w v : World) (calls : List CounterCall) (generation : ℕ) → w.drawn < 2 ^ 64 - 1 → WereDrawn w →
      WorldStep (by_programs d) w Draw calls (Ok (Drawn generation)) v → (v.drawn ≡ w.drawn + 1) × WereDrawn v × IsNewerFrom 0 generation v
  pub installed : (d : Discipline) (w v : World) (calls : List CounterCall) (r : Reply) (processor generation : ℕ) (hook : Hook) (policy : Option Accepted) →
      IsNewerFrom processor generation w → WereDrawn w → WorldStep (by_programs d) w (Install processor hook generation policy) calls (Ok r) v →
      (v.drawn ≡ w.drawn) × WereDrawn v × IsNewerFrom (processor + 1) generation v

-- At no instant may as many things still come as are counted for one, and each thing that is the next and is met takes one of them at least.
pub record FewComeAtOnce : Type 0 where
  pub few : (w : Workload) (now : ℕ) (d : Driver) (b : Book) → first_flaw w ≡ None → IsKept w.tasks.items now d b →
      length b.accounts.by_processor ≡ processors_in w.machine.size → steps_left_at w.tasks.items now b.accounts < steps_at_once w
  pub met : (w : Workload) (d e : Driver) (b c : Book) (due : Due) (now : ℕ) (deeds : List Deed) (reported : Reported) → first_flaw w ≡ None →
      now ≤ w.machine.duration → IsNextDue w.machine.duration b.accounts due now → DeedsMeet due now deeds → DeedsLeadIn w d b deeds reported e c → IsKept w.tasks.items now d b →
      steps_left_at w.tasks.items now c.accounts < steps_left_at w.tasks.items now b.accounts

-- So wherever a simulation has been followed to, fewer things have come than the bound of all instants until its end.
abbrev pub FewComeUntilTheEnd : Type 0
FewComeUntilTheEnd =
    (policies : List Accepted) (w : Workload) (reported : Reported) → first_flaw w ≡ None → (s : SimulationBegins policies w reported) →
    length s.proceeds.meets.steps < (w.machine.duration + 1) * steps_at_once w
