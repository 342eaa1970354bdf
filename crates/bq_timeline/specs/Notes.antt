-- What goes to standard error: notes on lines as they come, and notes once a trace is over.
use Rattle.std.specs.Prelude.{◌≡◌, ℕ, zero, suc, ◌==◌, ◌%◌, ◌-◌, ◌^◌, nat_le, nat_lt, ◌&&◌, ◌||◌, not, Bool, false, List, [], ◌++◌, length, Option, Some, None, if◌then◌else◌, codes}
use Rattle.std.specs.Fmt.{decimal}
use Rattle.std.specs.List.{list_any}
use Rattle.bq_disc.specs.declared.limits.TheConstants.{PROCESSORS, TASKS}
use Rattle.bq_schedule.specs.Figures.{Figures, processor_in_figures, task_in_figures}
use Rattle.bq_schedule.specs.Runnable.{undrained}
use Rattle.bq_timeline.specs.declared.screen.Part.{Part}
use Rattle.bq_timeline.specs.declared.screen.Screen.{Screen}

-- only the notes of a screen have changed, and its text is as it was
abbrev pub ChangesOnlyNotes : Screen → Screen → Type 0
ChangesOnlyNotes old new = new ≡ record old { notes = new.notes }

-- the note on a task that was placed on a processor that was never drained after, if there is such a processor
abbrev pub waiting_note : ℕ → Option ℕ → List ℕ
waiting_note task None = []
waiting_note task (Some processor) =
    codes "task " ++ (decimal task ++ (codes " was placed on processor " ++ (decimal processor ++ codes ", which was never drained after\n")))

-- the notes on tasks below a number whose processor was never drained after, in order
unfoldable pub waiting_notes : Figures → ℕ → List ℕ
waiting_notes s zero = []
waiting_notes s (suc task) = waiting_notes s task ++ waiting_note task (undrained s task)

-- a number that a task is asked for by; 2^16 - 1 stands for names, each of which has a note of its own if no task has it
abbrev pub is_number : ℕ → Bool
is_number id = nat_lt id (2 ^ 16 - 1)

-- tasks are asked for by number, but none of those that are asked for was admitted
abbrev pub lacks_tasks : Figures → List ℕ → Bool
lacks_tasks s tasks = list_any is_number tasks && not (list_any (λ id. (task_in_figures s id).is_admitted) tasks)

-- none of the processors that the bits name is one of this many
abbrev pub lacks_processors : ℕ → ℕ → Bool
lacks_processors count processors = nat_lt count PROCESSORS && (processors % 2 ^ count == 0)

-- the note on tasks that are asked for by number, if none of them exists
abbrev pub tasks_note : Figures → List ℕ → List ℕ
tasks_note s tasks = if lacks_tasks s tasks then codes "--tasks: there is no task with such a number\n" else []

-- the note on the named processors, if the machine has none of them
abbrev pub processors_note : ℕ → ℕ → List ℕ
processors_note count processors =
    if lacks_processors count processors then codes "--cpus: the machine has none of these processors; how many it has: " ++ (decimal count ++ codes "\n") else []

-- the clock of a processor below a number reaches a moment
unfoldable pub reaches : Figures → ℕ → ℕ → Bool
reaches s from zero = false
reaches s from (suc p) = reaches s from p || nat_le from (processor_in_figures s p).last

-- the note that the trace ends before the moment from which on it is to be shown: no clock reaches it
abbrev pub past_note : Figures → ℕ → List ℕ
past_note s from = if reaches s from PROCESSORS then [] else codes "--from: the trace ends before that time\n"

-- the notes on tasks, processors and times that are asked for but do not exist, if there is a machine
abbrev pub absent_notes : Option Figures → List ℕ → Part → List ℕ
absent_notes None tasks part = []
absent_notes (Some s) tasks part = tasks_note s tasks ++ (processors_note (length s.processors) part.processors ++ past_note s part.from)

-- the note that no line made a machine, if no line was bad or refused
abbrev pub unmade_note : ℕ → List ℕ
unmade_note n = if n == 0 then codes "the trace makes no machine, so there is nothing to show: it begins with a line such as machine cfs 2\n" else []

-- how many lines were bad or refused, if any were
abbrev pub bad_or_refused_note : ℕ → List ℕ
bad_or_refused_note n = if n == 0 then [] else codes "lines bad or refused: " ++ (decimal n ++ codes "\n")

-- the last notes, by the schedule of the whole trace, if there is one, and the number of bad or refused lines
abbrev pub last_notes : Option Figures → ℕ → List ℕ
last_notes None n = unmade_note n ++ bad_or_refused_note n
last_notes (Some s) n = waiting_notes s TASKS ++ bad_or_refused_note n
