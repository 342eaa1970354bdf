-- The lines of `timehist`: which parts of a change are shown, and what they say.
use Rattle.std.specs.Prelude.{◌≡◌, ℕ, zero, suc, List, [], ◌++◌, Option, Some, None, unwrap_or, codes}
use Rattle.std.specs.Fmt.{decimal}
use Rattle.std.specs.Option.{SomeIff}
use Rattle.bq_schedule.specs.declared.change.Start.{Start}
use Rattle.bq_schedule.specs.declared.change.Stop.{Stop}
use Rattle.bq_schedule.specs.declared.change.Wake.{Wake}
use Rattle.bq_schedule.specs.Figures.{Figures, processor_in_figures}
use Rattle.bq_report.specs.declared.window.Window.{Window}
use Rattle.bq_report.specs.Columns.{moment_columns, run_columns, task_columns}
use Rattle.bq_report.specs.Names.{NamedTasks, name_of}
use Rattle.bq_report.specs.Windows.{Shows}

-- the lines above the others, which name the columns
abbrev pub head_lines : List ℕ
head_lines =
    codes "           time    cpu  task                  wait time  sch delay   run time\n"
    ++ (codes "                                                 (msec)     (msec)     (msec)\n"
    ++ codes "--------------- ------  --------------------  ---------  ---------  ---------\n")

-- a run is shown if the window shows the moment at which it ended
abbrev pub IsShownStop : Window → Option Stop → Option Stop → Type 0
IsShownStop w None part = part ≡ None
IsShownStop w (Some s) part = SomeIff part (Shows w s.start.processor s.start.task s.at) s

-- the run that still goes on when the schedule ends is shown if the window shows the last reading of its processor's clock
abbrev pub IsShownRunner : Window → ℕ → ℕ → Option Start → Option Start → Type 0
IsShownRunner w processor last None part = part ≡ None
IsShownRunner w processor last (Some s) part = SomeIff part (Shows w processor s.task last) s

-- the name of a task; empty if it has none
abbrev pub name_text : NamedTasks → ℕ → List ℕ
name_text names task = unwrap_or (name_of names task) []

-- the running task
abbrev pub runner_columns : NamedTasks → Option Start → List ℕ
runner_columns names None = codes "<idle>              "
runner_columns names (Some s) = task_columns s.task (name_text names s.task)

-- a task's number, and its name if it has one
abbrev pub named_task : ℕ → Option (List ℕ) → List ℕ
named_task task None = decimal task
named_task task (Some name) = decimal task ++ (codes " " ++ name)

-- the processor on which a woken task is placed, and the end of the line
abbrev pub target_text : ℕ → List ℕ
target_text processor = codes " on cpu " ++ (decimal processor ++ codes "\n")

-- which task a wake wakes, and the processor on which it is placed
abbrev pub awakened_text : NamedTasks → Wake → List ℕ
awakened_text names k = codes "  awakened: " ++ (named_task k.task (name_of names k.task) ++ target_text k.to)

-- the line of a wake, if there is one
abbrev pub wake_text : NamedTasks → Figures → Option Wake → List ℕ
wake_text names s None = []
wake_text names s (Some k) =
    moment_columns k.at k.from ++ (runner_columns names (processor_in_figures s k.from).running ++ awakened_text names k)

-- the line of a run that ended, if there is one
abbrev pub stop_text : NamedTasks → Option Stop → List ℕ
stop_text names None = []
stop_text names (Some s) = run_columns s.start s.at (name_text names s.start.task) ++ codes "\n"

-- from which processor a task migrates to which, if it ran before
abbrev pub come_from : Start → Option ℕ → List ℕ
come_from s None = []
come_from s (Some before) = codes "  migrated: cpu " ++ (decimal before ++ (codes " => " ++ (decimal s.processor ++ codes "\n")))

-- from which processor the task of this start migrates to which, if it ran before
abbrev pub origin_text : Start → List ℕ
origin_text s = come_from s s.before

-- the line of a migration, if there is one
abbrev pub migration_text : NamedTasks → Option Start → List ℕ
migration_text names None = []
migration_text names (Some s) =
    moment_columns s.at s.processor ++ (task_columns s.task (name_text names s.task) ++ origin_text s)

-- the line of a run that goes on, if there is one
abbrev pub runner_text : NamedTasks → ℕ → Option Start → List ℕ
runner_text names last None = []
runner_text names last (Some s) = run_columns s last (name_text names s.task) ++ codes "  runs on\n"

-- the lines of a change: of its wake, of the run that it ends, and of the migration with which another begins, if there are any
abbrev pub change_text : NamedTasks → Figures → Option Wake → Option Stop → Option Start → List ℕ
change_text names s wake stop migration = wake_text names s wake ++ (stop_text names stop ++ migration_text names migration)

-- the lines of the shown runs that go on at the processors below a number, in order of the processors
unfoldable pub AreLastLines : Window → NamedTasks → Figures → ℕ → List ℕ → Type 0
AreLastLines w names s zero lines = lines ≡ []
AreLastLines w names s (suc processor) lines =
    (before : List ℕ) × (part : Option Start) × AreLastLines w names s processor before
    × IsShownRunner w processor (processor_in_figures s processor).last (processor_in_figures s processor).running part
    × (lines ≡ before ++ runner_text names (processor_in_figures s processor).last part)
