-- The events of a trace, as the format of chrome://tracing and ui.perfetto.dev has them. Times are microseconds.
use Rattle.std.specs.Prelude.{ℕ, ◌+◌, ◌-◌, ◌*◌, List, ◌++◌, Option, Some, None, codes}
use Rattle.std.specs.Fmt.{decimal}
use Rattle.serde_json.specs.Data.{Data, number, unsigned, string, object, member, no_members}
use Rattle.serde_json.specs.Find.{of_integer}
use Rattle.serde_json.specs.Written.{compact_text}
use Rattle.bq_schedule.specs.declared.slice.Slice.{Slice}
use Rattle.bq_schedule.specs.declared.figures.TaskFigures.{TaskFigures}
use Rattle.bq_report.specs.Amounts.{micros_text}
use Rattle.bq_report.specs.Names.{NamedTasks, name_of}

-- a text as JSON
abbrev pub json_text : List ℕ → List ℕ
json_text text = compact_text (string text)

-- the name of a task, or its number if it has none
abbrev pub label_of : ℕ → Option (List ℕ) → List ℕ
label_of task None = codes "task " ++ decimal task
label_of task (Some name) = name

-- the name of a task's run, as JSON
abbrev pub run_name : NamedTasks → ℕ → List ℕ
run_name names task = json_text (label_of task (name_of names task))

-- the name of what happens to a task, as JSON: the act, and the task
abbrev pub act_name : NamedTasks → List ℕ → ℕ → List ℕ
act_name names act task = json_text (act ++ (codes " " ++ label_of task (name_of names task)))

-- the track of a processor's events; the track of its runs has the processor's own number
abbrev pub event_track : ℕ → ℕ
event_track processor = 64 + processor

-- a track with its name and its place among all tracks
abbrev pub track_text : ℕ → List ℕ → ℕ → List ℕ
track_text track name place =
    codes ",\n{\"ph\":\"M\",\"pid\":0,\"tid\":" ++ (decimal track
    ++ (codes ",\"name\":\"thread_name\",\"args\":{\"name\":\"" ++ (name ++ (codes "\"}},\n{\"ph\":\"M\",\"pid\":0,\"tid\":" ++ (decimal track
    ++ (codes ",\"name\":\"thread_sort_index\",\"args\":{\"sort_index\":" ++ (decimal place ++ codes "}}")))))))

-- the two tracks of a processor
abbrev pub tracks_text : ℕ → List ℕ
tracks_text processor =
    track_text processor (codes "cpu " ++ decimal processor) (processor * 2)
    ++ track_text (event_track processor) (codes "cpu " ++ (decimal processor ++ codes " events")) (processor * 2 + 1)

-- the event of a run: a complete event (X) on its processor's track, which begins when the run does and is as long; the name and the
-- arguments are JSON already
abbrev pub run_event : Slice → List ℕ → List ℕ → List ℕ
run_event run name args =
    codes ",\n{\"ph\":\"X\",\"cat\":\"run\",\"name\":" ++ (name ++ (codes ",\"pid\":0,\"tid\":" ++ (decimal run.processor
    ++ (codes ",\"ts\":" ++ (micros_text run.from ++ (codes ",\"dur\":" ++ (micros_text (run.to - run.from)
    ++ (codes ",\"args\":" ++ (args ++ codes "}")))))))))

-- the arguments of a run: its task's nice value and weight, its task, and how long that task had waited for it
abbrev pub run_object : TaskFigures → ℕ → ℕ → Data
run_object t task waited =
    object (member (codes "nice") (number (of_integer t.nice))
    (member (codes "task") (number (unsigned task))
    (member (codes "waited_ns") (number (unsigned waited))
    (member (codes "weight") (number (unsigned t.weight)) no_members))))

-- a slice of one nanosecond, the shortest that the format can have, with this category and name, on this track at a moment
abbrev pub instant_text : List ℕ → List ℕ → ℕ → ℕ → List ℕ → List ℕ
instant_text kind name track at args =
    codes ",\n{\"ph\":\"X\",\"cat\":\"" ++ (kind ++ (codes "\",\"name\":" ++ (name ++ (codes ",\"pid\":0,\"tid\":" ++ (decimal track
    ++ (codes ",\"ts\":" ++ (micros_text at ++ (codes ",\"dur\":0.001,\"args\":" ++ (args ++ codes "}")))))))))

-- a task, and another number under its name
abbrev pub task_args : ℕ → List ℕ → ℕ → List ℕ
task_args task name n = codes "{\"task\":" ++ (decimal task ++ (codes ",\"" ++ (name ++ (codes "\":" ++ (decimal n ++ codes "}")))))

-- the beginning of the arrow with this number
abbrev pub beginning_text : List ℕ → ℕ → ℕ → ℕ → List ℕ
beginning_text kind arrow track at =
    codes ",\n{\"ph\":\"s\",\"cat\":\"" ++ (kind ++ (codes "\",\"name\":\"" ++ (kind ++ (codes "\",\"id\":" ++ (decimal arrow
    ++ (codes ",\"pid\":0,\"tid\":" ++ (decimal track ++ (codes ",\"ts\":" ++ (micros_text at ++ codes "}")))))))))

-- the end of the arrow with this number, at the beginning of a run
abbrev pub end_text : List ℕ → ℕ → Slice → List ℕ
end_text kind arrow run =
    codes ",\n{\"ph\":\"f\",\"bp\":\"e\",\"cat\":\"" ++ (kind ++ (codes "\",\"name\":\"" ++ (kind ++ (codes "\",\"id\":" ++ (decimal arrow
    ++ (codes ",\"pid\":0,\"tid\":" ++ (decimal run.processor ++ (codes ",\"ts\":" ++ (micros_text run.from ++ codes "}")))))))))

-- the instant at which the answer of a hook's policy was overruled, after this many steps
abbrev pub overruled_text : List ℕ → ℕ → ℕ → ℕ → List ℕ
overruled_text hook steps processor at =
    codes ",\n{\"ph\":\"i\",\"s\":\"t\",\"cat\":\"policy\",\"name\":\"" ++ (hook ++ (codes " overruled\",\"pid\":0,\"tid\":" ++ (decimal (event_track processor)
    ++ (codes ",\"ts\":" ++ (micros_text at ++ (codes ",\"args\":{\"steps\":" ++ (decimal steps ++ codes "}}")))))))

-- how many tasks are runnable at a processor from a moment on
abbrev pub counter_text : ℕ → ℕ → ℕ → List ℕ
counter_text processor at count =
    codes ",\n{\"ph\":\"C\",\"name\":\"cpu " ++ (decimal processor ++ (codes " runnable\",\"pid\":0,\"ts\":" ++ (micros_text at
    ++ (codes ",\"args\":{\"tasks\":" ++ (decimal count ++ codes "}}")))))
