-- The figures as JSON.
use Rattle.std.specs.Prelude.{ℕ, List, [], ◌++◌, ◌==◌, Option, Some, None, if◌then◌else◌, codes}
use Rattle.std.specs.Fmt.{decimal}
use Rattle.serde_json.specs.Data.{Data, number, unsigned, null, string, object, member, no_members}
use Rattle.serde_json.specs.Find.{of_integer}
use Rattle.bq_schedule.specs.declared.figures.HookFigures.{HookFigures}
use Rattle.bq_schedule.specs.declared.figures.ProcessorFigures.{ProcessorFigures}
use Rattle.bq_schedule.specs.declared.figures.TaskFigures.{TaskFigures}
use Rattle.bq_schedule.specs.declared.percentiles.Percentiles.{Percentiles}
use Rattle.bq_schedule.specs.Figures.{Figures, task_in_figures}
use Rattle.bq_schedule.specs.Observed.{idle_in}
use Rattle.bq_schedule.specs.Runnable.{fair_of}
use Rattle.bq_report.specs.Columns.{nearest}
use Rattle.bq_report.specs.Names.{NamedTasks, name_of}
use Rattle.bq_report.specs.Waits.{still_waiting, waited_in_all}

-- a number, or null
abbrev pub number_or_null : Option ℕ → Data
number_or_null None = null
number_or_null (Some n) = number (unsigned n)

-- the figures of a hook
abbrev pub hook_object : HookFigures → Data
hook_object h =
    object (member (codes "asked") (number (unsigned h.asked))
    (member (codes "overruled") (number (unsigned h.overruled))
    (member (codes "steps") (number (unsigned h.steps)) no_members)))

-- the percentiles of a task's latencies, and the greatest
abbrev pub latency_object : Percentiles → Data
latency_object p =
    object (member (codes "max") (number_or_null p.greatest)
    (member (codes "p50") (number_or_null p.p50)
    (member (codes "p95") (number_or_null p.p95)
    (member (codes "p99") (number_or_null p.p99) no_members))))

-- a text, or null
abbrev pub text_or_null : Option (List ℕ) → Data
text_or_null None = null
text_or_null (Some text) = string text

-- how often a task started, was preempted, migrated and was woken
abbrev pub counts_object : TaskFigures → Data
counts_object t =
    object (member (codes "migrated") (number (unsigned t.migrations))
    (member (codes "preempted") (number (unsigned t.preemptions))
    (member (codes "switches") (number (unsigned t.switches))
    (member (codes "wakes") (number (unsigned t.wakes)) no_members))))

-- the figures of a task, with these percentiles of its latencies
unfoldable pub task_object : NamedTasks → Figures → ℕ → Percentiles → Data
task_object names s id p =
    object (member (codes "counts") (counts_object (task_in_figures s id))
    (member (codes "cpu") (number (unsigned (task_in_figures s id).time))
    (member (codes "fair") (number (unsigned (nearest (fair_of s id))))
    (member (codes "latency") (latency_object p)
    (member (codes "name") (text_or_null (name_of names id))
    (member (codes "nice") (number (of_integer (task_in_figures s id).nice))
    (member (codes "still_waiting") (number_or_null (still_waiting s id))
    (member (codes "task") (number (unsigned id))
    (member (codes "waited") (number (unsigned (waited_in_all s id)))
    (member (codes "weight") (number (unsigned (task_in_figures s id).weight)) no_members))))))))))

-- the figures of a processor in this observed time
unfoldable pub processor_object : ℕ → ℕ → ProcessorFigures → Data
processor_object processor observed p =
    object (member (codes "busy") (number (unsigned p.busy))
    (member (codes "idle") (number (unsigned (idle_in observed p)))
    (member (codes "place") (hook_object p.place)
    (member (codes "preempt") (hook_object p.preempt)
    (member (codes "processor") (number (unsigned processor))
    (member (codes "pull") (hook_object p.pull)
    (member (codes "switches") (number (unsigned p.switches)) no_members)))))))

-- how many wakes did nothing because their task did not wait, if any did
abbrev pub missed_member : ℕ → List ℕ
missed_member n = if n == 0 then [] else codes ",\"missed_wakes\":" ++ decimal n
