use Rattle.std.proofs.Common.{map, string_bytes, take}
use Rattle.bq_trace.specs.TraceEvents.{TakesAll}
use Rattle.bq_experiment.specs.Names.{comments_from}
use Rattle.bq_experiment.specs.Traces.{skipped}
use Rattle.bq_experiment.proofs.names.report_names.Given as goal

-- this many tasks are named
abbrev pub invariant-names : goal.invariant-names
invariant-names g l =
    TakesAll g.S.Sink.takes l.initial.sink
    (map skipped (comments_from 0 (map string_bytes (take l.task-counter l.name-items)))) l.sink
