use Rattle.std.proofs.Common.{◌≡◌, ◌+◌, ◌≤◌, ◌++◌, List, length}
use Rattle.std.specs.Prelude.{vec_len, vec_capacity}
use Rattle.std.specs.Vec.Iter.{into_iter_items, into_iter_len}
use Rattle.bq_bpf.specs.declared.board.CounterCall.{CounterCall}
use Rattle.bq_parts.specs.Choices.{by_programs}
use Rattle.bq_parts.specs.Steps.{WorldRun, ThroughAll}
use Rattle.bq_parts.specs.Orderly.{IsOrderly}
use Rattle.bq_core.proofs.dynamic_core.DynamicCore.run_all.Given as goal

abbrev pub invariant-loop-event : goal.invariant-loop-event
invariant-loop-event g l =
    let rest = into_iter_items l.event-iterator in
    record {
      whole : l.yielded ++ rest ≡ into_iter_items l.initial.event-iterator;
      left : into_iter_len l.event-iterator ≡ length rest;
      room : vec_len l.answers + length rest ≤ vec_capacity l.answers;
      ran : (calls : List (List CounterCall))
          × WorldRun (by_programs g.Q.R.Discipline.discipline) l.fn.self l.yielded calls l.answers.items l.self
          × ThroughAll g.B.Board.leads l.fn.board calls l.board;
      orderly : IsOrderly l.self;
    }
