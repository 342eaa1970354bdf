-- Laws of a trace that comes in pieces.
use Rattle.std.specs.Prelude.{ℕ, List, ◌++◌}
use Rattle.bq_trace.specs.Feeding.{Continues}
use Rattle.bq_trace.specs.declared.trace_position.TracePosition.{TracePosition}

-- Two pieces, one after the other, do what their join does.
abbrev pub TracePiecesJoin : Type 0
TracePiecesJoin =
    (s t u : TracePosition) (begun piece more text others : List ℕ) → (h : Continues s begun piece text t)
    → Continues t h.rest more others u → Continues s begun (piece ++ more) (text ++ others) u
