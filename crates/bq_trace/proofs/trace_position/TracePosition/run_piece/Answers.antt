use Rattle.bq_trace.proofs.StandingLemmas.{SoFar-none, SoFar-more}
use Rattle.bq_trace.proofs.trace_position.TracePosition.run_piece.Goals as goal

pub loop-tail-init : goal.loop-tail-init
loop-tail-init g c = λ begun h. SoFar-none g.S.Sink.takes c.args.self.now begun c.args.piece.now c.args.sink.now h

pub loop-tail-preserved : goal.loop-tail-preserved
loop-tail-preserved g c = λ begun h.
    let before = c.loop-tail.invariant begun h in
    SoFar-more g.S.Sink.takes _ _ _ _ _ _ _ _ _ _ before c.in-Some.ensures.found.0 c.in-Some.ensures.found.1
    (c.in_ok-end_line.ensures.reported before.current before.stands) c.in_ok-end_line.ensures.cleared
