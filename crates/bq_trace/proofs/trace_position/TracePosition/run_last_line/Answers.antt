use Rattle.std.proofs.Common.{◌∙◌, sym, subst}
use Rattle.std.proofs.lemmas.Result.{on_ok_weaker}
use Rattle.bq_trace.specs.TraceEvents.{Gets}
use Rattle.bq_trace.specs.Reporting.{ReportsShortLine}
use Rattle.bq_trace.proofs.StandingLemmas.{ends_with}
use Rattle.bq_trace.proofs.trace_position.TracePosition.run_last_line.Goals as goal

pub returns : goal.returns
returns g c =
    let takes = g.S.Sink.takes in
    let p = c.args.self.now.progress in
    let q = c.answer.new.self in
    let old = c.args.sink.now in
    let new = c.answer.new.sink in
    on_ok_weaker c.answer.result (λ reported begun h.
    ends_with takes p q begun old new h.one_line (sym (c.is_empty.ensures.line begun h) ∙ c.if-is_empty.false)
    (subst (λ l. Gets takes old new (λ traced. ReportsShortLine p l traced q)) (c.last.ensures begun h) reported))
    c.answer.ensures
