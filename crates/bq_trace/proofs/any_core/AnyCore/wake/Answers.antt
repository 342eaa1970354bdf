use Rattle.std.proofs.Common.{◌∙◌}
use Rattle.bq_trace.proofs.WakeLemmas.{wakes_both}
use Rattle.bq_trace.proofs.any_core.AnyCore.wake.Goals as goal

pub returns-in_ok-perform : goal.returns-in_ok-perform
returns-in_ok-perform g c =
    let first = c.in_ok-begun.ensures in
    let second = c.in_ok-perform.ensures in
    wakes_both g.S.Sink.takes c.args.self.now c.perform.new.self c.perform-then-begun.new.self c.args.number
    c.args.processor c.args.task c.args.now first.0 second.0 _ _ _ (first.1 ∙ c.if-begun.true) first.2 second.2
