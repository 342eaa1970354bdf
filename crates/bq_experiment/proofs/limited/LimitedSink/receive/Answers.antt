-- Unless the limit is passed, what comes is passed on.
use Rattle.std.proofs.Common.{subst}
use Rattle.std.specs.Prelude.{OnOk}
use Rattle.bq_trace.specs.Borrowed.{event_of}
use Rattle.bq_experiment.proofs.LimitLemmas.{OnOk-passes, passes_nothing}
use Rattle.bq_experiment.proofs.limited.LimitedSink.receive.Goals as goal

pub returns-then-self : goal.returns-then-self
returns-then-self g c = passes_nothing g.S.Sink.takes _ _ _ _ (c.count.ensures.over c.if-self.true) c.count.ensures.sink c.if-self.true

pub returns : goal.returns
returns g c =
    let takes = g.S.Sink.takes in
    let traced = event_of c.args.event.now in
    let counted = c.count.new.self in
    let within = c.count.ensures.within c.if-self.false in
    let taken = subst (λ s. OnOk c.receive.result (takes s c.args.number traced c.receive.new.self)) c.count.ensures.sink c.receive.ensures in
    OnOk-passes takes c.args.self.now (record { sink = c.receive.new.self; left = counted.left; is_over = counted.is_over })
    c.args.number traced c.receive.result within.1 c.if-self.false within.0 taken
