use Rattle.std.proofs.Common.{◌≢◌, sym, subst, refl, rules, Err}
use Rattle.bq_parts.specs.declared.refusal.Refusal.TheVariants as no
use Rattle.bq_trace.specs.TraceEvents.{Comes, Answered}
use Rattle.bq_trace.specs.Reporting.{Happens}
use Rattle.bq_trace.proofs.TakingLemmas.{gets_two}
use Rattle.bq_trace.proofs.any_core.AnyCore.perform.Goals as goal

pub returns : goal.returns
returns g c =
    let takes = g.S.Sink.takes in
    let n = c.args.number in
    let answer = c.step-answer.result in
    let apart : answer ≢ Err no.OutOfMemory = search rules in
    let comes =
    subst (λ e. takes c.args.sink.now n (Comes e c.args.self.now) c.receive.new.self) c.without_policy-reported.ensures
    c.in_ok-receive.ensures in
    let answered =
    subst (λ e. takes c.receive.new.self n (Answered e answer c.step-answer.new.self) c.receive-2.new.self)
    c.without_policy-reported.ensures c.in_ok-receive-2.ensures in (
      answer,
      sym c.is_ok.ensures.value,
      gets_two takes c.args.sink.now c.receive.new.self c.receive-2.new.self n _ _
          (λ reported. Happens c.args.self.now n c.args.event answer reported c.step-answer.new.self) comes answered
          (record { answered = apart; moves = c.step-answer.ensures; reports = refl }),
    )
