use Rattle.std.proofs.Common.{sym, ◌∙◌, arith}
use Rattle.bq_workload.proofs.MaskLemmas.{none-allowed, none-more}
use Rattle.bq_workload.proofs.sound.first_of_mask.Goals as goal

pub processors-init : goal.processors-init
processors-init c = λ lower low. absurd (omega (arith, low))

pub processors-preserved : goal.processors-preserved
processors-preserved c = none-more c.args.mask c.processors.processor c.processors.invariant (sym c.allows.ensures ∙ c.if-allows.false)

pub returns-then-allows-clause-some : goal.returns-then-allows-clause-some
returns-then-allows-clause-some c =
    record { within = c.processors-test.true; allowed = sym c.allows.ensures ∙ c.if-allows.true; least = c.processors.invariant }

pub returns-clause-none : goal.returns-clause-none
returns-clause-none c =
    none-allowed c.args.mask c.args.processors
    (λ lower low. c.processors.invariant lower (omega (arith, low, c.processors-test.false)))
