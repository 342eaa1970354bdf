use Rattle.std.proofs.Common.{◌≤◌, ℕ, ap, sym, subst}
use Rattle.bq_workload.specs.declared.periods.Periods.{Periods}
use Rattle.bq_workload.proofs.OpeningAgreesLemmas.{opening-agreed}
use Rattle.bq_words.proofs.SizeLemmas.{processors_in-few}
use Rattle.bq_simulate.proofs.simulation.Simulation.new.Goals as goal

pub returns-clause-agrees : goal.returns-clause-agrees
returns-clause-agrees c =
    let machine = c.args.machine.now in
    let made = c.in_ok-new.ensures in
    let low : c.processors.result ≤ 64 = subst (λ (n : ℕ). n ≤ 64) (sym c.processors.ensures) (processors_in-few machine.size) in
    opening-agreed c.processors.result machine.balance machine.duration c.in_ok-new.field-0 low made.accounts
    (ap (λ (p : Periods). p.end) made.periods) made.looks
