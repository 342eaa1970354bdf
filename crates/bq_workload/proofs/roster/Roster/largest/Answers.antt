use Rattle.std.proofs.Common.{◌≡◌, ◌+◌, ℕ, Option, arith, subst, sym}
use Rattle.bq_workload.specs.Dues.{HasLargest}
use Rattle.bq_workload.proofs.LargestLemmas.{largest_of_more}
use Rattle.bq_workload.proofs.roster.Roster.largest.Goals as goal

pub processors-preserved : goal.processors-preserved
processors-preserved c =
    let by_processor = c.args.self.now.by_processor.items in
    let count = c.processors.processor in
    subst (λ (o : Option ℕ). HasLargest by_processor (count + 1) o) (sym c.larger-best.ensures)
    (largest_of_more by_processor count c.processors.best c.processors.invariant)

pub returns : goal.returns
returns c =
    let all : c.processors.processor ≡ 64 = omega (arith, c.processors-test.false, c.processors.auto.processor-end) in
    subst (λ (count : ℕ). HasLargest c.args.self.now.by_processor.items count c.processors.best) all c.processors.invariant
