use Rattle.std.proofs.Common.{rules, ◌≡◌, List, subst}
use Rattle.bq_comparison.specs.Report.{figures_of_report}
use Rattle.bq_comparison.specs.Sides.{IsOtherSide, size_of_machine}
use Rattle.bq_comparison.specs.declared.figure.Figure.{Figure}
use Rattle.bq_comparison.specs.declared.runs.RunFigures.{RunFigures}
use Rattle.bq_comparison.proofs.sides.compare.Goals as goal

pub returns-clause-sides : goal.returns-clause-sides
returns-clause-sides g c =
    let w = c.args.workload.now in
    let plan = c.args.plan.now in
    let side = c.in_ok-theirs.theirs in
    let policies = c.loaded-2.result.now in
    let figures = c.as_slice.result.now in
    let all : figures ≡ figures_of_report (size_of_machine w) = search rules in
    let runs : c.as_slice-runs.result.now ≡ c.in_ok-runs.field-0.runs.items = c.as_slice-runs.ensures.value in
    let ByRuns : List RunFigures → Type 0 = λ r. IsOtherSide policies w plan.event_limit plan.seeds figures r side in
    let ByFigures : List Figure → Type 0 = λ f. IsOtherSide policies w plan.event_limit plan.seeds f c.in_ok-runs.field-0.runs.items side in
    let theirs = subst ByFigures all (subst ByRuns runs c.in_ok-theirs.ensures.side) in
    record { runs = c.in_ok-runs.field-0.runs.items; ours = search rules; theirs = rw (c.in-Some.is, ← c.loaded-2.ensures.value) theirs }
