use Rattle.std.proofs.Common.{rules, ◌≡◌, ◌++◌, ◌+◌, ◌∙◌, ap, sym, append_assoc, arith}
use Rattle.std.proofs.lemmas.Grind.{common_steps}
use Rattle.std.specs.List.{flat_map, range_with_len}
use Rattle.bq_comparison.specs.Report.{figures_of_processor, figures_of_task}
use Rattle.bq_comparison.proofs.RangeLemmas.{flat_map-range_more}
use Rattle.bq_comparison.proofs.report_figures.all_figures.Goals as goal

pub tasks-preserved : goal.tasks-preserved
tasks-preserved c = grind (arith, common_steps, flat_map-range_more figures_of_task 0 c.tasks.task)

pub processors-preserved : goal.processors-preserved
processors-preserved c =
    let tasks = flat_map figures_of_task (range_with_len 0 c.args.size.tasks) in
    let processor = c.processors.processor in
    let before = flat_map figures_of_processor (range_with_len 0 processor) in
    let own = figures_of_processor processor in
    let grown : c.extend_from_slice-in-processors.new.self.items ≡ c.processors.figures.items ++ own = search rules in
    let place : 0 + processor ≡ processor = omega arith in
    grown ∙ ap (λ l. l ++ own) c.processors.invariant ∙ append_assoc tasks before own
    ∙ ap (λ l. tasks ++ l) (sym (flat_map-range_more figures_of_processor 0 processor ∙ ap (λ n. before ++ figures_of_processor n) place))
