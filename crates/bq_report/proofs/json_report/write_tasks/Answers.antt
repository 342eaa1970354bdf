use Rattle.std.proofs.Common.{◌≡◌, ◌∙◌, ap, arith, refl, string_bytes}
use Rattle.bq_schedule.specs.WakeLatencies.{latencies_of}
use Rattle.bq_report.specs.Reports.{IsTaskObject}
use Rattle.bq_report.proofs.ReportLemmas.{are_percentiles, elements_all, elements_at, elements_more, elements_none, elements_same, others_kept, part_missing, task_there, test_fails}
use Rattle.bq_report.proofs.json_report.write_tasks.Goals as goal
use Rattle.bq_report.proofs.json_report.write_tasks.Goals.{then-has_task+in_ok-write_task, else-has_task}

pub loop-task-init : goal.loop-task-init
loop-task-init c = record { within = omega arith; elements = elements_none _ _; rest = λ other h. refl }

pub loop-task-preserved : goal.loop-task-preserved
loop-task-preserved c =
    elim c.if-has_task.branch [
      | then-has_task+in_ok-write_task w ↦ record {
        within = omega arith;
        elements =
            elements_at _ _ _ _ _ _ _ w.is_first-is (ap string_bytes w.text-is)
            (elements_more
            (λ i. IsTaskObject c.args.window.now c.args.names.now c.args.schedule.now (latencies_of c.args.latencies.now i) i)
            c.loop-task.task _ _ _ _ _ c.loop-task.invariant.elements
            (task_there _ _ _ _ _ _ (c.has_task.ensures.0 w.if-has_task.true)
            (are_percentiles _ _ _ _ (c.loop-task.invariant.rest c.loop-task.task (omega arith)) w.percentiles-percentiles.ensures.values
            w.percentiles-percentiles.ensures.sorted w.percentiles-percentiles.ensures.kept)) w.in_ok-write_task.ensures);
        rest = others_kept _ _ _ _ c.loop-task.invariant.rest
            (λ other apart. ap (λ l. latencies_of l other) w.latencies-is ∙ w.percentiles-percentiles.ensures.others other apart);
      }
      | else-has_task w ↦ record {
        within = omega arith;
        elements =
            elements_at _ _ _ _ _ _ _ w.is_first-is (ap string_bytes w.text-is)
            (elements_same
            (λ i. IsTaskObject c.args.window.now c.args.names.now c.args.schedule.now (latencies_of c.args.latencies.now i) i)
            c.loop-task.task _ _ _ c.loop-task.invariant.elements
            (part_missing _ _ (test_fails _ _ c.has_task.ensures w.if-has_task.false)));
        rest = λ other h. ap (λ l. latencies_of l other) w.latencies-is ∙ c.loop-task.invariant.rest other (omega arith);
      }
    ]

pub returns : goal.returns
returns c =
    let end : c.loop-task.task ≡ 1024 = omega (arith, c.loop-task.invariant.within, c.loop-task-test.false) in
    elements_all _ _ _ _ _ _ end c.loop-task.invariant.elements
