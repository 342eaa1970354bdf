use Rattle.std.proofs.Common.{◌≡◌, ◌+◌, ◌<◌, length, get_or, replicate, refl, arith, rules}
use Rattle.std.proofs.lemmas.List.{get_or-replicate, get_or_default}
use Rattle.bq_schedule.specs.declared.slice.Slice.{Slice}
use Rattle.bq_report.specs.Longest.{time_between}
use Rattle.bq_report.proofs.LongestLemmas.{other_time, time_counted, bound_kept}
use Rattle.bq_report.proofs.longest.times_in.Goals as goal
use Rattle.bq_report.proofs.longest.times_in.Goals.{then-task-len, else-task-len}

pub loop-run-init : goal.loop-run-init
loop-run-init c =
    let e : c.in_ok-times.times.items ≡ replicate 1024 0 = c.in_ok-times.ensures.items_if_clones_equal (λ y h. search rules) in
    record {
      places = c.in_ok-times.ensures.len;
      times = λ task h. rw (e, get_or-replicate) refl;
      bound = λ task h. rw (e, get_or-replicate) (omega arith);
    }

pub loop-run-preserved : goal.loop-run-preserved
loop-run-preserved c =
    let none : Slice = record { processor = 0; task = 0; from = 0; to = 0 } in
    let time : c.time_between-time.result ≡ time_between c.args.from c.args.to (get_or c.args.runs.now c.loop-run.run-index none) =
    omega arith in
    elim c.if-task-len.branch [
      | then-task-len w ↦
          let there : c.from-task.result < length c.loop-run.times.items = omega (arith, c.loop-run.invariant.places) in
          let small : c.from-task.result < 1024 = omega (arith, c.loop-run.invariant.places) in
          let before = get_or_default c.loop-run.times.items c.from-task.result w.index-before.result.now 0 there in
          let value : w.index-before.result.now + w.from.result
          ≡ get_or c.loop-run.times.items c.from-task.result 0 + c.time_between-time.result = omega (arith, before) in
          let counted : w.index-before.result.now + w.from.result
          ≡ get_or c.loop-run.times.items c.from-task.result 0
          + time_between c.args.from c.args.to (get_or c.args.runs.now c.loop-run.run-index none) = omega (arith, value, time) in
          rw w.times-is (record {
            places = c.loop-run.invariant.places;
            times = λ task h.
                time_counted c.args.from c.args.to c.args.runs.now c.loop-run.run-index none c.loop-run.times.items
                c.from-task.result (w.index-before.result.now + w.from.result) task c.loop-run-test.true there
                c.from-task.ensures counted (c.loop-run.invariant.times task h);
            bound = λ task h. bound_kept c.loop-run.times.items c.from-task.result (w.index-before.result.now + w.from.result)
                c.time_between-time.result c.loop-run.run-index task there value (omega arith)
                (c.loop-run.invariant.bound c.from-task.result small) (c.loop-run.invariant.bound task h);
          })
      | else-task-len w ↦ rw w.times-is (record {
        places = c.loop-run.invariant.places;
        times = λ task h. omega (
          arith,
          c.loop-run.invariant.times task h,
          other_time c.args.from c.args.to c.args.runs.now c.loop-run.run-index none task c.loop-run-test.true
              (omega (arith, h, c.loop-run.invariant.places)),
        );
        bound = λ task h. omega (arith, c.loop-run.invariant.bound task h);
      })
    ]

pub overflow_add-before : goal.overflow_add-before
overflow_add-before c =
    let there : c.from-task.result < length c.loop-run.times.items = omega (arith, c.loop-run.invariant.places) in
    let small : c.from-task.result < 1024 = omega (arith, c.loop-run.invariant.places) in
    let before = get_or_default c.loop-run.times.items c.from-task.result c.index-before.result.now 0 there in
    omega (arith, before, c.loop-run.invariant.bound c.from-task.result small)
