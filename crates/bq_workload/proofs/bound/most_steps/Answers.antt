use Rattle.std.proofs.Common.{◌≡◌, ◌<◌, ◌+◌, ◌*◌, ◌^◌, ◌-◌, ℕ, List, get_or, length, min, take, take_all, sym, ap, ◌∙◌, arith}
use Rattle.std.proofs.lemmas.List.Sums.{sum_by_more}
use Rattle.bq_workload.specs.declared.action.Action.{Action}
use Rattle.bq_workload.specs.declared.workload.TaskKind.{TaskKind}
use Rattle.bq_words.specs.Sizes.{processors_in}
use Rattle.bq_workload.specs.Bounds.{steps_at_once, steps_of, steps_of_tasks}
use Rattle.bq_workload.specs.Kinds.{tasks_in}
use Rattle.bq_workload.proofs.BoundLemmas.{all_steps, at_one_instant, more_units}
use Rattle.bq_workload.proofs.bound.most_steps.Goals as goal

pub kinds-preserved : goal.kinds-preserved
kinds-preserved c =
    let kinds = c.args.workload.now.tasks.items in
    let i = c.kinds.kind-index in
    let kind = c.kind-item.result in
    let same = c.deref-kind-items.ensures.value in
    let m = 2 ^ 64 - 1 in
    let here : kind ≡ get_or kinds i kind = c.kind-item.is ∙ ap (λ (l : List TaskKind). get_or l i kind) same in
    let low : i < length kinds = omega (arith, c.kinds-test.true, ap (λ (l : List TaskKind). length l) same) in
    let steps : TaskKind → ℕ = λ k. k.count * steps_of kinds k.actions.items in
    let count : TaskKind → ℕ = λ k. k.count in
    let inner = c.units_of.ensures ∙ ap (λ (l : List Action). min (steps_of kinds l) m) c.deref.ensures.value in
    let product = c.saturating_mul.ensures ∙ ap (λ n. min (n * c.units_of.result) m) c.from-count.ensures in
    let units = more_units m _ kind.count _ _ _ _ _ c.kinds.invariant.units inner product c.saturating_add-units.ensures in
    record {
      units =
          units ∙ ap (λ n. min n m)
          (ap (λ (k : TaskKind). steps_of_tasks kinds (take i kinds) + steps k) here ∙ sym (sum_by_more steps kinds i kind low));
      tasks = omega (
        arith,
        c.saturating_add-tasks.ensures,
        c.kinds.invariant.tasks,
        c.from-count.ensures,
        ap count here,
        sum_by_more count kinds i kind low,
      );
    }

pub returns : goal.returns
returns c =
    let w = c.args.workload.now in
    let kinds = w.tasks.items in
    let m = 2 ^ 64 - 1 in
    let whole : take c.kinds.kind-index kinds ≡ kinds =
    take_all _ kinds (omega (arith, c.kinds-test.false, ap (λ (l : List TaskKind). length l) c.deref-kind-items.ensures.value)) in
    let units = c.kinds.invariant.units ∙ ap (λ (l : List TaskKind). min (steps_of_tasks kinds l) m) whole in
    let tasks = c.kinds.invariant.tasks ∙ ap (λ (l : List TaskKind). min (tasks_in l) m) whole in
    let at_once =
    at_one_instant m (steps_of_tasks kinds kinds) (tasks_in kinds) (processors_in w.machine.size) _ _ _ _ _ _ _ units tasks
    (c.from-processors.ensures ∙ c.processors.ensures) c.saturating_mul-2.ensures c.saturating_add.ensures
    c.saturating_mul-3.ensures c.saturating_add-at_once.ensures in
    all_steps m (w.machine.duration + 1) (steps_at_once w) _ _ _ c.saturating_add-2.ensures at_once c.saturating_mul-4.ensures
