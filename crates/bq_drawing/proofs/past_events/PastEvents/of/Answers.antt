use Rattle.std.proofs.Common.{◌≡◌, ◌∙◌, ℕ, ap, arith, List, Option, None, replicate}
use Rattle.bq_schedule.specs.declared.slice.Slice.{Slice}
use Rattle.bq_drawing.specs.declared.past_events.Arrows.{Arrows}
use Rattle.bq_drawing.specs.PastEvents.{Past, no_arrows}
use Rattle.bq_drawing.proofs.past_events.PastEvents.of.Goals as goal

same_past : (es fs : List Arrows) (cs ds : List ℕ) (ws vs : List (Option ℕ)) (rs qs : List (Option Slice))
    → es ≡ fs → cs ≡ ds → ws ≡ vs → rs ≡ qs
    → ◌≡◌ {A = Past} (record { ends = es; counts = cs; woken = ws; runs = rs; arrows = 0 })
    (record { ends = fs; counts = ds; woken = vs; runs = qs; arrows = 0 })
same_past es fs cs ds ws vs rs qs e c w r = cc

pub returns : goal.returns
returns c =
    let count : c.processors.counter ≡ c.args.processors = omega arith in
    let all : c.tasks.counter ≡ 1024 = omega arith in
    same_past _ _ _ _ _ _ _ _ (c.processors.invariant.ends ∙ ap (λ n. replicate n no_arrows) count)
    (c.processors.invariant.counts ∙ ap (λ n. replicate n 0) count)
    (c.tasks.invariant.woken ∙ ap (λ n. replicate n None) all) (c.tasks.invariant.runs ∙ ap (λ n. replicate n None) all)
