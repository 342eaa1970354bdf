use Rattle.std.proofs.Common.{◌≡◌, ◌+◌, ◌-◌, ◌<◌, ℕ, arith, length, subst}
use Rattle.std.specs.Prelude.{slice_set}
use Rattle.bq_verify.specs.Passes.{Measured}
use Rattle.bq_verify.proofs.HeightLemmas.{measured_set}
use Rattle.bq_verify.proofs.graph_numbers.measure.Goals as goal

pub loop-done-preserved : goal.loop-done-preserved
loop-done-preserved c =
    let slots = c.args.slots.now in
    let slot : ℕ = length slots - 1 - c.loop-done.done in
    let next : length slots - c.loop-done.done ≡ slot + 1 = omega arith in
    let here : slot ≡ length slots - (c.loop-done.done + 1) = omega arith in
    let inside : slot < length c.loop-done.heights = omega arith in
    subst (λ (n : ℕ). Measured slots n (slice_set c.loop-done.heights slot c.height.result)) here
    (measured_set slots slot c.height.result c.loop-done.heights inside
    (subst (λ (n : ℕ). Measured slots n c.loop-done.heights) next c.loop-done.invariant) c.height.ensures)
