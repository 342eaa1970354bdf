-- What is remembered of a policy that stands is an answer of that policy.
use Rattle.std.proofs.Common.{◌≡◌, ℕ, Option, Some, None, refl, subst}
use Rattle.bq_verify.specs.Accepted.{Accepted}
use Rattle.bq_bpf.specs.declared.runs.RunResult.{RunResult}
use Rattle.bq_installed.specs.Standing.{HasAnswered, WasAnswered}

-- what is remembered of a policy that stands is an answer which it gave, in this many steps
pub answered_by : (p : Option Accepted) (d : RunResult) (steps : ℕ)
    → d.steps ≡ steps → WasAnswered p (Some d)
    → (policy : Accepted) × (p ≡ Some policy) × HasAnswered policy (record { r0 = d.r0; steps = steps })
answered_by None d steps e h = absurd h
answered_by (Some policy) d steps e h =
    let P : ℕ → Type 0 = λ n. HasAnswered policy (record { r0 = d.r0; steps = n }) in
    (policy, refl, subst P e h)
