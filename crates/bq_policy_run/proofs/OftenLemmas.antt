-- Runs one after another, of which one is refused.
use Rattle.std.proofs.Common.{◌≡◌, ℕ, zero, suc, ◌<◌, Option, Some, None, IfNone, refl, ◌∙◌, ap, arith}
use Rattle.std.specs.declared.alloc.Global.{Global}
use Rattle.std.specs.declared.vec.Vec.{Vec}
use Rattle.std.specs.Prelude.{length}
use Rattle.bq_verify.specs.Accepted.{Accepted}
use Rattle.bq_policy_run.specs.declared.inputs.Inputs.{Inputs}
use Rattle.bq_policy_run.specs.Runs.{FitsProgram}

-- what holds in any case holds where nothing is there
pub when_none : {A : Type 0} {P : Type 0} (o : Option A) → P → IfNone o P
when_none None holds = holds
when_none (Some x) holds = tt

-- inputs of the same context and shapes fit the program too
fits_still : (program : Accepted) (first between : Inputs) → between.context ≡ first.context
    → between.maps.shapes ≡ first.maps.shapes → FitsProgram program first
    → FitsProgram program between
fits_still program first between context shapes fits = record {
  context = ap (λ (bytes : Vec ℕ Global). length bytes.items) context ∙ fits.context;
  shapes = shapes ∙ fits.shapes;
}

-- a run that is refused is the first, since inputs that one run fits fit all: so all is as it was
pub left_after : (program : Accepted) (first between last : Inputs) (done : ℕ)
    → (done ≡ 0 → between ≡ first) → (0 < done → FitsProgram program first) → between.context ≡ first.context
    → between.maps.shapes ≡ first.maps.shapes → ¬ FitsProgram program between → last ≡ between
    → last ≡ first
left_after program first between last zero begun fitted context shapes refused left = left ∙ begun refl
left_after program first between last (suc n) begun fitted context shapes refused left =
    absurd (refused (fits_still program first between context shapes (fitted (omega arith))))
