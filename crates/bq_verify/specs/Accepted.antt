-- What callers see of an accepted program.
use Rattle.std.specs.Prelude.{ℕ, ◌≤◌, List, Option, length}
use Rattle.bq_bpf.specs.Safe.{Safe}
use Rattle.bq_insn.specs.declared.Insn.{Insn}
use Rattle.bq_bpf.specs.declared.shape.MapShape.{MapShape}
use Rattle.bq_verify.specs.Refusals.{StopsNowhere}
use Rattle.bq_hooks.specs.declared.hook.Hook.{Hook}
use Rattle.bq_hooks.specs.declared.hook.Version.{Version}
use Rattle.bq_bpf.specs.declared.shape.TheConstants.{MAPS}

-- a program that the verifier accepted, with the hook, version and map shapes for which it was accepted, and its budget
pub record Accepted : Type 0 where
  pub slots : List (Option Insn)
  pub shapes : List MapShape
  pub hook : Hook
  pub version : Version
  pub budget : ℕ

-- what is known of each accepted program: it is within the limits of images, the verifier's pass stops nowhere in it, and it is
-- safe within its budget
pub record IsAccepted (slots : List (Option Insn)) (shapes : List MapShape) (context_length budget : ℕ) : Type 0 where
  pub short : length slots ≤ 4096
  pub few : length shapes ≤ MAPS
  pub passed : StopsNowhere (record { slots = slots; shapes = shapes; context = context_length })
  pub safe : Safe slots shapes context_length budget
