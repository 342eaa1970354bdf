-- Images that always load, unless memory runs out.
use Rattle.std.specs.Prelude.{◌≡◌, ℕ, List, true}
use Rattle.bq_insn.specs.declared.Insn.{Insn}
use Rattle.bq_insn.specs.Spelling.{spelling, is_well_formed}
use Rattle.bq_insn.specs.Laws.{AllFit}
use Rattle.bq_bpf.specs.declared.shape.MapShape.{MapShape}
use Rattle.bq_verify.specs.Straight.{IsStraightProgram}
use Rattle.bq_verify.specs.Subjects.{subject_of_insns}
use Rattle.bq_hooks.specs.declared.hook.Hook.{Hook}
use Rattle.bq_hooks.specs.declared.hook.Version.{Version}
use Rattle.bq_load.specs.Layout.{IsImage}

-- the bytes are an image of a straight program, in which each instruction finds on every path what it needs
pub record HasStraightProgram (bytes : List ℕ) : Type 0 where
  pub version : Version
  pub hook : Hook
  pub shapes : List MapShape
  pub insns : List Insn
  pub image : IsImage bytes version hook shapes (spelling insns)
  pub well_formed : is_well_formed insns ≡ true
  pub numbers : AllFit insns
  pub straight : IsStraightProgram (subject_of_insns insns hook version shapes)
