-- What readers and loaders answer for bytes: an image, a program that is accepted, or a fault.
use Rattle.std.specs.Prelude.{◌≡◌, ℕ, List, ◌++◌, true}
use Rattle.bq_verify.specs.Faults.{IsFaultless}
use Rattle.bq_verify.specs.Paths.{IsGreatest, PathOut}
use Rattle.bq_insn.specs.declared.Insn.{Insn}
use Rattle.bq_insn.specs.Spelling.{spelling, is_well_formed}
use Rattle.bq_insn.specs.Slots.{spread}
use Rattle.bq_insn.specs.Laws.{AllFit}
use Rattle.bq_bpf.specs.declared.shape.MapShape.{MapShape}
use Rattle.bq_verify.specs.Accepted.{Accepted, IsAccepted}
use Rattle.bq_hooks.specs.Hooks.{context_length_of}
use Rattle.bq_verify.specs.Refusals.{IsVerdictOn}
use Rattle.bq_verify.specs.Subjects.{subject_of_insns}
use Rattle.bq_hooks.specs.declared.hook.Hook.{Hook}
use Rattle.bq_hooks.specs.declared.hook.Version.{Version}
use Rattle.bq_verify.specs.declared.refused.Refused.{Refused}
use Rattle.bq_verify.specs.declared.refused.Refused.TheVariants as refused
use Rattle.bq_load.specs.declared.fault.LoadFault.{LoadFault}
use Rattle.bq_load.specs.declared.fault.LoadFault.TheVariants as fault
use Rattle.bq_load.specs.declared.image.Image.{Image}
use Rattle.bq_load.specs.Layout.{IsImage}
use Rattle.bq_load.specs.Faults.{IsLoadFault, HasFaultyProgram}
use Rattle.bq_load.specs.Straight.{HasStraightProgram}

-- the bytes are this image
abbrev pub SpellsImage : List ℕ → Image → Type 0
SpellsImage bytes image = IsImage bytes image.form.version image.form.hook image.form.shapes.items image.program.items

-- the bytes are some image
pub record HasImage (bytes : List ℕ) : Type 0 where
  pub version : Version
  pub hook : Hook
  pub shapes : List MapShape
  pub program : List ℕ
  pub image : IsImage bytes version hook shapes program

-- why no image is read from the bytes: they have this fault, or they are an image and memory ran out
abbrev pub IsUnread : List ℕ → LoadFault → Type 0
IsUnread bytes fault.OutOfMemory = HasImage bytes
IsUnread bytes named = IsLoadFault bytes named

-- the bytes are an image of these instructions
pub record HasProgram (bytes : List ℕ) (insns : List Insn) : Type 0 where
  pub version : Version
  pub hook : Hook
  pub shapes : List MapShape
  pub image : IsImage bytes version hook shapes (spelling insns)
  pub well_formed : is_well_formed insns ≡ true
  pub numbers : AllFit insns

-- the bytes are an image of this program, which is accepted: its control graph has no fault, and its budget is the longest path
pub record Loads (bytes : List ℕ) (v : Accepted) : Type 0 where
  pub insns : List Insn
  pub image : IsImage bytes v.version v.hook v.shapes (spelling insns)
  pub well_formed : is_well_formed insns ≡ true
  pub numbers : AllFit insns
  pub slots : v.slots ≡ spread insns
  pub faultless : IsFaultless v.slots
  pub accepted : IsAccepted v.slots v.shapes (context_length_of v.hook v.version) v.budget
  pub longest : IsGreatest (PathOut v.slots 0) v.budget

-- the bytes are an image of a program, and this is the verifier's verdict on that very program
pub record HasRefusedProgram (bytes : List ℕ) (answer : Refused) : Type 0 where
  pub insns : List Insn
  pub program : HasProgram bytes insns
  pub refused : IsVerdictOn (subject_of_insns insns program.hook program.version program.shapes) answer

-- why no program is loaded from the bytes: they or their program have this fault; or the verifier refuses the program,
-- which it never does to a straight program; or they are an image and memory ran out
abbrev pub IsUnloaded : List ℕ → LoadFault → Type 0
IsUnloaded bytes fault.OutOfMemory = HasImage bytes
IsUnloaded bytes (fault.Decode slot cause) = HasFaultyProgram bytes slot cause
IsUnloaded bytes (fault.Refused slot cause) = HasRefusedProgram bytes (refused.At slot cause) × (HasStraightProgram bytes → ⊥)
IsUnloaded bytes named = IsLoadFault bytes named

-- the new bytes are the old bytes, followed by bytes that spell this image
abbrev pub AppendsImage : List ℕ → List ℕ → Image → Type 0
AppendsImage old new image = (bytes : List ℕ) × SpellsImage bytes image × (new ≡ old ++ bytes)
