-- What is taken of a file: a policy and its image.
use Rattle.std.specs.Prelude.{◌≡◌, ◌≢◌, ℕ, List, Option, Some, None, IsSome}
use Rattle.bq_hooks.specs.declared.hook.Hook.{Hook}
use Rattle.bq_insn.specs.Spelling.{spelling}
use Rattle.bq_load.specs.Answers.{IsUnloaded}
use Rattle.bq_load.specs.Layout.{IsImage}
use Rattle.bq_load.specs.declared.fault.LoadFault.{LoadFault}
use Rattle.bq_load.specs.declared.fault.LoadFault.TheVariants as load
use Rattle.bq_policy_file.specs.Files.{IsPolicy, IsPolicyFault}
use Rattle.bq_policy_file.specs.declared.fault.PolicyFault.{PolicyFault as FileFault}
use Rattle.bq_policy_file.specs.declared.fault.PolicyFault.TheVariants.{Disagrees}
use Rattle.bq_policy_file.specs.declared.fault.PolicyFault.TheVariants as file
use Rattle.bq_policy_file.specs.declared.head.Head.{Head}
use Rattle.bq_policy_file.specs.declared.mark.Key.{Key}
use Rattle.bq_policy_file.specs.declared.policy_source.PolicySource.{PolicySource}
use Rattle.bq_simulate.specs.Replays.{IsLoadedFromImage}
use Rattle.bq_experiment.specs.PoliciesAndImages.{AddsPolicy, PoliciesAndImages, image_for}
use Rattle.bq_experiment.specs.declared.policies.AttachFault.{AttachFault}
use Rattle.bq_experiment.specs.declared.policies.AttachFault.TheVariants as attach
use Rattle.bq_simulate.specs.Simulations.{Accepted}

-- a hook is asked for, or none, and nothing beside it
pub record AsksForHook (hook : Option Hook) (asked : Head) : Type 0 where
  pub hook_is : asked.hook ≡ hook
  pub maps : asked.maps ≡ None
  pub format : asked.format ≡ None

-- a file is read as this policy, for the hook that is asked for, if any
abbrev pub IsRead : Option Hook → List ℕ → PolicySource → Type 0
IsRead hook file policy = (asked : Head) × AsksForHook hook asked × IsPolicy file asked policy

-- A policy that was read so is taken at this hook, at which no image was: its image is added, and what is loaded of it.
pub record Attaches (Reads : PolicySource → Type 0) (hook : Hook) (old new : PoliciesAndImages) : Type 0 where
  pub read : PolicySource
  pub reads : Reads read
  pub hook_is : read.form.hook ≡ hook
  pub free : image_for old.images hook ≡ None
  pub image : List ℕ
  pub spells : IsImage image read.form.version hook read.form.shapes.items (spelling read.insns.items)
  pub policy : Accepted
  pub of : IsLoadedFromImage (Some image) policy
  pub adds : AddsPolicy hook image policy old new

-- a policy that was read so is for a hook at which an image was
abbrev pub IsSecondForHook : (PolicySource → Type 0) → PoliciesAndImages → Type 0
IsSecondForHook Reads s = (read : PolicySource) × Reads read × IsSome (image_for s.images read.form.hook)

-- a file is refused for this fault, for the hook that is asked for, if any
abbrev pub IsFileRefusal : Option Hook → List ℕ → FileFault → Type 0
IsFileRefusal hook file named = (asked : Head) × AsksForHook hook asked × IsPolicyFault file asked named

-- the image of a policy that was read so is not loaded, for this fault
pub record IsPolicyUnaccepted (Reads : PolicySource → Type 0) (named : LoadFault) : Type 0 where
  pub read : PolicySource
  pub reads : Reads read
  pub image : List ℕ
  pub spells : IsImage image read.form.version read.form.hook read.form.shapes.items (spelling read.insns.items)
  pub unloaded : IsUnloaded image named
  pub other : named ≢ load.OutOfMemory

-- Why a file is not taken: its hook has an image already, it disagrees with what was asked for, its words are no policy, or its
-- program is not accepted. If memory runs out, the file may be anything.
abbrev pub IsAttachFault : (PolicySource → Type 0) → (FileFault → Type 0) → PoliciesAndImages → AttachFault → Type 0
IsAttachFault Reads Refuses s attach.Twice = IsSecondForHook Reads s
IsAttachFault Reads Refuses s attach.Hook = (key : Key) × Refuses (Disagrees key)
IsAttachFault Reads Refuses s (attach.File words) = (named : FileFault) × Refuses named × (named ≢ file.OutOfMemory)
IsAttachFault Reads Refuses s (attach.Program named) = IsPolicyUnaccepted Reads named
IsAttachFault Reads Refuses s attach.OutOfMemory = Unit {0}

-- what is reported of a refused file
abbrev pub IsFaultOfFile : FileFault → AttachFault → Type 0
IsFaultOfFile (Disagrees key) stated = stated ≡ attach.Hook
IsFaultOfFile named (attach.File words) = named ≢ file.OutOfMemory
IsFaultOfFile named attach.OutOfMemory = Unit {0}
IsFaultOfFile named stated = ⊥

-- what is reported of an image that is not loaded
abbrev pub IsFaultOfImage : List ℕ → AttachFault → Type 0
IsFaultOfImage image (attach.Program named) = IsUnloaded image named × (named ≢ load.OutOfMemory)
IsFaultOfImage image attach.OutOfMemory = Unit {0}
IsFaultOfImage image stated = ⊥
