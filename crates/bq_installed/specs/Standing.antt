-- What may be installed at a hook: nothing, or a policy that was accepted for it, with maps of its shapes.
use Rattle.std.specs.Prelude.{◌≡◌, ℕ, ◌^◌, ◌<◌, List, length, slice_index, Option, Some, None}
use Rattle.bq_bpf.specs.Memory.{HaveShapes}
use Rattle.bq_hooks.specs.declared.hook.Hook.{Hook}
use Rattle.bq_verify.specs.Accepted.{Accepted, IsAccepted}
use Rattle.bq_hooks.specs.Hooks.{context_length_of}
use Rattle.bq_bpf.specs.declared.board.CounterCall.{CounterCall}
use Rattle.bq_bpf.specs.declared.runs.RunResult.{RunResult}
use Rattle.bq_installed.specs.Answers.{Answers, RunsWithin}
use Rattle.bq_installed.specs.Installed.{InstalledFacts, HooksFacts, at_hook, IsFor}

-- the policy is within the limits of images, and safe within its budget
abbrev pub WasAccepted : Accepted → Type 0
WasAccepted policy = IsAccepted policy.slots policy.shapes (context_length_of policy.hook policy.version) policy.budget

-- there is no policy, or it was accepted and the maps are of its shapes
abbrev pub IsEquipped : Option Accepted → List (List ℕ) → Type 0
IsEquipped None maps = Unit {0}
IsEquipped (Some policy) maps = WasAccepted policy × HaveShapes policy.shapes maps

-- what is installed may be at this hook: its policy, if any, was accepted for it
abbrev pub MayBeInstalled : Hook → InstalledFacts → Type 0
MayBeInstalled hook installed = IsFor hook installed.policy × IsEquipped installed.policy installed.maps

-- whatever is installed at the hooks of a processor may be there
abbrev pub AreReady : HooksFacts → Type 0
AreReady hooks = (hook : Hook) → MayBeInstalled hook (at_hook hook hooks)

-- a policy was accepted, and is shown a context of its length, maps of its shapes, a clock reading and a processor's number
pub record IsAsked (policy : Accepted) (context : List ℕ) (maps : List (List ℕ)) (now processor : ℕ) : Type 0 where
  pub accepted : WasAccepted policy
  pub long : length context ≡ context_length_of policy.hook policy.version
  pub bytes : (i : ℕ) → slice_index context i < 256
  pub shapes : HaveShapes policy.shapes maps
  pub now_fits : now < 2 ^ 64
  pub processor_fits : processor < 2 ^ 32

-- a run of the policy on what it is shown gives that answer, in this many steps
pub record HasAnswered (policy : Accepted) (done : RunResult) : Type 0 where
  pub context : List ℕ
  pub maps : List (List ℕ)
  pub left : List (List ℕ)
  pub now : ℕ
  pub processor : ℕ
  pub calls : List CounterCall
  pub asked : IsAsked policy context maps now processor
  pub answers : Answers policy context maps now processor done.r0 left done.steps calls
  pub within : RunsWithin policy done.steps calls

-- what is remembered is an answer of that policy; nothing is remembered if there is no policy
abbrev pub WasAnswered : Option Accepted → Option RunResult → Type 0
WasAnswered policy None = Unit {0}
WasAnswered None (Some done) = ⊥
WasAnswered (Some policy) (Some done) = HasAnswered policy done
