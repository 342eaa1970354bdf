-- What is installed at the hooks of a processor.
use Rattle.std.specs.Prelude.{◌≡◌, ℕ, List, [], Option, Some, None, IfSome}
use Rattle.bq_bpf.specs.declared.board.CounterCall.{CounterCall}
use Rattle.bq_hooks.specs.declared.hook.Hook.{Hook}
use Rattle.bq_hooks.specs.declared.hook.Hook.TheVariants.{Place, Preempt, Pull}
use Rattle.bq_verify.specs.Accepted.{Accepted}
use Rattle.bq_installed.specs.Answers.{Answers}

-- what is installed at a hook: a policy or none, its generation, and the bytes of its own maps
pub record InstalledFacts : Type 0 where
  pub policy : Option Accepted
  pub generation : ℕ
  pub maps : List (List ℕ)

-- what is installed at the three hooks of a processor
pub record HooksFacts : Type 0 where
  pub place : InstalledFacts
  pub preempt : InstalledFacts
  pub pull : InstalledFacts

-- nothing has been installed at the hook yet
abbrev pub nothing_installed : InstalledFacts
nothing_installed = record { policy = None; generation = 0; maps = [] }

-- nothing has been installed at any hook yet
abbrev pub new_hooks : HooksFacts
new_hooks = record { place = nothing_installed; preempt = nothing_installed; pull = nothing_installed }

-- what is installed at a hook
abbrev pub at_hook : Hook → HooksFacts → InstalledFacts
at_hook Place hooks = hooks.place
at_hook Preempt hooks = hooks.preempt
at_hook Pull hooks = hooks.pull

-- what is installed at the hooks, with a new one at this hook
abbrev pub with_installed : Hook → HooksFacts → InstalledFacts → HooksFacts
with_installed Place hooks new = record hooks { place = new }
with_installed Preempt hooks new = record hooks { preempt = new }
with_installed Pull hooks new = record hooks { pull = new }

-- the policy, if there is one, was verified for this hook
abbrev pub IsFor : Hook → Option Accepted → Type 0
IsFor hook None = Unit {0}
IsFor hook (Some policy) = policy.hook ≡ hook

-- there is an installed policy, and on this context it answers r0 and leaves these maps
abbrev pub AnswersAt : InstalledFacts → List ℕ → ℕ → ℕ → ℕ → List (List ℕ) → ℕ → List CounterCall → Type 0
AnswersAt installed context now processor r0 maps' steps calls = IfSome installed.policy (λ p. Answers p context installed.maps now processor r0 maps' steps calls)

-- a policy with maps of its own: the accepted program, and the bytes of its maps
abbrev pub EquippedFacts : Type 0
EquippedFacts = Accepted × List (List ℕ)

-- the policy that has maps of its own
abbrev pub policy_of : EquippedFacts → Accepted
policy_of equipped = equipped.0

-- the maps that the policy has
abbrev pub maps_of : EquippedFacts → List (List ℕ)
maps_of equipped = equipped.1

-- the policy, if there is one
abbrev pub policy_in : Option EquippedFacts → Option Accepted
policy_in None = None
policy_in (Some equipped) = Some (policy_of equipped)

-- the policy's maps; none if there is no policy
abbrev pub maps_in : Option EquippedFacts → List (List ℕ)
maps_in None = []
maps_in (Some equipped) = maps_of equipped
