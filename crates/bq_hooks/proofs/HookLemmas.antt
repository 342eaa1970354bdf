-- The words of hooks.
use Rattle.std.proofs.Common.{◌≡◌, Some, refl}
use Rattle.bq_hooks.specs.declared.hook.Hook.{Hook}
use Rattle.bq_hooks.specs.declared.hook.Hook.TheVariants.{Place, Preempt, Pull}
use Rattle.bq_hooks.specs.Hooks.{hook_word, hook_of}

-- the word of a hook names it
pub hook_of-hook_word : (hook : Hook) → hook_of (hook_word hook) ≡ Some hook
hook_of-hook_word Place = refl
hook_of-hook_word Preempt = refl
hook_of-hook_word Pull = refl
