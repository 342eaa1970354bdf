-- What is known of an Install whose arguments are not refused: its processor is there, and its policy is for the hook.
use Rattle.std.proofs.Common.{◌≡◌, ℕ, ◌<◌, true, Option, Some, None, refl}
use Rattle.std.specs.Prelude.{not}
use Rattle.std.proofs.lemmas.Bool.{not-false}
use Rattle.bq_parts.specs.declared.event.Event.TheVariants.{Install}
use Rattle.bq_hooks.specs.declared.hook.Hook.{Hook}
use Rattle.bq_hooks.specs.declared.hook.Hook.TheVariants.{Place, Preempt, Pull}
use Rattle.bq_verify.specs.Accepted.{Accepted}
use Rattle.bq_installed.specs.Installed.{IsFor}
use Rattle.bq_parts.specs.declared.refusal.Refusal.TheVariants as no
use Rattle.bq_parts.specs.Refusals.{argument_refusal, same_hook, is_for}
use Rattle.bq_parts.proofs.RefusalLemmas.{not_refused_is_there, first_refusal_passed}

-- equal hooks are one
one_hook : (a b : Hook) → same_hook a b ≡ true → b ≡ a
one_hook Place Place h = refl
one_hook Place Preempt h = cc
one_hook Place Pull h = cc
one_hook Preempt Place h = cc
one_hook Preempt Preempt h = refl
one_hook Preempt Pull h = cc
one_hook Pull Place h = cc
one_hook Pull Preempt h = cc
one_hook Pull Pull h = refl

-- a policy, or none, that passes the test for a hook was verified for that hook
for_by_case : (h : Hook) (o : Option Accepted) → is_for h o ≡ true → IsFor h o
for_by_case h None e = tt
for_by_case h (Some p) e = one_hook h p.hook e

-- where no argument is refused the processor is there
pub install_there : (count processor g : ℕ) (h : Hook) (o : Option Accepted)
    → argument_refusal count (Install processor h g o) ≡ None → processor < count
install_there count processor g h o e = (not_refused_is_there count processor _ e).0

-- where no argument of an install is refused the policy was verified for the hook
pub install_suits : (count processor g : ℕ) (h : Hook) (o : Option Accepted)
    → argument_refusal count (Install processor h g o) ≡ None → IsFor h o
install_suits count processor g h o e =
    for_by_case h o
    (not-false (is_for h o) (first_refusal_passed (not (is_for h o)) no.WrongHook None (not_refused_is_there count processor _ e).1).0)
