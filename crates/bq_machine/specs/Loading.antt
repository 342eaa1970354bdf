-- The answers to the load of an image.
use Rattle.std.specs.Prelude.{◌≡◌, ◌⊎◌, ℕ, true, false, List, Option, None, Some, Ok}
use Rattle.bq_hooks.specs.declared.hook.Hook.{Hook}
use Rattle.bq_verify.specs.Accepted.{Accepted}
use Rattle.bq_load.specs.declared.fault.LoadFault.{LoadFault}
use Rattle.bq_load.specs.Answers.{Loads, IsUnloaded}
use Rattle.bq_parts.specs.declared.event.Event.TheVariants.{Draw}
use Rattle.bq_parts.specs.declared.reply.Reply.TheVariants.{Drawn}
use Rattle.bq_parts.specs.declared.refusal.Refusal.TheVariants as no
use Rattle.bq_parts.specs.Refusals.{is_for}
use Rattle.bq_machine.specs.Calls.{AreInstalls}
use Rattle.bq_machine.specs.declared.loading_calls.LoadReceipts.{LoadReceipts}
use Rattle.bq_machine.specs.declared.loading_calls.LoadRefused.{LoadRefused}
use Rattle.bq_machine.specs.declared.loading_calls.LoadRefused.TheVariants as why

-- the policy of an image, or none if there is no image
abbrev pub IsPolicyOfImage : Option (List ℕ) → Option Accepted → Type 0
IsPolicyOfImage None None = Unit {0}
IsPolicyOfImage (Some bytes) (Some v) = Loads bytes v
IsPolicyOfImage image policy = ⊥

-- what a load of an image, or of none, recorded for this hook at all processors: it drew a generation, and under that it
-- installed the image's policy, or none, at each of them
pub record IsLoad (count : ℕ) (hook : Hook) (image : Option (List ℕ)) (loaded : LoadReceipts) : Type 0 where
  pub draw : loaded.draw.entry.event ≡ Draw
  pub generation : ℕ
  pub drawn : loaded.draw.entry.reply ≡ Ok (Drawn generation)
  pub policy : Option Accepted
  pub of_image : IsPolicyOfImage image policy
  pub fits : is_for hook policy ≡ true
  pub installs : AreInstalls 0 count hook generation policy loaded.installs.items

-- the fault that loading the image answers
abbrev pub IsFaultOf : Option (List ℕ) → LoadFault → Type 0
IsFaultOf None f = ⊥
IsFaultOf (Some bytes) f = IsUnloaded bytes f

-- An image that does not load is answered by its fault. One that loads is refused if it is for another hook, else only if
-- memory runs out
abbrev pub IsLoadRefused : Hook → Option (List ℕ) → LoadRefused → Type 0
IsLoadRefused hook image (why.Fault f) = IsFaultOf image f
IsLoadRefused hook image (why.Refusal e) =
    (policy : Option Accepted) × IsPolicyOfImage image policy
    × (((is_for hook policy ≡ false) × (e ≡ no.WrongHook)) ⊎ ((is_for hook policy ≡ true) × (e ≡ no.OutOfMemory)))
