-- What the end of a wake answers.
use Rattle.std.specs.Prelude.{◌≡◌, ℕ, Result, Ok}
use Rattle.bq_hooks.specs.declared.settled.By.{By}
use Rattle.bq_parts.specs.declared.reply.Reply.{Reply}
use Rattle.bq_parts.specs.declared.reply.Reply.TheVariants.{Placed}
use Rattle.bq_parts.specs.declared.refusal.Refusal.{Refusal}

-- the task was placed
abbrev pub WasPlaced : ℕ → Result Reply Refusal → Type 0
WasPlaced task r = (to : ℕ) × (by : By) × (steps : ℕ) × (r ≡ Ok (Placed task to by steps))
