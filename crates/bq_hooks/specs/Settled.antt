-- A settled choice: a policy's answer if it is permitted, else the discipline's own.
use Rattle.std.specs.Prelude.{ℕ, Bool, Option, Some, None, if◌then◌else◌}
use Rattle.bq_hooks.specs.declared.settled.By.{By}
use Rattle.bq_hooks.specs.declared.settled.By.TheVariants.{Policy, Discipline}

-- a choice, and who made it
pub record Settled : Type 0 where
  pub choice : ℕ
  pub by : By

-- the settled choice, given which answers are permitted, the policy's answer if one was asked, and the own choice
abbrev pub settled : (ℕ → Bool) → Option ℕ → ℕ → Settled
settled permitted None own = record { choice = own; by = Discipline }
settled permitted (Some r0) own = if permitted r0 then record { choice = r0; by = Policy } else record { choice = own; by = Discipline }
