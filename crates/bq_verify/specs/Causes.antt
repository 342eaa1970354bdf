-- The numbers of the reasons for which a program is refused.
use Rattle.std.specs.Prelude.{ℕ}
use Rattle.bq_verify.specs.GraphCauses.{graph_cause_number}
use Rattle.bq_transfer.specs.Obligations.{obligation_number}
use Rattle.bq_verify.specs.declared.cause.Cause.{Cause}
use Rattle.bq_verify.specs.declared.cause.Cause.TheVariants.{Graph, State}

-- the number of a cause, after the letter V
abbrev pub cause_number : Cause → ℕ
cause_number (Graph cause) = graph_cause_number cause
cause_number (State obligation) = obligation_number obligation
