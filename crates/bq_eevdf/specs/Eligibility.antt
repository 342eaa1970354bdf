-- Eligibility: a task of least v is eligible.
use Rattle.std.specs.Prelude.{List, Contains, IsTrue}
use Rattle.bq_disc.specs.Tasks.{Task}
use Rattle.bq_disc.specs.Totals.{NoneBelow}
use Rattle.bq_eevdf.specs.Eevdf.{is_eligible}

-- the task of least v of a list is eligible
abbrev pub LeastIsEligible : Type 0
LeastIsEligible = (xs : List Task) (t : Task) → Contains xs t → NoneBelow t.v xs → IsTrue (is_eligible xs t)
