-- The numbers of the reasons for which a program is refused by its control graph or by a single instruction.
use Rattle.std.specs.Prelude.{ℕ}
use Rattle.bq_verify.specs.declared.graph_cause.GraphCause.{GraphCause}
use Rattle.bq_verify.specs.declared.graph_cause.GraphCause.TheVariants.{Jump, NoExit, Unreached, Helper, Frame, Counters}

-- the number of a cause, after the letter V
abbrev pub graph_cause_number : GraphCause → ℕ
graph_cause_number Jump = 1
graph_cause_number NoExit = 2
graph_cause_number Unreached = 3
graph_cause_number Helper = 7
graph_cause_number Frame = 10
graph_cause_number Counters = 11
