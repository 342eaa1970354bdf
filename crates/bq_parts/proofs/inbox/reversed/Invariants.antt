use Rattle.std.proofs.Common.{◌≡◌, ◌++◌}
use Rattle.std.specs.Prelude.{reverse}
use Rattle.bq_disc.specs.Chains.{chain_behind, IsStraightBehind}
use Rattle.bq_parts.proofs.inbox.reversed.Given as goal

abbrev pub invariant-loop-rest : goal.invariant-loop-rest
invariant-loop-rest l = record {
  rest_straight : IsStraightBehind l.rest;
  done_straight : IsStraightBehind l.done;
  turned : reverse (chain_behind l.rest) ++ chain_behind l.done ≡ reverse (chain_behind l.fn.link);
}
