use Rattle.std.proofs.Common.{◌≡◌, ◌<◌, ◌≤◌, ◌-◌}
use Rattle.bq_policy_run.specs.Runs.{AreRunsOn, FitsProgram}
use Rattle.bq_policy_run.proofs.one_run.run_often.Given as goal

abbrev pub invariant-loop-done : goal.invariant-loop-done
invariant-loop-done l = record {
  within : l.done ≤ l.count;
  runs : AreRunsOn l.verified l.initial.inputs l.done l.inputs;
  left : l.done ≡ 0 → l.inputs ≡ l.initial.inputs;
  fits : 0 < l.done → FitsProgram l.verified l.initial.inputs;
  shapes : l.inputs.maps.shapes ≡ l.initial.inputs.maps.shapes;
  context : l.inputs.context ≡ l.initial.inputs.context;
  env : l.inputs.env ≡ l.initial.inputs.env;
}

abbrev pub decreases-loop-done : goal.decreases-loop-done
decreases-loop-done l = l.count - l.done
