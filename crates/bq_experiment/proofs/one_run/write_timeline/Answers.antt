-- What stopped the view stopped the run.
use Rattle.bq_experiment.specs.Faults.{IsNoEnd}
use Rattle.bq_experiment.proofs.ViewLemmas.{IsStopped-by}
use Rattle.bq_experiment.proofs.one_run.write_timeline.Goals as goal

pub returns-in-Err-clause-fault : goal.returns-in-Err-clause-fault
returns-in-Err-clause-fault g c =
    IsStopped-by (IsNoEnd c.args.policies.now.loaded c.args.workload.now c.args.run.now.left) c.in-Err.fault
    c.write_rest.result _ c.in-Err.ensures.fault c.write_rest.ensures
