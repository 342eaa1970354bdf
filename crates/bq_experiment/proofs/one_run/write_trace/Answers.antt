-- What comes of the run is written, piece by piece and then the rest.
use Rattle.std.proofs.Common.{◌≡◌}
use Rattle.bq_simulate.specs.declared.fault.SimulateFault.TheVariants.{Enough}
use Rattle.bq_streams.specs.Counts.{counted_inner}
use Rattle.bq_experiment.specs.Faults.{IsNoEnd}
use Rattle.bq_experiment.specs.Limits.{IsLonger}
use Rattle.bq_experiment.specs.PoliciesAndImages.{image_for}
use Rattle.bq_experiment.proofs.TraceLemmas.{TakesRun, longer_named, run_written}
use Rattle.bq_experiment.proofs.ViewLemmas.{IsStopped-by}
use Rattle.bq_experiment.proofs.one_run.write_trace.Goals as goal

pub returns-in-Ok-write_text-clause-written : goal.returns-in-Ok-write_text-clause-written
returns-in-Ok-write_text-clause-written g c =
    let contents = g.W.Write.contents in
    let policies = c.args.policies.now in
    run_written contents c.args.run.now c.simulate_into.new.sink (contents (counted_inner c.write_text.new.self.output))
    c.args.workload.now policies.loaded (image_for policies.images) c.requires.empty c.requires.images
    c.in-Ok.ensures.of_images c.in-Ok.ensures.sound c.in-Ok.ensures.wants c.in-Ok.ensures.reported
    c.in-Ok-write_text.ensures.added

-- where the limit was passed, more came
pub returns-in-Err-clause-fault : goal.returns-in-Err-clause-fault
returns-in-Err-clause-fault g c =
    let policies = c.args.policies.now.loaded in
    let w = c.args.workload.now in
    let old = c.args.run.now in
    let stated = c.in-Err.ensures in
    let longer : c.in-Err.fault ≡ Enough → IsLonger policies w old.left = λ enough.
    let got = stated.enough enough in
    longer_named (TakesRun g.W.Write.contents) old c.simulate_into.new.sink policies w got.0 c.requires.over got.1.0 got.1.1 in
    IsStopped-by (IsNoEnd policies w old.left) c.in-Err.fault c.write_rest.result _
    (record { flaw = stated.flaw; ends = stated.ends; longer = longer }) c.write_rest.ensures
