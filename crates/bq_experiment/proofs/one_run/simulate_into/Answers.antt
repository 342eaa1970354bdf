-- The names of the tasks are reported, and then the simulation.
use Rattle.std.proofs.Common.{List, true, ap, map, refl, subst, sym, ◌++◌, ◌∙◌}
use Rattle.std.proofs.lemmas.Result.{err_from_is_err_and}
use Rattle.bq_trace.specs.TraceEvents.{Gets}
use Rattle.bq_trace.proofs.TakingLemmas.{TakesAll-append}
use Rattle.bq_simulate.specs.Faults.{reported_flaw}
use Rattle.bq_simulate.specs.Simulations.{Accepted, IsFollowed, IsSimulation}
use Rattle.bq_experiment.specs.Names.{comments_of}
use Rattle.bq_experiment.specs.Traces.{skipped}
use Rattle.bq_experiment.proofs.ViewLemmas.{no_other}
use Rattle.bq_experiment.proofs.one_run.simulate_into.Goals as goal

pub returns-clause-reported : goal.returns-clause-reported
returns-clause-reported g c =
    let takes = g.S.Sink.takes in
    let w = c.args.workload.now in
    let named = c.report_names.new.sink in
    let run =
    subst (λ (l : List Accepted). Gets takes named c.simulate.new.sink (IsSimulation l w)) c.loaded.ensures.value
    c.in_ok-simulate.ensures.reported in
    record {
      reported = map skipped (comments_of w) ++ run.reported;
      taken =
          TakesAll-append takes c.args.sink.now named c.simulate.new.sink (map skipped (comments_of w)) run.reported
          c.in_ok-report_names.ensures.reported run.taken;
      holds = record { more = run.reported; holds = run.holds; whole = refl };
    }

pub returns-in_err-simulate-clause-flaw : goal.returns-in_err-simulate-clause-flaw
returns-in_err-simulate-clause-flaw g c =
    let p = err_from_is_err_and c.from_residual-in_err-simulate.result c.from_residual-in_err-simulate.ensures.1 in
    rw (p.1, p.2) (no_other c.args.workload.now c.in_err-simulate.field-0.0 c.in_err-simulate.ensures.flaw)

-- where the sink has enough, it got the names, and the simulation as far as it came
pub returns-in_err-simulate-clause-enough : goal.returns-in_err-simulate-clause-enough
returns-in_err-simulate-clause-enough g c =
    let p = err_from_is_err_and c.from_residual-in_err-simulate.result c.from_residual-in_err-simulate.ensures.1 in
    let takes = g.S.Sink.takes in
    let w = c.args.workload.now in
    let named = c.report_names.new.sink in
    let stated = c.in_err-simulate.ensures in
    rw (p.1, p.2) (λ enough.
    let got = stated.enough enough in
    let run = subst (λ (l : List Accepted). Gets takes named c.simulate.new.sink (IsFollowed true l w)) c.loaded.ensures.value got.1 in (
      sym stated.flaw ∙ ap reported_flaw enough,
      (
        got.0,
        record {
          reported = map skipped (comments_of w) ++ run.reported;
          taken =
              TakesAll-append takes c.args.sink.now named c.simulate.new.sink (map skipped (comments_of w)) run.reported
              c.in_ok-report_names.ensures.reported run.taken;
          holds = record { more = run.reported; holds = run.holds; whole = refl };
        },
      ),
    ))
