-- The viewer has the names on its screen, and then took the simulation.
use Rattle.std.proofs.Common.{List, ap, subst, sym, ◌∙◌}
use Rattle.std.proofs.lemmas.Result.{err_from_is_err_and}
use Rattle.bq_simulate.specs.Faults.{reported_flaw}
use Rattle.bq_simulate.specs.Simulations.{Accepted}
use Rattle.bq_experiment.specs.Limits.{IsLonger}
use Rattle.bq_experiment.specs.Views.{IsViewed}
use Rattle.bq_experiment.proofs.LimitLemmas.{longer}
use Rattle.bq_experiment.proofs.ViewLemmas.{TakesRun, no_other, run_viewed}
use Rattle.bq_experiment.proofs.one_run.feed_viewer.Goals as goal

pub returns-clause-viewed : goal.returns-clause-viewed
returns-clause-viewed g c =
    let w = c.args.workload.now in
    let left = c.args.run.now.left in
    let new = c.simulate.new.sink in
    let seen : IsViewed c.loaded.result.now w left new.sink.sink.viewer =
    run_viewed g.W.Write.contents _ new c.loaded.result.now w c.in_ok-counts.ensures.reported c.in_ok-counts.ensures.wants
    (c.name_tasks.ensures.schedule ∙ c.requires.schedule) (c.name_tasks.ensures.bad_or_refused ∙ c.requires.bad_or_refused)
    c.in_ok-counts.ensures.sound in
    let ours : IsViewed c.args.policies.now.loaded w left new.sink.sink.viewer =
    subst (λ (l : List Accepted). IsViewed l w left new.sink.sink.viewer) c.loaded.ensures.value seen in
    record {
      reported = ours.reported;
      sound = ours.sound;
      few = ours.few;
      simulation = ours.simulation;
      schedule = c.count_missed.ensures.schedule ∙ ours.schedule;
      clean = c.count_missed.ensures.bad_or_refused ∙ ours.clean;
    }

-- where the limit was passed, more came
pub returns-in_err-counts-clause-fault : goal.returns-in_err-counts-clause-fault
returns-in_err-counts-clause-fault g c =
    let p = err_from_is_err_and c.from_residual-in_err-counts.result c.from_residual-in_err-counts.ensures.1 in
    let w = c.args.workload.now in
    let left = c.args.run.now.left in
    let stated = c.in_err-counts.ensures in
    rw (p.1, p.2) (record {
      flaw = no_other w c.in_err-counts.field-0.0 stated.flaw;
      ends = stated.ends;
      longer = λ enough.
          let got = stated.enough enough in
          subst (λ (l : List Accepted). IsLonger l w left) c.loaded.ensures.value
          (longer (TakesRun g.W.Write.contents) _ c.simulate.new.sink c.loaded.result.now w
          (sym stated.flaw ∙ ap reported_flaw enough) c.requires.over got.0 got.1);
    })
