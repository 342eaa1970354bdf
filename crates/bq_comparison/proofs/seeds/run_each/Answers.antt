use Rattle.std.proofs.Common.{rules, ◌≡◌, ◌+◌, ◌≤◌, length, arith}
use Rattle.std.proofs.lemmas.Result.{err_from_is_err_and}
use Rattle.bq_comparison.proofs.RunLemmas.{AreRuns-come, Comes-count, none_comes}
use Rattle.bq_comparison.proofs.seeds.run_each.Goals as goal

pub numbers-preserved : goal.numbers-preserved
numbers-preserved g c =
    let w = c.args.experiment.now.workload.now in
    let before = c.numbers.runs.items in
    let after = c.add_all.new.runs.items in
    let results = c.in_ok-results.results.items in
    let comes = c.in_ok-add_all.ensures.comes in
    let next : w.machine.seed + c.len-in-numbers.result ≡ w.machine.seed + length before = search (rules, arith) in
    let count : length after ≡ length before + length results = Comes-count before after results comes in
    let wave : length before + length results ≤ c.from-count.result = search (rules, arith) in
    record {
      runs_are =
          AreRuns-come c.args.experiment.now.policies.now w c.args.experiment.now.event_limit c.args.experiment.now.figures.now
          w.machine.seed _ before after results next c.numbers.invariant.runs_are c.in_ok-results.ensures.results comes;
      low = omega (arith, count, wave);
    }

pub returns-in_err-add_all-clause-fault : goal.returns-in_err-add_all-clause-fault
returns-in_err-add_all-clause-fault g c =
    let e = c.args.experiment.now in
    let before = c.numbers.runs.items in
    let results = c.in_ok-results.results.items in
    let next : e.workload.now.machine.seed + c.len-in-numbers.result ≡ e.workload.now.machine.seed + length before =
    search (rules, arith) in
    let wave : length before + length results ≤ c.from-count.result = search (rules, arith) in
    let few : length before + length results ≤ c.args.count = omega (arith, wave, c.from-count.ensures) in
    let p = err_from_is_err_and c.from_residual-in_err-add_all.result c.from_residual-in_err-add_all.ensures.1 in
    rw (p.1, p.2) (none_comes e.policies.now e.workload.now e.event_limit e.figures.now _ (length before) c.args.count results
    c.in_err-add_all.field-0.0 next few c.in_ok-results.ensures.results c.in_err-add_all.ensures.fault)
