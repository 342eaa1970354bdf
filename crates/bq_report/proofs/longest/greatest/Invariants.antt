use Rattle.std.proofs.Common.{◌≡◌, ℕ, ◌<◌, ◌≤◌, get_or}
use Rattle.std.specs.Option.{MatchOption}
use Rattle.bq_report.specs.Longest.{IsFirstGreatest}
use Rattle.bq_report.proofs.longest.greatest.Given as goal

-- the greatest time of the places so far, and the first at which it is
abbrev pub invariant-loop-task : goal.invariant-loop-task
invariant-loop-task l = record {
  within : l.task ≤ 1024;
  most : (task : ℕ) → task < l.task → get_or l.times task 0 ≤ l.most;
  place : MatchOption l.greatest (l.most ≡ 0)
      (λ found. (get_or l.times found 0 ≡ l.most) × IsFirstGreatest l.task (λ task. get_or l.times task 0) found);
}
