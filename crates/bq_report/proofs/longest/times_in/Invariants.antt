use Rattle.std.proofs.Common.{◌≡◌, ℕ, ◌<◌, ◌≤◌, ◌*◌, ◌^◌, get_or, take, vec_len}
use Rattle.bq_report.specs.Longest.{task_time_between}
use Rattle.bq_report.proofs.longest.times_in.Given as goal

-- each task's time among the runs so far, which is less than 2^64 a run
abbrev pub invariant-loop-run : goal.invariant-loop-run
invariant-loop-run l = record {
  places : vec_len l.times ≡ 1024;
  times : (task : ℕ) → task < 1024 → get_or l.times.items task 0 ≡ task_time_between l.from l.to (take l.run-index l.runs) task;
  bound : (task : ℕ) → task < 1024 → get_or l.times.items task 0 ≤ l.run-index * 2 ^ 64;
}
