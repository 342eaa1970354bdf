-- Why the running task runs.
use Rattle.std.specs.Prelude.{ℕ, ◌+◌, ◌-◌, ◌==◌, nat_lt, if◌then◌else◌, List, Option, Some, None}
use Rattle.bq_cfs.specs.declared.discipline.TheConstants.{GRANULARITY}
use Rattle.bq_hooks.specs.declared.settled.By.{By}
use Rattle.bq_hooks.specs.declared.settled.By.TheVariants as who
use Rattle.bq_words.specs.declared.discipline_name.DisciplineName.{DisciplineName}
use Rattle.bq_words.specs.declared.discipline_name.DisciplineName.TheVariants.{Cfs, Eevdf}
use Rattle.bq_disc.specs.Tasks.{Task, find_task}
use Rattle.bq_cfs.specs.Cfs.{cfs}
use Rattle.bq_eevdf.specs.Eevdf.{eevdf}
use Rattle.bq_why.specs.declared.reasons.Reason.{Reason}
use Rattle.bq_why.specs.declared.reasons.Reason.TheVariants.{Nobody, Policy, EarliestDeadline, LeastRuntime, GivesWay, Stays, Other}

-- under EEVDF: whether the running task is the choice
abbrev pub eevdf_reason_of : ℕ → Option Task → Reason
eevdf_reason_of run None = Other
eevdf_reason_of run (Some t) = if t.id == run then EarliestDeadline else Other

-- the task of least v runs: if the task that ran is more than 1,000,000 ahead of it, that task gives way
abbrev pub least_reason_of : Option Task → Task → Reason
least_reason_of None l = LeastRuntime
least_reason_of (Some ran) l = if nat_lt (l.v + GRANULARITY) ran.v then GivesWay (ran.v - l.v) else LeastRuntime

-- under CFS: the running task has the least v, or it runs on although another task has less
abbrev pub cfs_reason_of : Option Task → Option Task → Option Task → Reason
cfs_reason_of ran (Some l) (Some r) = if r.id == l.id then least_reason_of ran l else Stays (r.v - l.v) l.id
cfs_reason_of ran l r = Other

-- the task that ran before, if it is still there
abbrev pub still_there : Option ℕ → List Task → Option Task
still_there None xs = None
still_there (Some id) xs = find_task id xs

-- the discipline's reason, by the tasks that are there, the task that ran before and the running one
abbrev pub rule_reason_of : DisciplineName → Option ℕ → ℕ → List Task → Reason
rule_reason_of Eevdf was run xs = eevdf_reason_of run (eevdf.choice xs)
rule_reason_of Cfs was run xs = cfs_reason_of (still_there was xs) (cfs.choice xs) (find_task run xs)

-- the reason, by who chose: it names a policy exactly when a policy made the choice
abbrev pub reason_of : DisciplineName → By → Option ℕ → Option ℕ → List Task → Reason
reason_of discipline by was None xs = Nobody
reason_of discipline who.Policy was (Some run) xs = Policy
reason_of discipline who.Discipline was (Some run) xs = rule_reason_of discipline was run xs
