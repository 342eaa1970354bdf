use Rattle.bq_simulate.proofs.StaysOnTimeLemmas as Times
use Rattle.bq_simulate.proofs.agreement_laws.tasks_run_alone.Goals as goal

pub returns : goal.returns
returns c = Times.tasks_run_alone
