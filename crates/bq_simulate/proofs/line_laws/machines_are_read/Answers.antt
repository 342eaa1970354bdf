use Rattle.bq_simulate.proofs.LineLawLemmas as LineLaws
use Rattle.bq_simulate.proofs.line_laws.machines_are_read.Goals as goal

pub returns : goal.returns
returns c = LineLaws.machines_are_read
