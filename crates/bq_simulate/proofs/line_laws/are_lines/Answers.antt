use Rattle.bq_simulate.proofs.LineLawLemmas as LineLaws
use Rattle.bq_simulate.proofs.line_laws.are_lines.Goals as goal

pub returns : goal.returns
returns c = LineLaws.are_lines
