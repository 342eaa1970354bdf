use Rattle.bq_simulate.proofs.WorldGenerationLemmas as Generations
use Rattle.bq_simulate.proofs.kept_laws.generations_are_newer.Goals as goal

pub returns : goal.returns
returns c = Generations.generations_are_newer
