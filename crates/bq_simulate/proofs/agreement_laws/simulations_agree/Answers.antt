use Rattle.bq_simulate.proofs.SimulationAgreeLemmas as Simulations
use Rattle.bq_simulate.proofs.agreement_laws.simulations_agree.Goals as goal

pub returns : goal.returns
returns c = Simulations.simulations_agree
