use Rattle.bq_schedule.proofs.ClockLemmas.{figures-clocks}
use Rattle.bq_schedule.proofs.laws.shows_clocks.Goals as goal

pub returns : goal.returns
returns c = figures-clocks
