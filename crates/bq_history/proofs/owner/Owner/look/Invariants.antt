use Rattle.bq_history.specs.Whole.{Has}
use Rattle.bq_history.proofs.owner.Owner.look.Given as goal

abbrev pub ghosts-look_for : goal.ghosts-look_for
ghosts-look_for g a = record { fact = Has g.L.Law.same (g.L.Law.good a.self.now) g.L.Law.fits a.holder.now }
