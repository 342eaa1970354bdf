-- CFS keeps the laws of a discipline.
use Rattle.std.specs.Prelude.{refl}
use Rattle.bq_disc.specs.Tasks.{runs_before}
use Rattle.bq_disc.specs.Discipline.{IsLawful}
use Rattle.bq_disc.specs.Orders.{first_by-member, first_by-exists}
use Rattle.bq_disc.proofs.SetLemmas.{first_by-same, runs_before-IsOrder}
use Rattle.bq_cfs.specs.Cfs.{cfs}

-- CFS obeys the laws of a discipline
pub cfs_lawful : IsLawful cfs
cfs_lawful = record {
  exists = first_by-exists runs_before;
  nobody = refl;
  member = first_by-member runs_before;
  same = first_by-same runs_before runs_before-IsOrder;
}
