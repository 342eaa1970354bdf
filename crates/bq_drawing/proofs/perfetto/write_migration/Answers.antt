use Rattle.std.proofs.lemmas.Result.{on_ok_weaker}
use Rattle.bq_drawing.proofs.PerfettoLemmas.{migration_written}
use Rattle.bq_drawing.proofs.perfetto.write_migration.Goals as goal

pub returns : goal.returns
returns c =
    on_ok_weaker _ (migration_written c.args.arrow c.args.run c.in-Some.run' c.from-track.result c.saturating_sub-at.result _ _ c.in-Some.is
    c.from-track.ensures c.saturating_sub-at.ensures)
    c.write_beginning.ensures
