use Rattle.std.proofs.Common.{◌∙◌}
use Rattle.bq_console.proofs.TableLemmas.{tables-next}
use Rattle.bq_console.proofs.tables.with_tables.Goals as goal

pub tables-preserved : goal.tables-preserved
tables-preserved c = record {
  app = tables-next _ _ c.args.tables.now c.tables.table-index _ c.tables-test.true c.in_ok-command.ensures.app ∙ c.tables.invariant.app;
  globals = c.in_ok-command.ensures.globals ∙ c.tables.invariant.globals;
}
