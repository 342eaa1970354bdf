use Rattle.std.proofs.Common.{◌≡◌, drop}
use Rattle.clap.specs.Words.{app_of}
use Rattle.clap.specs.declared.builder.command.Command.TheViews.{out-Command as fields_of}
use Rattle.bq_console.specs.Tables.{options_of, with_rules}
use Rattle.bq_console.proofs.tables.with_tables.Given as goal

-- the tables that are left lead where all lead
abbrev pub invariant-tables : goal.invariant-tables
invariant-tables l = record {
  app : with_rules (app_of l.command) (options_of (drop l.table-index l.tables))
      ≡ with_rules (app_of l.initial.command) (options_of l.tables);
  globals : (fields_of l.command).has_globals ≡ (fields_of l.initial.command).has_globals;
}
