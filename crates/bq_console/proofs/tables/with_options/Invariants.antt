use Rattle.std.proofs.Common.{◌≡◌, drop, map}
use Rattle.clap.specs.Words.{app_of}
use Rattle.clap.specs.declared.builder.command.Command.TheViews.{out-Command as fields_of}
use Rattle.bq_console.specs.Tables.{option_of, with_rules}
use Rattle.bq_console.proofs.tables.with_options.Given as goal

-- the options that are left lead where all lead
abbrev pub invariant-options : goal.invariant-options
invariant-options l = record {
  app : with_rules (app_of l.command) (map option_of (drop l.text-index l.options))
      ≡ with_rules (app_of l.initial.command) (map option_of l.options);
  globals : (fields_of l.command).has_globals ≡ (fields_of l.initial.command).has_globals;
}
