use Rattle.std.proofs.Common.{◌∙◌, ◌||◌, ap}
use Rattle.std.proofs.Math.Bool.{or-false}
use Rattle.clap.specs.Words.{app_of, with_rule}
use Rattle.clap.specs.declared.builder.command.Command.TheViews.{out-Command as fields_of}
use Rattle.bq_console.proofs.TableLemmas.{options-next}
use Rattle.bq_console.proofs.tables.with_options.Goals as goal

pub options-preserved : goal.options-preserved
options-preserved c = record {
  app =
      options-next _ _ c.args.options.now c.options.text-index _ c.options-test.true
      (c.in_ok-command.ensures.shape c.option.ensures.local ∙ ap (λ r. with_rule (app_of c.options.command) r) c.option.ensures.rule)
      ∙ c.options.invariant.app;
  globals =
      c.in_ok-command.ensures.globals ∙ ap (λ b. (fields_of c.options.command).has_globals || b) c.option.ensures.local
      ∙ or-false _ ∙ c.options.invariant.globals;
}
