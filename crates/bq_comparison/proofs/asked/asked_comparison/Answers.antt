use Rattle.std.proofs.Common.{rules, refl}
use Rattle.bq_comparison.proofs.asked.asked_comparison.Goals as goal

pub returns-clause-asked : goal.returns-clause-asked
returns-clause-asked c = (
  search rules,
  record {
    seeds = search rules;
    settings = c.in-Ok.settings;
    shown = c.in-Ok.ensures.asked;
    whole = search rules;
    window = refl;
    names = refl;
    form = search rules;
  },
)
