use Rattle.std.proofs.Common.{◌≡◌, ◌∙◌, ◌<◌, ap, arith, subst, sym, unwrap_or}
use Rattle.bq_report.specs.Maps.{letter_at}
use Rattle.bq_report.proofs.LegendLemmas.{letter_ascii}
use Rattle.bq_report.proofs.legend.letter_at.Goals as goal

pub returns-clause-letter : goal.returns-clause-letter
returns-clause-letter c =
    c.unwrap_or.ensures ∙ ap (λ letter. unwrap_or letter 42) c.copied.ensures ∙ c.get.ensures.lookup.4 (omega arith) 42

pub returns-clause-ascii : goal.returns-clause-ascii
returns-clause-ascii c =
    let is : c.unwrap_or.result ≡ letter_at c.args.place =
    c.unwrap_or.ensures ∙ ap (λ letter. unwrap_or letter 42) c.copied.ensures ∙ c.get.ensures.lookup.4 (omega arith) 42 in
    subst (λ letter. letter < 128) (sym is) (letter_ascii c.args.place)
