use Rattle.std.proofs.Common.{rules}
use Rattle.std.proofs.lemmas.Fmt.{decimal_digit}
use Rattle.bq_trace.proofs.NumberTextLemmas.{adds_two_digits}
use Rattle.bq_trace.proofs.texts.write_number.Goals as goal

pub returns-then-number-lt10 : goal.returns-then-number-lt10
returns-then-number-lt10 c = rw (decimal_digit c.args.number (search rules)) (search rules)

pub returns-then-number-lt100 : goal.returns-then-number-lt100
returns-then-number-lt100 c = search (rules, adds_two_digits)
